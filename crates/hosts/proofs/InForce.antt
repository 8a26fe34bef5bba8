-- The edition in force keeps the laws, so the theorems on hosts hold of it, and what was computed by the bits of the kanji does.
-- Assumes nothing.
use mathlib.Core.Path.{◌≡◌, refl}
use mathlib.Core.List.{List, map}
use mathlib.Core.Logic.{◌↔◌}
use Prim.Native.Nat.{ℕ}
use Rattle.lists.specs.Rows.{accepted}
use Rattle.rules.specs.Permits.{Permits}
use Rattle.rules.specs.Editions.{today}
use Rattle.rules.proofs.Editions.{today_laws, lending}
use Rattle.hosts.specs.Hosts.{host_rules, HostGranted}
use Rattle.hosts.specs.Tried.{said, meant, table, tried}
use Rattle.hosts.proofs.Exactly.{accepted_exactly}

-- a text is accepted as a host exactly where it has at most 256 code points, its normal form derives as one, and its ASCII form has at most 253
-- octets
pub accepted_today : (text : List ℕ) → (host_rules today text ≡ accepted) ↔ HostGranted today text
accepted_today = accepted_exactly today today_laws

pub hosts_tried_today : map (said today) table ≡ map meant table
hosts_tried_today = lending (λ (P : Permits). map (said P) table ≡ map meant table) 4 refl tried
