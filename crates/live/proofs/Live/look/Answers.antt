-- `look` meets its contract: the table of kanji is lent, and lent the bits of its own kanji the edition is itself.
-- Assumes nothing.
use mathlib.Core.Path.{◌≡◌}
use Prim.Native.Nat.{ℕ}
use Rattle.rules.specs.Permits.{Permits}
use Rattle.rules.proofs.Editions.{lending_all}
use Rattle.names.specs.Calls.{judge_told}
use Rattle.live.specs.Live.{looked}
use Rattle.live.proofs.Live.look.Goals as goal

pub returns : goal.returns
returns c = lending_all (λ (E : ℕ → Permits). judge_told c.look_with.result ≡ looked E c.args.self) c.kanji_table-kanji.ensures c.look_with.ensures
