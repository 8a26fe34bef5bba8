-- `look_host` meets its contract: the table of kanji is lent, and lent the bits of its own kanji the edition is itself.
-- Assumes nothing.
use mathlib.Core.Path.{◌≡◌}
use Rattle.rules.specs.Permits.{Permits}
use Rattle.rules.proofs.Editions.{lending}
use Rattle.hosts.specs.Hosts.{host_told}
use Rattle.live.specs.HostLooks.{host_looked}
use Rattle.live.proofs.Live.look_host.Goals as goal

pub returns : goal.returns
returns c = lending (λ (P : Permits). host_told c.look_host_with.result ≡ host_looked P c.args.self) 4 c.kanji_table-kanji.ensures c.look_host_with.ensures
