-- `judge` meets its contract: it lends the bits of the kanji, with which the edition is itself.
-- Assumes nothing.
use mathlib.Core.Path.{◌≡◌}
use Rattle.rules.specs.Permits.{Permits}
use Rattle.hosts.specs.Hosts.{host_told, host_judged}
use Rattle.rules.proofs.Editions.{lending}
use Rattle.hosts.proofs.judges.judge.Goals as goal

pub returns : goal.returns
returns c = lending (λ (P : Permits). host_told c.judge_with.result ≡ host_judged P c.args.text.now) 4 c.kanji_table-kanji.ensures c.judge_with.ensures
