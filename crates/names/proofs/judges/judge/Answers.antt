-- `judge` meets its contract: it lends the bits of the kanji, with which the edition is itself.
-- Assumes nothing.
use mathlib.Core.Path.{◌≡◌}
use Rattle.rules.specs.Permits.{Permits}
use Rattle.names.specs.Calls.{judge_told, judged}
use Rattle.rules.proofs.Editions.{lending}
use Rattle.names.proofs.judges.judge.Goals as goal

pub returns : goal.returns
returns c = lending (λ (P : Permits). judge_told c.judge_with.result ≡ judged P c.args.text.now) _ c.kanji_table-kanji.ensures c.judge_with.ensures
