-- `check` meets its contract: it lends the bits of the kanji, with which the edition is itself.
-- Assumes nothing.
use Rattle.rules.specs.Permits.{Permits}
use Rattle.names.specs.Calls.{check_told, Checks}
use Rattle.rules.proofs.Editions.{lending}
use Rattle.names.proofs.checks.check.Goals as goal

pub returns : goal.returns
returns c =
    let a = c.args in
    let r = c.check_with in
    lending (λ (P : Permits). Checks P a.text.now a.out.now r.new.out (check_told r.result)) _ c.kanji_table-kanji.ensures r.ensures
