-- `wished_part` meets its contract: it lends the bits of the kanji, with which the edition in force is itself.
-- Assumes nothing.
use Rattle.rules.specs.Permits.{Permits}
use Rattle.rules.proofs.Editions.{lending}
use Rattle.wishes.specs.Wishes.{Hands}
use Rattle.wishes.proofs.wished_part.Goals as goal

pub returns : goal.returns
returns c =
    let a = c.args in
    let r = c.wished_part_with in
    lending (λ (P : Permits). Hands P a.first a.second r.result) 4 c.kanji_table-kanji.ensures r.ensures
