-- `to_ascii` meets its contract: it lends the bits of the kanji, with which the edition is itself.
-- Assumes nothing.
use Rattle.rules.specs.Permits.{Permits}
use Rattle.names.specs.Calls.{ascii_told, AsciiForms}
use Rattle.rules.proofs.Editions.{lending}
use Rattle.names.proofs.whole.to_ascii.Goals as goal

pub returns : goal.returns
returns c =
    let a = c.args in
    let r = c.to_ascii_with in
    lending (λ (P : Permits). AsciiForms P a.text.now a.out.now r.new.out (ascii_told r.result)) _ c.kanji_table-kanji.ensures r.ensures
