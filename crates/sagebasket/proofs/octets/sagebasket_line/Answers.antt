-- `sagebasket_line` meets its contract: it says what the call for a line says, which has room; the table of kanji is lent.
-- Assumes nothing.
use mathlib.Core.Path.{◌≡◌}
use lib.ListN.{length}
use Rattle.lists.specs.Front.{Puts}
use Rattle.rules.specs.Permits.{Permits}
use Rattle.rules.proofs.Editions.{lending}
use Rattle.answer.specs.Answer.{answer_to}
use Rattle.answer.specs.Answers.{wrote_told}
use Rattle.sagebasket.proofs.Reading.{line_length}
use borrow.Author.Rules.{rules}
use Rattle.sagebasket.proofs.octets.sagebasket_line.Goals as goal

pub returns : goal.returns
returns c =
    let a = c.args in
    let k : length a.out.now ≡ 256 = search rules in
    let r = c.answer_with in
    rw (c.unwrap_or.ensures, ← line_length r.result)
    (lending (λ (P : Permits). Puts (answer_to P a.line.now) a.out.now r.new.out 0 (wrote_told r.result).length) 4 c.kanji_table-kanji.ensures (rw k at r.ensures.text))
