-- `finish_with` meets its contract: with no byte carried there is no last line, and otherwise the carried line is closed.
-- Assumes nothing.
use native.Mathlib.Omega.{arith}
use Rattle.rules.specs.Editions.{today_with}
use Rattle.answer.specs.Answer.{answer_to, bad_answer}
use Rattle.batch.proofs.Feeding.{end_none, end_last}
use Rattle.batch.proofs.stream.finish_with.Goals as goal

pub returns-then-line-eq0 : goal.returns-then-line-eq0
returns-then-line-eq0 c =
    let a = c.args in
    rw c.then_some.ensures (end_none (answer_to (today_with a.kanji.now)) bad_answer a.line a.out.now (omega arith))

pub returns : goal.returns
returns c =
    let a = c.args in
    end_last (answer_to (today_with a.kanji.now)) bad_answer a.line a.out.now _ c.if-line-eq0.false c.close.ensures
