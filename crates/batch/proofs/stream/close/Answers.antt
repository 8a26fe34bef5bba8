-- `close` meets its contract: a line of up to 1,024 bytes is asked itself, and any line that is too long stands for the others.
-- Assumes nothing.
use native.Mathlib.Omega.{arith}
use Rattle.rules.specs.Editions.{today_with}
use Rattle.answer.specs.Answer.{answer_to, bad_answer}
use Rattle.answer.proofs.Answering.{long_line}
use Rattle.batch.proofs.Turns.{closes_short, closes_over}
use Rattle.batch.proofs.stream.close.Goals as goal

pub returns-then-count-le-LONGEST_LINE : goal.returns-then-count-le-LONGEST_LINE
returns-then-count-le-LONGEST_LINE c =
    let a = c.args in
    let P = today_with a.kanji.now in
    closes_short (answer_to P) bad_answer (long_line P) a.line (omega arith) c.answer_with.ensures

pub returns : goal.returns
returns c =
    let a = c.args in
    let P = today_with a.kanji.now in
    closes_over (answer_to P) bad_answer (long_line P) a.line (omega arith) c.answer_with-2.ensures
