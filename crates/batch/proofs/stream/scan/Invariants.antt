-- `scan` meets its contract: after each turn the lines up to `at` are answered, and `at` is the start of a line.
-- Assumes nothing.
use Prim.Native.Nat.{◌-◌}
use lib.ListN.{length}
use Rattle.rules.specs.Editions.{today_with}
use Rattle.answer.specs.Answer.{answer_to, bad_answer}
use Rattle.batch.proofs.Turns.{Kept}
use Rattle.batch.proofs.stream.scan.Given as goal

abbrev pub invariant-loop-line : goal.invariant-loop-line
invariant-loop-line l = Kept (answer_to (today_with l.kanji)) bad_answer l.piece l.initial.out l.out l.at l.length

abbrev pub decreases-loop-line : goal.decreases-loop-line
decreases-loop-line l = length l.piece - l.at
