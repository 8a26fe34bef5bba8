-- `next_with` meets its contract: the usual line is answered, of another its LF is looked for, and nothing was written before.
-- Assumes nothing.
use Rattle.answer.proofs.First.{answers, no_end, ends}
use Rattle.answer.proofs.next_with.Goals as goal

pub returns-in-Some : goal.returns-in-Some
returns-in-Some c = answers _ _ _ c.if-out-lt-MOST.false _ c.in-Some.ensures

pub returns-then-piece-end : goal.returns-then-piece-end
returns-then-piece-end c = no_end _ _ _ c.if-out-lt-MOST.false c.line_end-end.ensures c.if-piece-end.true c.in_default.ensures

pub returns : goal.returns
returns c = ends _ _ _ c.if-out-lt-MOST.false c.line_end-end.ensures c.if-piece-end.false c.in_default.ensures c.put_answer-length.ensures
