-- `held_with` meets its contract: what is found up to a character, and what is found from it on, are all at each turn.
-- Assumes nothing.
use Rattle.labels.proofs.Holding.{HeldSoFar}
use Rattle.labels.proofs.kinds.held_with.Given as goal

abbrev pub invariant-loop-c : goal.invariant-loop-c
invariant-loop-c l = HeldSoFar l.edition l.label l.kinds l.c-index
