-- `decode_up_to_fault` meets its contract: at each turn what was written and what is left to decode make the whole.
-- Assumes nothing.
use Rattle.utf8.proofs.Decoding.{Kept}
use Rattle.utf8.proofs.decode_up_to_fault.Given as goal

abbrev pub invariant-loop-b : goal.invariant-loop-b
invariant-loop-b l = Kept l.bytes l.initial.out l.out l.begun l.count l.b-index
