-- `read_name` meets its contract: what was read is the encoding of what was written, byte for byte, and an LF ends it.
-- Assumes nothing.
use lib.ListN.{length}
use Rattle.answer.proofs.Reading.{Seen}
use Rattle.answer.proofs.usual.read_name.Given as goal

abbrev pub invariant-loop-rest : goal.invariant-loop-rest
invariant-loop-rest l = Seen l.s l.out l.reach l.count l.rest

abbrev pub decreases-loop-rest : goal.decreases-loop-rest
decreases-loop-rest l = length l.rest
