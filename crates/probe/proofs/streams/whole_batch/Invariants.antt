-- `whole_batch` is safe and ends: each turn leaves less of the batch.
-- Assumes nothing.
use lib.ListN.{length}
use Rattle.probe.proofs.streams.whole_batch.Given as goal

abbrev pub decreases-loop-rest : goal.decreases-loop-rest
decreases-loop-rest g l = length l.rest
