-- `rest` meets its contract: the two ways of the branch are those of the test.
-- Assumes nothing.
use Rattle.batch.proofs.Feeding.{rest_full, rest_on}
use Rattle.batch.proofs.stream.rest.Goals.{then-room-lt-MOST, else-room-lt-MOST}
use Rattle.batch.proofs.stream.rest.Goals as goal

pub returns : goal.returns
returns c =
    elim c.if-room-lt-MOST.branch [
      | then-room-lt-MOST w ↦ rest_full _ _ _ c.new.ensures c.carried.ensures w.if-room-lt-MOST.true w.used-is
      | else-room-lt-MOST w ↦ rest_on _ _ _ c.new.ensures c.carried.ensures w.if-room-lt-MOST.false w.used-is
    ]
