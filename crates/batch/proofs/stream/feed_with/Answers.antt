-- `feed_with` meets its contract: with no byte carried the piece begins with a line; otherwise its first line goes through the carried one,
-- the lines after it are scanned, and the rest is carried on.
-- Assumes nothing.
use Rattle.batch.proofs.Feeding.{no_room, no_line, feeds_rest}
use Rattle.batch.proofs.stream.feed_with.Goals as goal

pub returns-then-out-lt-MOST : goal.returns-then-out-lt-MOST
returns-then-out-lt-MOST c = no_room _ _ _ _ _ c.if-out-lt-MOST.true

pub returns-then-piece-first_end : goal.returns-then-piece-first_end
returns-then-piece-first_end c = no_line _ _ _ _ _ _ c.if-out-lt-MOST.false c.line_end-first_end.ensures c.if-piece-first_end.true c.carried.ensures

pub returns : goal.returns
returns c =
    feeds_rest c.args.line c.args.piece.now c.if-out-lt-MOST.false c.line_end-first_end.ensures c.if-piece-first_end.false
    c.carried-first.ensures (rw c.unwrap-length.ensures at c.close.ensures) c.scan-scanned.ensures c.rest.ensures
