-- `carried` meets its contract: the bytes that fit are copied to where the line goes on, and where some do not fit the mark says so.
-- Assumes nothing.
use Rattle.std.proofs.Common.{rules, ◌≡◌, length}
use Rattle.batch.proofs.Turns.{carries_all, carries_over}
use Rattle.batch.proofs.stream.carried.Goals as goal

pub returns-then-fitting-piece : goal.returns-then-fitting-piece
returns-then-fitting-piece c =
    let long : length c.args.line.held ≡ 1024 = search rules in
    carries_over c.args.line c.args.piece.now long c.min-start.ensures c.min-fitting.ensures c.copy_from_slice.ensures.after c.if-fitting-piece.true

pub returns-else-fitting-piece : goal.returns-else-fitting-piece
returns-else-fitting-piece c =
    let long : length c.args.line.held ≡ 1024 = search rules in
    carries_all c.args.line c.args.piece.now long c.min-start.ensures c.min-fitting.ensures c.copy_from_slice.ensures.after c.if-fitting-piece.false
