-- `feed_lines` meets its contract: where no line ended the piece is carried on, and otherwise what is left past the last line's end.
-- Assumes nothing.
use Rattle.answer.proofs.Answering.{long_line}
use Rattle.batch.proofs.Feeding.{lines_none, lines_rest}
use borrow.Author.Rules.{rules}
use Rattle.batch.proofs.stream.feed_lines.Goals as goal

pub returns-then-at-eq0 : goal.returns-then-at-eq0
returns-then-at-eq0 c = lines_none c.args.line c.args.piece.now c.requires.1 c.scan-at.ensures c.if-at-eq0.true c.carried.ensures

pub returns : goal.returns
returns c =
    lines_rest c.args.line c.args.piece.now c.requires.1 c.scan-at.ensures (long_line _) (search rules)
    c.requires.0 c.if-at-eq0.false c.rest.ensures
