-- `split` meets its contract: the first field ends at the first tab, the second at the end of the line unless there is another.
-- Assumes nothing.
use lib.ListN.{length}
use borrow.Author.Tests.{le-ltb}
use Rattle.lines.proofs.LineFields.{no_tab, at_most_one}
use Rattle.lines.proofs.split.Goals.{then-tab-line, else-tab-line}
use Rattle.lines.proofs.split.Goals as goal

pub returns : goal.returns
returns c =
    let both = c.fields-both in
    let line = c.args.line.now in
    elim c.if-tab-line.branch [
      | then-tab-line w ↦ rw c.then_some.ensures (at_most_one line both.result both.ensures w.if-tab-line.true _ w.alone-is)
      | else-tab-line w ↦ rw (c.then_some.ensures, w.alone-is, le-ltb both.result.id.end (length line) w.if-tab-line.false) (no_tab line both.result both.ensures w.if-tab-line.false)
    ]
