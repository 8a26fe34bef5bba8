-- `in_label_with` meets its contract: below 80 stands the ASCII set and nothing Japanese, from 80 on nothing of the ASCII set.
-- Assumes nothing.
use Rattle.labels.proofs.OfLabel.{in_ascii, in_japanese}
use Rattle.labels.proofs.in_label_with.Goals as goal

pub returns-then-c-lt128 : goal.returns-then-c-lt128
returns-then-c-lt128 c = in_ascii c.args.edition.now _ c.if-c-lt128.true c.is_ascii.ensures

pub returns-else-c-lt128 : goal.returns-else-c-lt128
returns-else-c-lt128 c = in_japanese c.args.edition.now _ c.if-c-lt128.false c.is_japanese.ensures
