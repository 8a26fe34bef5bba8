-- `too_long` meets its contract: the two ways of the branch are the two of `too_long`.
-- Assumes nothing.
use Rattle.live.specs.Live.{no_text, too_long}
use Rattle.live.proofs.too_long.Goals as goal

pub returns-then-known : goal.returns-then-known
unfolding no_text too_long
returns-then-known c = rw (c.no_text.ensures, c.at.ensures, c.if-known.true)

pub returns-else-known : goal.returns-else-known
unfolding no_text too_long
returns-else-known c = rw (c.no_text-else-known.ensures, c.at-else-known.ensures, c.if-known.false)
