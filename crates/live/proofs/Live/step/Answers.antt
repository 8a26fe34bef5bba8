-- `step` meets its contract: the two ways of the branch are the two of `stepped`.
-- Assumes nothing.
use borrow.Author.Tests.{lt-ltb, le-ltb}
use Rattle.live.specs.Live.{stepped}
use Rattle.live.proofs.Live.step.Goals as goal

pub returns-then-self-lt256 : goal.returns-then-self-lt256
unfolding stepped
returns-then-self-lt256 c = simp (lt-ltb _ _ c.if-self-lt256.true)

pub returns-else-self-lt256 : goal.returns-else-self-lt256
unfolding stepped
returns-else-self-lt256 c = simp (le-ltb _ _ c.if-self-lt256.false)
