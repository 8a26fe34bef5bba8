-- `sagebasket_live_step` meets its contract: the two ways of the branch are the two of `stepped`.
-- Assumes nothing.
use mathlib.Core.Path.{◌≡◌}
use lib.ListN.{length}
use Rattle.sagebasket.proofs.Held.{step_room, step_full}
use borrow.Author.Rules.{rules}
use Rattle.sagebasket.proofs.typing.sagebasket_live_step.Goals as goal

pub returns-then-at-lt256 : goal.returns-then-at-lt256
returns-then-at-lt256 c = let whole : length c.args.state.now ≡ 258 = search rules in step_room c.args.state.now whole c.args.c c.if-at-lt256.true

pub returns-else-at-lt256 : goal.returns-else-at-lt256
returns-else-at-lt256 c = let whole : length c.args.state.now ≡ 258 = search rules in step_full c.args.state.now whole c.args.c c.if-at-lt256.false
