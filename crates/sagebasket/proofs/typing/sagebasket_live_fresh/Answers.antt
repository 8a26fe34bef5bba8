-- `sagebasket_live_fresh` meets its contract: zeros and the edition are the fresh state.
-- Assumes nothing.
use mathlib.Core.Path.{refl}
use Rattle.live.specs.Live.{fresh}
use Rattle.sagebasket.specs.Outside.{held}
use Rattle.sagebasket.proofs.typing.sagebasket_live_fresh.Goals as goal

pub returns : goal.returns
unfolding held fresh
returns c = refl
