-- `fresh` meets its contract: the fields are those of `fresh`.
-- Assumes nothing.
use mathlib.Core.Path.{refl}
use Rattle.live.specs.Live.{fresh}
use Rattle.live.proofs.Live.fresh.Goals as goal

pub returns : goal.returns
unfolding fresh
returns c = refl
