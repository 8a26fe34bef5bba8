-- `new` meets its contract: no byte is held.
-- Assumes nothing.
use mathlib.Core.Path.{refl}
use Rattle.batch.specs.Stream.{fresh}
use Rattle.batch.proofs.stream.new.Goals as goal

pub returns : goal.returns
unfolding fresh
returns c = refl
