-- `is_read` meets its contract: the range is the test.
-- Assumes nothing.
use mathlib.Core.Path.{refl, ◌∙◌}
use Rattle.searches.proofs.Ranges.{range_is}
use Rattle.searches.proofs.is_read.Goals as goal

pub returns : goal.returns
returns c = let n = c.new.ensures in c.contains.ensures.value ∙ range_is (λ a b. refl) _ n.start n.end n.exhausted
