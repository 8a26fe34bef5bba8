-- `may_be_kanji` meets its contract: the range is the test.
-- Assumes nothing.
use mathlib.Core.Path.{refl, ap, ◌∙◌}
use Rattle.lists.specs.Tests.{within}
use Rattle.searches.proofs.Ranges.{range_is}
use Rattle.searches.proofs.may_be_kanji.Goals as goal

pub returns : goal.returns
returns c = let n = c.new.ensures in c.contains.ensures.value ∙ range_is (λ a b. refl) _ n.start n.end n.exhausted ∙ ap (within 0x4E00 0x9FA0) c.replaced.ensures
