-- `holds` meets its contract: the library finds c where it is an entry.
-- Assumes nothing.
use mathlib.Core.Path.{◌∙◌}
use Rattle.lists.proofs.Chains.{contains_is}
use Rattle.lists.proofs.holds.Goals as goal

pub returns : goal.returns
returns c = c.contains.ensures.value ∙ contains_is _ _
