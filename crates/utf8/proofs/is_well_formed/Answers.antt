-- `is_well_formed` meets its contract: the pass counts where there is no fault.
-- Assumes nothing.
use mathlib.Core.Path.{◌∙◌}
use Rattle.utf8.proofs.Decoding.{some_well}
use Rattle.utf8.proofs.is_well_formed.Goals as goal

pub returns : goal.returns
returns c = c.is_some.ensures ∙ some_well _ c.decode_up_to_fault.ensures.result
