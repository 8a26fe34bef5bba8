-- `is_name` meets its contract: of a text of 1 to 256 code points the normal form stands at the start of the array, and its labels are asked.
-- Assumes nothing.
use mathlib.Core.Path.{sym, ◌∙◌}
use lib.Seq.{length-take-le}
use native.Mathlib.Omega.{arith}
use Rattle.lists.proofs.Laws.{in_range}
use Rattle.fronts.proofs.Fronting.{inside}
use Rattle.refusals.proofs.Once.{number_not_0}
use Rattle.searches.proofs.Searching.{labels_said, accepted_is, number_is_0}
use Rattle.searches.proofs.is_name.Goals as goal

pub slice_bounds-form-end : goal.slice_bounds-form-end
slice_bounds-form-end c = omega (arith, inside c.in-Ok.ensures)

pub slice_bounds-name_rules_with-end : goal.slice_bounds-name_rules_with-end
slice_bounds-name_rules_with-end c = sym (length-take-le _ _ (omega (arith, inside c.in-Ok.ensures)))

pub returns-in-Ok : goal.returns-in-Ok
returns-in-Ok c =
    c.is_ok.ensures.value ∙ accepted_is c.name_rules_with.result
    ∙ labels_said c.in-Ok.ensures (omega arith) (in_range 1 256 _ c.requires) _ c.name_rules_with.ensures

pub returns-in-Err : goal.returns-in-Err
returns-in-Err c = absurd (number_not_0 _ (number_is_0 c.in-Err.ensures (omega arith) (in_range 1 256 _ c.requires)))
