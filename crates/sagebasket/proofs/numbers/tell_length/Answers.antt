-- `tell_length` meets its contract: class, kinds and labels are those of none.
-- Assumes nothing.
use mathlib.Core.Path.{refl}
use Rattle.rules.specs.Places.{first_three}
use Rattle.sagebasket.specs.Outside.{class_number, kinds_number, numbers, unnamed}
use Rattle.sagebasket.proofs.numbers.tell_length.Goals as goal

pub returns : goal.returns
unfolding unnamed numbers class_number kinds_number first_three
returns c = (refl, refl)
