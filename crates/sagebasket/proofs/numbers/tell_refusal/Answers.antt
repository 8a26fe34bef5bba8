-- `tell_refusal` meets its contract: number and place take the place of two zeros.
-- Assumes nothing.
use mathlib.Core.Path.{refl}
use Rattle.rules.specs.Places.{first_three}
use Rattle.sagebasket.specs.Outside.{class_number, kinds_number, numbers, unnamed}
use Rattle.sagebasket.proofs.numbers.tell_refusal.Goals as goal

pub returns : goal.returns
unfolding unnamed numbers class_number kinds_number first_three
returns c = rw (c.tell_length.ensures.0, c.from-2.ensures, c.from.ensures) (refl, refl)
