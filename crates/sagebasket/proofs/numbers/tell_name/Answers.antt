-- `tell_name` meets its contract: entry by entry the numbers are those of `numbers`, each of them small.
-- Assumes nothing.
use mathlib.Core.Path.{refl}
use Rattle.rules.specs.Places.{first_three}
use Rattle.sagebasket.specs.Outside.{numbers}
use Rattle.sagebasket.proofs.numbers.tell_name.Goals as goal

pub returns : goal.returns
unfolding numbers first_three
returns c = (rw (c.class_number.ensures, c.kinds_number.ensures), refl)
