-- `sagebasket_wish` meets its contract: it says what `which_won` says, and a place or a length of at most 256 fits 32 bits.
-- Assumes nothing.
use native.Mathlib.Omega.{arith}
use Rattle.sagebasket.proofs.Wishing.{first_few, second_few, part_few, wins}
use Rattle.sagebasket.proofs.naming.sagebasket_wish.Goals as goal

pub number_and_place-first_number-requires : goal.number_and_place-first_number-requires
number_and_place-first_number-requires c = omega (arith, first_few _ _ _ c.which_won-said.ensures)

pub number_and_place-second_number-requires : goal.number_and_place-second_number-requires
number_and_place-second_number-requires c = omega (arith, second_few _ _ _ c.which_won-said.ensures)

pub overflow_cast-answer : goal.overflow_cast-answer
overflow_cast-answer c = omega (arith, part_few _ _ _ c.which_won-said.ensures c.won_number-won.ensures c.handed_length-part.ensures)

pub returns : goal.returns
returns c =
    rw c.from.ensures
    (wins _ _ _ c.which_won-said.ensures c.won_number-won.ensures c.handed_length-part.ensures c.number_and_place-first_number.ensures
    c.number_and_place-second_number.ensures)
