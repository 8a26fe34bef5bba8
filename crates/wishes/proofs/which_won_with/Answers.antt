-- `which_won_with` meets its contract: both checks are told as they stand, and their numbers decide.
-- Assumes nothing.
use Rattle.wishes.proofs.Choosing.{wished_is}
use Rattle.wishes.proofs.which_won_with.Goals as goal

pub returns : goal.returns
returns c = wished_is _ _ _ c.checked_alone-one.ensures c.checked_alone-two.ensures c.won_by.ensures
