-- `class_number` meets its contract: the arms are the classes of `class_number` that an accepted name has.
-- Assumes nothing.
use Rattle.sagebasket.specs.Outside.{class_number}
use borrow.Author.Rules.{rules}
use Rattle.sagebasket.proofs.numbers.class_number.Goals as goal

pub returns-in-General : goal.returns-in-General
unfolding class_number
returns-in-General c = search rules

pub returns-in-Prefecture : goal.returns-in-Prefecture
unfolding class_number
returns-in-Prefecture c = search rules
