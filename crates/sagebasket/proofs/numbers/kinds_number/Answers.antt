-- `kinds_number` meets its contract: what each kind adds is what `kinds_number` adds.
-- Assumes nothing.
use Rattle.sagebasket.specs.Outside.{kinds_number}
use borrow.Author.Rules.{rules}
use Rattle.sagebasket.proofs.numbers.kinds_number.Goals as goal

pub returns : goal.returns
unfolding kinds_number
returns c = search rules
