-- `sagebasket_encode` meets its contract: it tells what the coder says.
-- Assumes nothing.
use mathlib.Core.Path.{◌≡◌}
use lib.ListN.{length}
use Rattle.refusals.specs.Refusals.{filled}
use Rattle.sagebasket.specs.Outside.{numbers, unnamed, of_encoded}
use Rattle.sagebasket.proofs.Small.{encode_small}
use Rattle.sagebasket.proofs.Said.{tells}
use borrow.Author.Rules.{rules}
use Rattle.sagebasket.proofs.coding.sagebasket_encode.Goals as goal

pub tell_written-requires : goal.tell_written-requires
tell_written-requires c = let l : length c.encode.new.out ≡ 63 = search rules in encode_small c.encode.ensures l

pub returns : goal.returns
unfolding of_encoded unnamed numbers
returns c = tells (filled c.encode.result) c.encode.ensures c.tell_written.ensures
