-- `sagebasket_decode` meets its contract: it tells what the decoder says.
-- Assumes nothing.
use mathlib.Core.Path.{◌≡◌}
use lib.ListN.{length}
use Rattle.refusals.specs.Refusals.{filled}
use Rattle.sagebasket.specs.Outside.{numbers, unnamed, of_decoded}
use Rattle.sagebasket.proofs.Small.{decode_small}
use Rattle.sagebasket.proofs.Said.{tells}
use borrow.Author.Rules.{rules}
use Rattle.sagebasket.proofs.coding.sagebasket_decode.Goals as goal

pub tell_written-requires : goal.tell_written-requires
tell_written-requires c = let l : length c.decode.new.out ≡ 63 = search rules in decode_small c.decode.ensures l

pub returns : goal.returns
unfolding of_decoded unnamed numbers
returns c = tells (filled c.decode.result) c.decode.ensures c.tell_written.ensures
