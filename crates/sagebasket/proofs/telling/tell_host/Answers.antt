-- `tell_host` meets its contract: it tells what the ASCII form of a host says.
-- Assumes nothing.
use mathlib.Core.Path.{◌≡◌}
use lib.ListN.{length}
use Rattle.refusals.specs.Refusals.{filled}
use Rattle.rules.specs.Editions.{today}
use Rattle.sagebasket.specs.Outside.{numbers, unnamed, of_host_form}
use Rattle.sagebasket.proofs.Small.{host_small}
use Rattle.sagebasket.proofs.Said.{tells}
use borrow.Author.Rules.{rules}
use Rattle.sagebasket.proofs.telling.tell_host.Goals as goal

pub tell_written-requires : goal.tell_written-requires
tell_written-requires c = let l : length c.to_ascii.new.out ≡ 255 = search rules in host_small today c.to_ascii.ensures l

pub returns : goal.returns
unfolding of_host_form unnamed numbers
returns c = tells (filled c.to_ascii.result) c.to_ascii.ensures c.tell_written.ensures
