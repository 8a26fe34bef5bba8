-- `tell_ascii` meets its contract: it tells what the whole ASCII form says, an accepted name and a refusal.
-- Assumes nothing.
use mathlib.Core.Path.{◌≡◌}
use lib.ListN.{length}
use Rattle.std.proofs.Common.{Ok, Err}
use Rattle.rules.specs.Editions.{edition_of}
use Rattle.names.specs.Calls.{ascii_told}
use Rattle.sagebasket.specs.Outside.{numbers, unnamed, of_ascii_form}
use Rattle.sagebasket.proofs.Small.{ascii_small}
use Rattle.sagebasket.proofs.Said.{tells}
use borrow.Author.Rules.{rules}
use Rattle.sagebasket.proofs.telling.tell_ascii.Goals as goal

pub tell_name-requires : goal.tell_name-requires
tell_name-requires c = let l : length c.to_ascii.new.out ≡ 192 = search rules in ascii_small (edition_of _) c.in-Ok.ensures l

pub tell_refusal-requires : goal.tell_refusal-requires
tell_refusal-requires c =
    let l : length c.to_ascii.new.out ≡ 192 = search rules in
    let s = ascii_small (edition_of _) c.in-Err.ensures l in
    (s.place, s.length)

pub returns-in-Ok : goal.returns-in-Ok
unfolding of_ascii_form numbers
returns-in-Ok c = tells (ascii_told (Ok c.in-Ok.name)) c.in-Ok.ensures c.tell_name.ensures

pub returns-in-Err : goal.returns-in-Err
unfolding of_ascii_form unnamed numbers
returns-in-Err c = tells (ascii_told (Err c.in-Err.refused)) c.in-Err.ensures c.tell_refusal.ensures
