-- `tell_check` meets its contract: it tells what the check says, an accepted name and a refusal.
-- Assumes nothing.
use mathlib.Core.Path.{◌≡◌}
use native.Mathlib.Omega.{arith}
use lib.ListN.{length}
use Rattle.std.proofs.Common.{Ok, Err}
use Rattle.rules.specs.Editions.{edition_of}
use Rattle.names.specs.Calls.{check_told}
use Rattle.sagebasket.specs.Outside.{numbers, unnamed, of_checked}
use Rattle.sagebasket.proofs.Small.{check_small}
use Rattle.sagebasket.proofs.Said.{tells}
use borrow.Author.Rules.{rules}
use Rattle.sagebasket.proofs.telling.tell_check.Goals as goal

pub tell_name-requires : goal.tell_name-requires
tell_name-requires c =
    let l : length c.check.new.out ≡ 256 = search rules in
    let s = check_small (edition_of _) c.in-Ok.ensures l in
    record { place = s.place; length = omega (arith, s.length); stands = s.stands }

pub tell_refusal-requires : goal.tell_refusal-requires
tell_refusal-requires c =
    let l : length c.check.new.out ≡ 256 = search rules in
    let s = check_small (edition_of _) c.in-Err.ensures l in
    (s.place, omega (arith, s.place, s.length))

pub returns-in-Ok : goal.returns-in-Ok
unfolding of_checked numbers
returns-in-Ok c = tells (check_told (Ok c.in-Ok.name)) c.in-Ok.ensures c.tell_name.ensures

pub returns-in-Err : goal.returns-in-Err
unfolding of_checked unnamed numbers
returns-in-Err c = tells (check_told (Err c.in-Err.refusal)) c.in-Err.ensures c.tell_refusal.ensures
