-- `judge_into` meets its contract: 2 to 4 come first, and the labels of the form have the rest.
-- Assumes nothing.
use mathlib.Core.Path.{refl, sym}
use lib.Seq.{length-take-le}
use native.Mathlib.Omega.{arith}
use Rattle.refusals.proofs.Once.{number_not_0}
use Rattle.fronts.proofs.Fronting.{told_refused, told_unfit, told_fit, told_fits}
use Rattle.hosts.proofs.Judging.{judges_front, form_fit, form_few, judges_on}
use Rattle.hosts.proofs.judges.judge_into.Goals as goal

pub returns-in-Err : goal.returns-in-Err
returns-in-Err c = judges_front _ (told_refused _ c.in-Err.ensures (omega (arith, c.requires)) (number_not_0 _)) (number_not_0 _)

pub returns-in-Some : goal.returns-in-Some
returns-in-Some c =
    let f = rw c.in-Some.is at c.in-Ok.ensures in
    rw c.at.ensures (judges_front _ (told_unfit _ f (omega (arith, c.requires)) refl refl) (λ z. omega arith))

pub slice_bounds-host_rules-end : goal.slice_bounds-host_rules-end
slice_bounds-host_rules-end c =
    let f = rw c.in-None.is at c.in-Ok.ensures in
    let h = told_fits _ (told_fit _ f (omega (arith, c.requires)) refl refl) in
    omega (arith, c.front_with.auto.form, c.requires)

pub slice_bounds-host_rules-end-in-None : goal.slice_bounds-host_rules-end-in-None
slice_bounds-host_rules-end-in-None c =
    let f = rw c.in-None.is at c.in-Ok.ensures in
    let h = told_fits _ (told_fit _ f (omega (arith, c.requires)) refl refl) in
    sym (length-take-le _ _ (omega (arith, c.front_with.auto.form, c.requires)))

pub host_rules-said-requires : goal.host_rules-said-requires
host_rules-said-requires c =
    let f = rw c.in-None.is at c.in-Ok.ensures in
    let t = told_fit _ f (omega (arith, c.requires)) refl refl in
    (form_fit _ t, form_few _ t)

pub returns-in-None : goal.returns-in-None
returns-in-None c =
    let f = rw c.in-None.is at c.in-Ok.ensures in
    judges_on _ (told_fit _ f (omega (arith, c.requires)) refl refl) c.host_rules-said.ensures
