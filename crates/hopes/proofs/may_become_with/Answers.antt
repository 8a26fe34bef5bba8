-- `may_become_with` meets its contract: by no edition any may; by one, what 2 to 4 refuse is lost, but for a text with nothing in it yet, and the labels say the rest.
-- Assumes nothing.
use mathlib.Core.Path.{sym, ap, ◌∙◌}
use mathlib.Core.Bool.{not}
use Prim.Native.Nat.{ℕ}
use native.Mathlib.Omega.{arith}
use lib.ListN.{length-replicate}
use lib.Seq.{length-take-le}
use borrow.Author.Tests.{eqb-true, eqb-false}
use Rattle.refusals.proofs.Once.{number_not_0}
use Rattle.rules.proofs.Editions.{lent_short}
use Rattle.fronts.proofs.Fronting.{told_refused, told_fits}
use Rattle.labelled.proofs.OfName.{lent_known}
use Rattle.hopes.proofs.Hoping.{not_known, nothing_yet, no_hope, unfit_lost, all_fit, front_hope}
use Rattle.hopes.proofs.may_become_with.Goals as goal

pub returns-then-not-is_edition : goal.returns-then-not-is_edition
returns-then-not-is_edition c = not_known _ _ (lent_known _ _ c.is_edition.ensures ∙ c.if-not-is_edition.true)

pub returns-then-is_empty : goal.returns-then-is_empty
returns-then-is_empty c = nothing_yet _ _ _ (lent_known _ _ c.is_edition.ensures ∙ c.if-not-is_edition.false) (eqb-true _ 0 (sym c.is_empty.ensures ∙ c.if-is_empty.true))

pub returns-in_default : goal.returns-in_default
returns-in_default c =
    let some = eqb-false _ 0 (sym c.is_empty.ensures ∙ c.if-is_empty.false) in
    no_hope _ (lent_short _ _) (told_refused _ c.in_default.ensures (omega arith) (number_not_0 _)) some (number_not_0 _)

pub slice_bounds-form-end : goal.slice_bounds-form-end
slice_bounds-form-end c =
    let t = all_fit _ (lent_short _ _) (omega arith) _ c.in-Ok.front.unfit c.in-Ok.ensures (c.is_none.ensures ∙ ap not c.if-is_none.true) in
    omega (arith, told_fits _ t, c.front_with.auto.form, length-replicate {A = ℕ} 256 0)

pub slice_bounds-form_grows-end : goal.slice_bounds-form_grows-end
slice_bounds-form_grows-end c =
    let t = all_fit _ (lent_short _ _) (omega arith) _ c.in-Ok.front.unfit c.in-Ok.ensures (c.is_none.ensures ∙ ap not c.if-is_none.true) in
    sym (length-take-le _ c.front_with.new.form (omega (arith, told_fits _ t, c.front_with.auto.form, length-replicate {A = ℕ} 256 0)))

pub returns-else-is_none : goal.returns-else-is_none
returns-else-is_none c =
    let some = eqb-false _ 0 (sym c.is_empty.ensures ∙ c.if-is_empty.false) in
    c.if-is_none.false ∙ unfit_lost _ (lent_short _ _) (omega arith) _ c.in-Ok.front.unfit c.in-Ok.ensures (c.is_none.ensures ∙ ap not c.if-is_none.false) some

pub returns-then-is_none : goal.returns-then-is_none
returns-then-is_none c =
    let t = all_fit _ (lent_short _ _) (omega arith) _ c.in-Ok.front.unfit c.in-Ok.ensures (c.is_none.ensures ∙ ap not c.if-is_none.true) in
    front_hope _ (lent_short _ _) (lent_known _ _ c.is_edition.ensures ∙ c.if-not-is_edition.false) t c.form_grows.ensures
