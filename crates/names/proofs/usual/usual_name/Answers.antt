-- `usual_name` meets its contract: 7 to 10 and 17, then 14; the label's ASCII form is put, and ".jp" after it.
-- Assumes nothing.
use native.Mathlib.Omega.{arith}
use Rattle.std.proofs.lemmas.Result.{err_from_is_err_and}
use Rattle.rules.specs.Rules.{jp}
use Rattle.rules.proofs.Editions.{lent_stretch, lent_short}
use Rattle.names.proofs.UsualName.{lent_marks, usual_refused, label_writable, usual_uncoded, at_most, usual_accepted}
use Rattle.names.proofs.usual.usual_name.Goals as goal

pub returns-in_err-known_rule_with : goal.returns-in_err-known_rule_with
returns-in_err-known_rule_with c =
    let p = err_from_is_err_and c.from_residual.result c.from_residual.ensures.1 in
    rw (p.1, p.2) (usual_refused _ (lent_stretch _ _) (lent_short _ _) (lent_marks c.args.edition.now) _ c.requires.0 c.any_kind.ensures c.requires.1 _ c.in_err-known_rule_with.ensures)

pub put_label-requires : goal.put_label-requires
put_label-requires c = (label_writable _ (lent_stretch _ _) (lent_short _ _) (lent_marks c.args.edition.now) _ c.requires.0 c.any_kind.ensures c.in_ok-known_rule_with.ensures, omega (arith, c.requires.1))

pub returns-in_default : goal.returns-in_default
returns-in_default c = rw c.at.ensures (usual_uncoded _ (lent_stretch _ _) (lent_short _ _) (lent_marks c.args.edition.now) _ c.requires.0 c.any_kind.ensures c.in_ok-known_rule_with.ensures c.put_label.ensures c.requires.1 c.in_default.is)

pub overflow_add-at : goal.overflow_add-at
overflow_add-at c = let h = at_most _ (lent_stretch _ _) (lent_short _ _) (lent_marks c.args.edition.now) _ c.requires.0 c.any_kind.ensures c.in_ok-known_rule_with.ensures c.put_label.ensures c.in-Some.is in omega (arith, c.put_label.auto.out, c.requires.1)

pub slice_bounds-copy_from_slice-end : goal.slice_bounds-copy_from_slice-end
slice_bounds-copy_from_slice-end c = let h = at_most _ (lent_stretch _ _) (lent_short _ _) (lent_marks c.args.edition.now) _ c.requires.0 c.any_kind.ensures c.in_ok-known_rule_with.ensures c.put_label.ensures c.in-Some.is in omega (arith, c.put_label.auto.out, c.requires.1)

pub returns : goal.returns
unfolding jp
returns c =
    let h = at_most _ (lent_stretch _ _) (lent_short _ _) (lent_marks c.args.edition.now) _ c.requires.0 c.any_kind.ensures c.in_ok-known_rule_with.ensures c.put_label.ensures c.in-Some.is in
    usual_accepted _ (lent_stretch _ _) (lent_short _ _) (lent_marks c.args.edition.now) _ c.requires.0 c.any_kind.ensures c.in_ok-known_rule_with.ensures c.put_label.ensures c.in-Some.is c.requires.1 (omega (arith, c.put_label.auto.out, c.requires.1)) c.copy_from_slice.ensures.after
