-- `put_label` meets its contract, by what the call for one label states of the part of the buffer that it is lent.
-- Assumes nothing.
use native.Mathlib.Omega.{arith}
use Rattle.rules.proofs.Editions.{lent_stretch}
use Rattle.names.proofs.Joining.{label_no, label_fits, label_yes}
use Rattle.names.proofs.whole.put_label.Goals as goal

pub returns-in_err-length : goal.returns-in_err-length
returns-in_err-length c = rw c.from_residual.ensures (label_no _ (lent_stretch _ _) _ _ _ _ c.requires.0 c.requires.1 _ c.label_form.ensures c.ok.ensures.value c.in_err-length.was)

pub overflow_add-result : goal.overflow_add-result
overflow_add-result c = let h = label_fits _ (lent_stretch _ _) c.args.label.now c.args.out.now _ c.args.at c.requires.0 c.requires.1 _ c.label_form.ensures c.ok.ensures.value c.in_ok-length.was in omega arith

pub returns : goal.returns
returns c = label_yes _ (lent_stretch _ _) _ _ _ _ c.requires.0 c.requires.1 _ c.label_form.ensures c.ok.ensures.value c.in_ok-length.was
