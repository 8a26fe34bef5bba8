-- `any_name` meets its contract: what the judge says, then 14; what is put is copied last.
-- Assumes nothing.
use mathlib.Core.Path.{sym, ap}
use mathlib.Core.List.{List, ◌++◌}
use Prim.Native.Nat.{ℕ, ◌≤◌}
use lib.ListN.{length, drop}
use lib.Seq.{length-take-le}
use native.Mathlib.Omega.{arith}
use Rattle.std.proofs.lemmas.Result.{err_from_is_err_and}
use Rattle.rules.proofs.Editions.{lent_short}
use Rattle.names.proofs.Answering.{accepted_as, answer_is, ascii_refused}
use Rattle.names.proofs.Enough.{ready, leftmost_passed, put_size, stopped, finished}
use Rattle.names.proofs.whole.any_name.Goals as goal

pub returns-in_err-class : goal.returns-in_err-class
returns-in_err-class c =
    let p = err_from_is_err_and c.from_residual.result c.from_residual.ensures.1 in
    rw (p.1, p.2) (ascii_refused _ _ _ c.requires _ (answer_is _ _ c.judge_into-ruled.ensures c.in_err-class.was))

pub slice_bounds-buffer-end : goal.slice_bounds-buffer-end
slice_bounds-buffer-end c = let p = accepted_as _ _ c.judge_into-ruled.ensures c.in_ok-class.was in omega (arith, p.few, c.judge_into-ruled.auto.form)

pub slice_bounds-form-end : goal.slice_bounds-form-end
slice_bounds-form-end c = let p = accepted_as _ _ c.judge_into-ruled.ensures c.in_ok-class.was in sym (length-take-le _ c.judge_into-ruled.new.form (omega (arith, p.few, c.judge_into-ruled.auto.form)))

pub put_labels-requires : goal.put_labels-requires
put_labels-requires c = ready _ (lent_short _ _) _ c.judge_into-ruled.ensures c.in_ok-class.was

pub returns-in_default : goal.returns-in_default
returns-in_default c = rw c.at.ensures (stopped _ _ c.judge_into-ruled.ensures c.in_ok-class.was c.put_labels.ensures _ c.requires c.in_default.is)

pub slice_bounds-copy_from_slice-end : goal.slice_bounds-copy_from_slice-end
slice_bounds-copy_from_slice-end c = let h = put_size _ _ c.judge_into-ruled.ensures c.in_ok-class.was c.put_labels.ensures c.in-Some.is in omega (arith, c.put_labels.auto.out, c.requires)

pub slice_bounds-copy_from_slice-end-2 : goal.slice_bounds-copy_from_slice-end-2
slice_bounds-copy_from_slice-end-2 c =
    let h = put_size _ _ c.judge_into-ruled.ensures c.in_ok-class.was c.put_labels.ensures c.in-Some.is in
    sym (length-take-le _ c.args.out.now (omega (arith, c.put_labels.auto.out, c.requires)))

pub slice_bounds-octets-end : goal.slice_bounds-octets-end
slice_bounds-octets-end c = put_size _ _ c.judge_into-ruled.ensures c.in_ok-class.was c.put_labels.ensures c.in-Some.is

pub slice_bounds-copy_from_slice-end-3 : goal.slice_bounds-copy_from_slice-end-3
slice_bounds-copy_from_slice-end-3 c = sym (length-take-le _ c.put_labels.new.out (put_size _ _ c.judge_into-ruled.ensures c.in_ok-class.was c.put_labels.ensures c.in-Some.is))

pub copy_from_slice-requires : goal.copy_from_slice-requires
copy_from_slice-requires c =
    let h = put_size _ _ c.judge_into-ruled.ensures c.in_ok-class.was c.put_labels.ensures c.in-Some.is in
    let f : c.in-Some.length ≤ length c.args.out.now = omega (arith, c.put_labels.auto.out, c.requires) in
    rw (length-take-le c.in-Some.length c.args.out.now f, length-take-le c.in-Some.length c.put_labels.new.out h)

pub leftmost_kinds-requires : goal.leftmost_kinds-requires
leftmost_kinds-requires c = leftmost_passed _ _ c.judge_into-ruled.ensures c.in_ok-class.was c.put_labels.ensures

pub returns : goal.returns
returns c =
    finished _ _ c.judge_into-ruled.ensures c.in_ok-class.was c.put_labels.ensures _ c.requires c.in-Some.is
    (ap (λ (l : List ℕ). l ++ drop c.in-Some.length c.args.out.now) c.copy_from_slice.ensures.after) c.leftmost_kinds.ensures
