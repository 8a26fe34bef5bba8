use mathlib.Core.Path.{◌∙◌}
use native.Mathlib.Omega.{arith}
use Rattle.names.proofs.Joining.{names, turn_bounds, out_length, this_writable, this_room, turn_refused, names_last, period_room, names_on}
use Rattle.names.proofs.whole.put_labels.Goals as goal

pub loop-at-init : goal.loop-at-init
loop-at-init c = names _ _ _ c.requires

pub offset_bounds-form-from : goal.offset_bounds-form-from
offset_bounds-form-from c = let b = turn_bounds _ c.loop-at.invariant _ c.label_end-end.ensures in omega (arith, c.loop-at.invariant.going.within)

pub slice_bounds-put_label-count : goal.slice_bounds-put_label-count
slice_bounds-put_label-count c = let b = turn_bounds _ c.loop-at.invariant _ c.label_end-end.ensures in omega arith

pub slice_bounds-put_label-start : goal.slice_bounds-put_label-start
slice_bounds-put_label-start c = let b = turn_bounds _ c.loop-at.invariant _ c.label_end-end.ensures in omega arith

pub slice_bounds-put_label-end : goal.slice_bounds-put_label-end
slice_bounds-put_label-end c = let b = turn_bounds _ c.loop-at.invariant _ c.label_end-end.ensures in omega arith

pub put_label-requires : goal.put_label-requires
put_label-requires c = (this_writable _ c.loop-at.invariant _ c.label_end-end.ensures, this_room _ c.loop-at.invariant _ c.label_end-end.ensures)

pub returns-in_err-at : goal.returns-in_err-at
returns-in_err-at c = rw c.from_residual.ensures (turn_refused _ c.loop-at.invariant _ c.label_end-end.ensures c.put_label.ensures.puts c.in_err-at.was)

pub returns-then-end-form : goal.returns-then-end-form
returns-then-end-form c = names_last _ c.loop-at.invariant _ c.label_end-end.ensures c.put_label.ensures.puts c.in_ok-at.was c.if-end-form.true

pub bounds-out-at : goal.bounds-out-at
bounds-out-at c = period_room _ c.loop-at.invariant _ c.label_end-end.ensures c.put_label.ensures.puts c.in_ok-at.was c.put_label.auto.out

pub overflow_add-at : goal.overflow_add-at
overflow_add-at c =
    let h = period_room _ c.loop-at.invariant _ c.label_end-end.ensures c.put_label.ensures.puts c.in_ok-at.was c.put_label.auto.out in
    let s = c.put_label.auto.out ∙ out_length _ c.loop-at.invariant _ c.label_end-end.ensures in
    omega arith

pub loop-at-preserved : goal.loop-at-preserved
loop-at-preserved c =
    names_on _ c.loop-at.invariant _ c.label_end-end.ensures c.put_label.ensures.puts c.in_ok-at.was
    (period_room _ c.loop-at.invariant _ c.label_end-end.ensures c.put_label.ensures.puts c.in_ok-at.was c.put_label.auto.out)
    c.if-end-form.false
