-- `to_ascii_with` meets its contract: 1, then what the judge says; with 0 every label is ready to be put.
-- Assumes nothing.
use mathlib.Core.Path.{refl, sym}
use lib.Seq.{length-take-le}
use native.Mathlib.Omega.{arith}
use Rattle.std.proofs.lemmas.Result.{err_from_is_err_and}
use Rattle.refusals.proofs.Once.{number_not_0}
use Rattle.hosts.proofs.Judging.{no_room, ruled_out, form_inside, all_ready, put_all}
use Rattle.hosts.proofs.forms.to_ascii_with.Goals as goal

pub returns-then-out-lt-ROOM : goal.returns-then-out-lt-ROOM
returns-then-out-lt-ROOM c = rw c.at.ensures (no_room _ _ _ c.if-out-lt-ROOM.true refl)

pub returns-in_err-ruled : goal.returns-in_err-ruled
returns-in_err-ruled c =
    let p = err_from_is_err_and c.from_residual.result c.from_residual.ensures.1 in
    let j = rw c.in_err-ruled.was at c.judge_into-ruled.ensures in
    rw (p.1, p.2) (ruled_out _ _ _ c.if-out-lt-ROOM.false j (number_not_0 _) refl)

pub slice_bounds-form-end : goal.slice_bounds-form-end
slice_bounds-form-end c =
    let j = rw c.in_ok-ruled.was at c.judge_into-ruled.ensures in
    let h = form_inside _ _ c.args.out.now c.if-out-lt-ROOM.false j refl in
    omega (arith, c.judge_into-ruled.auto.form)

pub slice_bounds-put_labels-end : goal.slice_bounds-put_labels-end
slice_bounds-put_labels-end c =
    let j = rw c.in_ok-ruled.was at c.judge_into-ruled.ensures in
    let h = form_inside _ _ c.args.out.now c.if-out-lt-ROOM.false j refl in
    sym (length-take-le _ _ (omega (arith, c.judge_into-ruled.auto.form)))

pub put_labels-requires : goal.put_labels-requires
put_labels-requires c =
    let j = rw c.in_ok-ruled.was at c.judge_into-ruled.ensures in
    all_ready _ _ c.args.out.now c.if-out-lt-ROOM.false j refl

pub returns : goal.returns
returns c =
    let j = rw c.in_ok-ruled.was at c.judge_into-ruled.ensures in
    put_all _ _ _ c.if-out-lt-ROOM.false j refl c.put_labels.ensures
