-- `check_with` meets its contract: 1, then what the judge says; its array holds what is written, and the labels are those of the form.
-- Assumes nothing.
use mathlib.Core.Path.{◌≡◌, sym, ap}
use mathlib.Core.List.{List, ◌++◌}
use Prim.Native.Nat.{ℕ, ◌≤◌}
use lib.ListN.{length, take, drop}
use native.Mathlib.Omega.{arith}
use lib.Seq.{length-take-le, take_all}
use Rattle.std.proofs.Common.{rules}
use Rattle.std.proofs.lemmas.Result.{err_from_is_err_and}
use Rattle.names.proofs.Answering.{accepted_as, two_or_three_there, check_no_room, check_refused, check_accepted}
use Rattle.names.proofs.checks.check_with.Goals as goal

pub returns-then-out-lt256 : goal.returns-then-out-lt256
returns-then-out-lt256 c = rw c.at.ensures (check_no_room _ _ _ c.if-out-lt256.true)

pub returns-in_err-class : goal.returns-in_err-class
returns-in_err-class c =
    let p = err_from_is_err_and c.from_residual.result c.from_residual.ensures.1 in
    rw (p.1, p.2) (check_refused _ _ _ c.if-out-lt256.false c.judge_into-ruled.ensures c.in_err-class.was)

pub slice_bounds-buffer-end : goal.slice_bounds-buffer-end
slice_bounds-buffer-end c = let p = accepted_as _ _ c.judge_into-ruled.ensures c.in_ok-class.was in omega (arith, p.few, c.judge_into-ruled.auto.form)

pub slice_bounds-form-end : goal.slice_bounds-form-end
slice_bounds-form-end c =
    let p = accepted_as _ _ c.judge_into-ruled.ensures c.in_ok-class.was in
    sym (length-take-le _ c.judge_into-ruled.new.form (omega (arith, p.few, c.judge_into-ruled.auto.form)))

pub slice_bounds-copy_from_slice-end : goal.slice_bounds-copy_from_slice-end
slice_bounds-copy_from_slice-end c = let p = accepted_as _ _ c.judge_into-ruled.ensures c.in_ok-class.was in omega (arith, p.few)

pub slice_bounds-copy_from_slice-end-2 : goal.slice_bounds-copy_from_slice-end-2
slice_bounds-copy_from_slice-end-2 c =
    let p = accepted_as _ _ c.judge_into-ruled.ensures c.in_ok-class.was in
    sym (length-take-le _ c.args.out.now (omega (arith, p.few)))

pub copy_from_slice-requires : goal.copy_from_slice-requires
copy_from_slice-requires c =
    let p = accepted_as _ _ c.judge_into-ruled.ensures c.in_ok-class.was in
    let j = c.judge_into-ruled in
    let form = take j.result.length j.new.form in
    let f : j.result.length ≤ length c.args.out.now = omega (arith, p.few) in
    let g : j.result.length ≤ length j.new.form = omega (arith, p.few, j.auto.form) in
    omega (arith, length-take-le j.result.length c.args.out.now f, length-take-le j.result.length j.new.form g, length-take-le (length form) form (omega arith))

pub label_places-requires : goal.label_places-requires
label_places-requires c = two_or_three_there _ _ c.judge_into-ruled.ensures c.in_ok-class.was

pub returns : goal.returns
returns c =
    let j = c.judge_into-ruled in
    let wrote : c.copy_from_slice.new.self ≡ take j.result.length j.new.form = search (rules, c.copy_from_slice.ensures.after, take_all) in
    check_accepted _ _ _ c.if-out-lt256.false j.ensures c.in_ok-class.was c.label_places.ensures
    (ap (λ (l : List ℕ). l ++ drop j.result.length c.args.out.now) wrote)
