-- `put_label` meets its contract: the scratch holds the label's ASCII form, which is copied to its place.
-- Assumes nothing.
use mathlib.Core.Path.{◌≡◌}
use Prim.Native.Nat.{◌+◌, ◌-◌, ◌≤◌}
use native.Mathlib.Omega.{arith}
use lib.ListN.{length, take, drop, length-drop}
use lib.Seq.{length-take-le}
use Rattle.rules.specs.Editions.{permits}
use Rattle.rules.proofs.Editions.{lent_stretch}
use Rattle.hosts.proofs.Putting.{accepts, scratch_fits, place_fits, label_put}
use Rattle.hosts.proofs.forms.put_label.Goals as goal

pub unwrap-put-requires : goal.unwrap-put-requires
unwrap-put-requires c = accepts (permits c.args.edition.now) (lent_stretch _ _) c.args.label.now c.args.at c.args.out.now c.requires c.label_form.result c.label_form.ensures (omega arith)

pub overflow_add-end : goal.overflow_add-end
overflow_add-end c =
    let f = rw c.unwrap-put.ensures at c.label_form.ensures in
    omega (arith, place_fits (permits c.args.edition.now) (lent_stretch _ _) c.args.label.now c.args.at c.args.out.now c.requires f (omega arith))

pub slice_bounds-copy_from_slice-end : goal.slice_bounds-copy_from_slice-end
slice_bounds-copy_from_slice-end c =
    let f = rw c.unwrap-put.ensures at c.label_form.ensures in
    omega (arith, place_fits (permits c.args.edition.now) (lent_stretch _ _) c.args.label.now c.args.at c.args.out.now c.requires f (omega arith))

pub slice_bounds-scratch-end : goal.slice_bounds-scratch-end
slice_bounds-scratch-end c =
    let f = rw c.unwrap-put.ensures at c.label_form.ensures in
    omega (arith, c.label_form.auto.out, scratch_fits (permits c.args.edition.now) (lent_stretch _ _) c.args.label.now c.args.at c.args.out.now c.requires f (omega arith))

pub slice_bounds-copy_from_slice-end-2 : goal.slice_bounds-copy_from_slice-end-2
slice_bounds-copy_from_slice-end-2 c =
    let f = rw c.unwrap-put.ensures at c.label_form.ensures in
    let s = scratch_fits (permits c.args.edition.now) (lent_stretch _ _) c.args.label.now c.args.at c.args.out.now c.requires f (omega arith) in
    omega (arith, length-take-le c.unwrap-put.result c.label_form.new.out (omega (arith, c.label_form.auto.out)))

pub copy_from_slice-requires : goal.copy_from_slice-requires
copy_from_slice-requires c =
    let r = c.label_form in
    let n = c.unwrap-put.result in
    let f = rw c.unwrap-put.ensures at c.label_form.ensures in
    let p = place_fits (permits c.args.edition.now) (lent_stretch _ _) c.args.label.now c.args.at c.args.out.now c.requires f (omega arith) in
    let s = scratch_fits (permits c.args.edition.now) (lent_stretch _ _) c.args.label.now c.args.at c.args.out.now c.requires f (omega arith) in
    let e : c.args.at + n - c.args.at ≡ n = omega arith in
    let a : length (take n r.new.out) ≡ n = length-take-le n r.new.out (omega (arith, r.auto.out)) in
    let b : n ≤ length (drop c.args.at c.args.out.now) = omega (arith, length-drop c.args.at c.args.out.now) in
    rw (e, length-take-le n (drop c.args.at c.args.out.now) b, a)

pub returns : goal.returns
returns c =
    let a = c.args in
    let f = rw c.unwrap-put.ensures at c.label_form.ensures in
    label_put (permits a.edition.now) (lent_stretch _ _) a.label.now a.at a.out.now c.requires f (omega arith) c.copy_from_slice.ensures.after
