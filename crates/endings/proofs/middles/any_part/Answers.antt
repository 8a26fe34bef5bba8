use mathlib.Core.Path.{refl, ◌∙◌}
use native.Mathlib.Omega.{arith}
use Rattle.lists.specs.Tests.{any_of}
use Rattle.endings.specs.Parts.{parts}
use Rattle.endings.proofs.Middle.{bounds, order_on, part_here, part_on, none_left}
use Rattle.endings.proofs.middles.any_part.Goals as goal

pub offset_bounds-table-cut : goal.offset_bounds-table-cut
offset_bounds-table-cut g c =
    let h = c.in-Some.ensures.steps.1 in
    let b = bounds _ c.loop-cut.invariant.two h.0 h.1 _ c.loop-cut.invariant.order in
    record { fits = omega (arith, c.well_formed.0.1) }

pub slice_bounds-test-count : goal.slice_bounds-test-count
slice_bounds-test-count g c =
    let h = c.in-Some.ensures.steps.1 in
    (bounds _ c.loop-cut.invariant.two h.0 h.1 _ c.loop-cut.invariant.order).0

pub slice_bounds-test-start : goal.slice_bounds-test-start
slice_bounds-test-start g c =
    let h = c.in-Some.ensures.steps.1 in
    let b = bounds _ c.loop-cut.invariant.two h.0 h.1 _ c.loop-cut.invariant.order in
    omega arith

pub slice_bounds-test-end : goal.slice_bounds-test-end
slice_bounds-test-end g c =
    let h = c.in-Some.ensures.steps.1 in
    let b = bounds _ c.loop-cut.invariant.two h.0 h.1 _ c.loop-cut.invariant.order in
    omega arith

pub returns-then-test : goal.returns-then-test
returns-then-test g c f computes =
    let h = c.in-Some.ensures.steps.1 in
    let says = computes _ _ (record { shown = _; shows = refl; says = record { met = c.test.ensures } }) in
    part_here _ c.loop-cut.invariant.two h.0 h.1 f _ {all = any_of f (parts c.args.table.now c.args.starts.now)} (c.loop-cut.invariant.told f computes) says c.if-test.true

pub loop-cut-preserved : goal.loop-cut-preserved
loop-cut-preserved g c =
    let steps = c.in-Some.ensures.steps in
    let h = steps.1 in
    record {
      two = steps.0 ∙ c.loop-cut.invariant.two;
      order = order_on _ c.loop-cut.invariant.two h.0 h.1 _ h.2 c.loop-cut.invariant.order;
      told =
          λ f computes.
          let says = computes _ _ (record { shown = _; shows = refl; says = record { met = c.test.ensures } }) in
          part_on _ c.loop-cut.invariant.two h.0 h.1 f _ {all = any_of f (parts c.args.table.now c.args.starts.now)} (c.loop-cut.invariant.told f computes) says h.2 c.if-test.false;
    }

pub returns : goal.returns
returns g c f computes = none_left f _ _ c.loop-cut.invariant.two c.in-None.ensures.steps.1.0 (c.loop-cut.invariant.told f computes)
