-- `form_grows` meets its contract: it has the labels of the form, or there are four or more.
-- Assumes nothing.
use mathlib.Core.Path.{sym, ap, ◌∙◌}
use native.Mathlib.Omega.{arith}
use lib.Seq.{length-take-le}
use Rattle.rules.specs.Hopeful.{grows}
use Rattle.labelled.proofs.Cutting.{ends_at, two_within, three_first, three_within}
use Rattle.labelled.specs.declared.Cut.TheVariants.{One, Two, Three, More}
use Rattle.hopes.proofs.Hoping.{four_not}
use Rattle.hopes.proofs.form_grows.Goals as goal

pub returns-in-One : goal.returns-in-One
returns-in-One c = c.one_grows.ensures ∙ ap (grows _) (sym (ends_at c.args.form.now One c.in-One.ensures))

pub slice_bounds-two_grow-end : goal.slice_bounds-two_grow-end
slice_bounds-two_grow-end c = sym (length-take-le c.in-Two.a c.args.form.now (omega (arith, two_within _ c.label_ends.ensures c.in-Two.is)))

pub returns-in-Two : goal.returns-in-Two
returns-in-Two c = c.two_grow.ensures ∙ ap (grows _) (sym (ends_at c.args.form.now (Two c.in-Two.a) c.in-Two.ensures).1)

pub slice_bounds-three_grow-end : goal.slice_bounds-three_grow-end
slice_bounds-three_grow-end c =
    let e = c.label_ends.ensures in
    sym (length-take-le c.in-Three.a c.args.form.now (omega (arith, three_first _ e c.in-Three.is, three_within _ e c.in-Three.is)))

pub returns-in-Three : goal.returns-in-Three
returns-in-Three c = c.three_grow.ensures ∙ ap (grows _) (sym (ends_at c.args.form.now (Three c.in-Three.a c.in-Three.b) c.in-Three.ensures).2)

pub returns-in-More : goal.returns-in-More
returns-in-More c = four_not _ _ (ends_at c.args.form.now (More c.in-More.field-0 c.in-More.field-1) c.in-More.ensures)
