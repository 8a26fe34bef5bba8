-- `name_rules_with` meets its contract: it has the labels of the form, or there are not two or three, or three may not be.
-- Assumes nothing.
use mathlib.Core.Path.{sym, ap, ◌∙◌}
use native.Mathlib.Omega.{arith}
use lib.Seq.{length-take-le}
use Rattle.rules.specs.Rules.{by_labels}
use Rattle.labelled.proofs.Cutting.{ends_at, two_within, three_first, three_within}
use Rattle.labelled.specs.declared.Cut.TheVariants.{Two, Three}
use Rattle.labelled.proofs.OfName.{three_refused, other_count}
use Rattle.labelled.proofs.verdicts.name_rules_with.Goals as goal
use Rattle.labelled.proofs.verdicts.name_rules_with.Goals.{in_default-via-in-Three+else-has_prefectures, in_default-via-in_default}

pub slice_bounds-labels_rule-end : goal.slice_bounds-labels_rule-end
slice_bounds-labels_rule-end c = sym (length-take-le c.in-Two.a c.args.form.now (omega (arith, two_within _ c.label_ends.ensures c.in-Two.is)))

pub slice_bounds-labels_rule-end-in-Three : goal.slice_bounds-labels_rule-end-in-Three
slice_bounds-labels_rule-end-in-Three c =
    let e = c.label_ends.ensures in
    sym (length-take-le c.in-Three.a c.args.form.now (omega (arith, three_first _ e c.in-Three.is, three_within _ e c.in-Three.is)))

pub returns-in-Two : goal.returns-in-Two
returns-in-Two c = c.labels_rule.ensures ∙ ap (by_labels _) (sym (ends_at c.args.form.now (Two c.in-Two.a) c.in-Two.ensures).1)

pub returns-in-Three : goal.returns-in-Three
returns-in-Three c = c.labels_rule-in-Three.ensures ∙ ap (by_labels _) (sym (ends_at c.args.form.now (Three c.in-Three.a c.in-Three.b) c.in-Three.ensures).2)

pub returns-in_default : goal.returns-in_default
returns-in_default c =
    rw c.at.ensures (elim c.in_default.branch [
      | in_default-via-in-Three+else-has_prefectures w ↦ three_refused _ _ _ _ _ (sym w.has_prefectures.ensures ∙ w.if-has_prefectures.false) (ends_at c.args.form.now (Three w.in-Three.a w.in-Three.b) w.in-Three.ensures).2
      | in_default-via-in_default w ↦ other_count _ _ _ (ends_at _ _ c.label_ends.ensures) w.in_default.not-Two w.in_default.not-Three
    ])
