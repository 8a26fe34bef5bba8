-- `label_rule_with` meets its contract: the label is what it is taken for.
-- Assumes nothing.
use mathlib.Core.Path.{◌∙◌}
use Rattle.labels.proofs.OfLabel.{lent_dot, rows_are}
use Rattle.labels.proofs.label_rule_with.Goals as goal

pub returns : goal.returns
returns c = c.known_rule_with.ensures ∙ rows_are _ (lent_dot c.args.edition.now) _ _ _ c.holds_japanese_with-japanese.ensures
