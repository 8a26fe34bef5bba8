-- `is_leftmost` meets its contract: what is told of a result has the number 0 exactly where it accepts.
-- Assumes nothing.
use mathlib.Core.Path.{ap, ◌∙◌}
use lib.Dec.{eqb}
use Rattle.lists.specs.Rows.{Answer}
use Rattle.rules.specs.Hopeful.{leftmost}
use Rattle.hopes.proofs.Hoping.{accepted_is}
use Rattle.hopes.proofs.is_leftmost.Goals as goal

pub returns : goal.returns
unfolding leftmost
returns c = c.is_ok.ensures.value ∙ accepted_is c.label_rule_with.result ∙ ap (λ (a : Answer). eqb a.number 0) c.label_rule_with.ensures
