-- `is_period` meets its contract: the compare is the test.
-- Assumes nothing.
use mathlib.Core.Path.{refl}
use Rattle.rules.specs.Labels.{period}
use Rattle.hosts.proofs.labelled.is_period.Goals as goal

pub returns : goal.returns
unfolding period
returns c = refl
