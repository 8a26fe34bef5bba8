-- `sagebasket_may_become` meets its contract: it says what `may_become` says.
-- Assumes nothing.
use mathlib.Core.Path.{ap, ◌∙◌}
use Rattle.sagebasket.specs.Outside.{flag}
use Rattle.sagebasket.proofs.Said.{flag_is}
use Rattle.sagebasket.proofs.naming.sagebasket_may_become.Goals as goal

pub returns : goal.returns
returns c = c.from.ensures ∙ flag_is _ ∙ ap flag c.may_become.ensures
