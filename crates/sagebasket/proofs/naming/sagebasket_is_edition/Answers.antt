-- `sagebasket_is_edition` meets its contract: it says what `is_edition` says.
-- Assumes nothing.
use mathlib.Core.Path.{ap, ◌∙◌}
use Rattle.sagebasket.specs.Outside.{flag}
use Rattle.sagebasket.proofs.Said.{flag_is}
use Rattle.sagebasket.proofs.naming.sagebasket_is_edition.Goals as goal

pub returns : goal.returns
returns c = c.from.ensures ∙ flag_is _ ∙ ap flag c.is_edition.ensures
