-- `any_high` meets its contract: each character is asked whether it is past ASCII.
-- Assumes nothing.
use mathlib.Core.Path.{◌∙◌}
use Rattle.std.proofs.Common.{rules, tests}
use Rattle.std.proofs.lemmas.Iterator.Consumers.{YieldsList-from_copied}
use Rattle.std.proofs.lemmas.Iterator.Search.{any_from_yields_List}
use Rattle.std.proofs.lemmas.Iterator.{YieldsList-from_slice}
use Rattle.lists.proofs.Chains.{any_is}
use Rattle.ascii.specs.Labels.{high}
use Rattle.ascii.proofs.any_high.Goals as goal

pub returns : goal.returns
unfolding high
returns c = any_from_yields_List high c.any.new.self _ _ c.any.ensures.ran (YieldsList-from_copied {s = c.copied.result} (YieldsList-from_slice c.args.label.now (search (rules, tests)))) (λ x b q k. search rules) ∙ any_is high _
