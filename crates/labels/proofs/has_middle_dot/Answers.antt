-- `has_middle_dot` meets its contract: each character is asked.
-- Assumes nothing.
use mathlib.Core.Path.{◌∙◌}
use lib.Dec.{eqb}
use Rattle.std.proofs.Common.{rules, tests}
use Rattle.std.proofs.lemmas.Iterator.{YieldsList-from_slice}
use Rattle.std.proofs.lemmas.Iterator.Consumers.{YieldsList-from_copied}
use Rattle.std.proofs.lemmas.Iterator.Search.{any_from_yields_List}
use Rattle.lists.proofs.Chains.{contains_is}
use Rattle.labels.proofs.has_middle_dot.Goals as goal

pub returns : goal.returns
returns c =
    any_from_yields_List (λ y. eqb y 0x30FB) c.any.new.self _ _ c.any.ensures.ran (YieldsList-from_copied {s = c.copied.result} (YieldsList-from_slice c.args.label.now (search (rules, tests)))) (λ x b q k. search (rules, tests))
    ∙ contains_is _ _
