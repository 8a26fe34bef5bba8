-- `holds_japanese_with` meets its contract: each character is asked.
-- Assumes nothing.
use mathlib.Core.Path.{◌∙◌}
use Rattle.std.proofs.Common.{rules, tests}
use Rattle.std.proofs.lemmas.Iterator.{YieldsList-from_slice}
use Rattle.std.proofs.lemmas.Iterator.Consumers.{YieldsList-from_copied}
use Rattle.std.proofs.lemmas.Iterator.Search.{any_from_yields_List}
use Rattle.lists.proofs.Chains.{any_is}
use Rattle.rules.specs.Permits.{ja_char}
use Rattle.rules.specs.Rules.{is_japanese}
use Rattle.rules.specs.Editions.{permits}
use Rattle.labels.proofs.holds_japanese_with.Goals as goal

pub returns : goal.returns
unfolding is_japanese
returns c =
    any_from_yields_List (ja_char (permits c.args.edition.now)) c.any.new.self _ _ c.any.ensures.ran (YieldsList-from_copied {s = c.copied.result} (YieldsList-from_slice c.args.label.now (search (rules, tests)))) (λ x b q k. search (rules, tests))
    ∙ any_is _ _
