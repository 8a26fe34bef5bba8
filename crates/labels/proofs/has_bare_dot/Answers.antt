-- `has_bare_dot` meets its contract: of an ASCII label nothing is asked, and without a middle dot nothing else.
-- Assumes nothing.
use mathlib.Core.Path.{sym, ◌∙◌}
use Rattle.std.proofs.Common.{rules, tests}
use Rattle.std.proofs.lemmas.Iterator.{YieldsList-from_slice}
use Rattle.std.proofs.lemmas.Iterator.Consumers.{YieldsList-from_copied}
use Rattle.std.proofs.lemmas.Iterator.Search.{any_from_yields_List}
use Rattle.lists.proofs.Chains.{any_is}
use Rattle.lists.proofs.Laws.{clash}
use Rattle.rules.specs.Rules.{ordinary}
use Rattle.rules.specs.Editions.{permits}
use Rattle.labels.proofs.OfLabel.{dot_bare, dot_none, bare_japanese, bare_ascii}
use Rattle.labels.proofs.has_bare_dot.Goals.{then-japanese, else-japanese}
use Rattle.labels.proofs.has_bare_dot.Goals as goal

pub returns-then-has_middle_dot : goal.returns-then-has_middle_dot
returns-then-has_middle_dot c =
    let o = any_from_yields_List (ordinary (permits c.args.edition.now)) c.any.new.self _ c.any.result c.any.ensures.ran (YieldsList-from_copied {s = c.copied.result} (YieldsList-from_slice c.args.label.now (search (rules, tests)))) (λ x b q k. search (rules, tests)) in
    elim c.if-japanese.branch [
      | then-japanese w ↦ bare_japanese _ _ w.if-japanese.true (dot_bare _ _ w.has_middle_dot.ensures (sym w.value-is ∙ c.if-has_middle_dot.true) (o ∙ any_is _ _))
      | else-japanese w ↦ clash c.if-has_middle_dot.true (w.value-is ∙ w.if-japanese.false)
    ]

pub returns-else-has_middle_dot : goal.returns-else-has_middle_dot
returns-else-has_middle_dot c =
    c.if-has_middle_dot.false ∙ elim c.if-japanese.branch [
      | then-japanese w ↦ bare_japanese _ _ w.if-japanese.true (dot_none _ _ w.has_middle_dot.ensures (sym w.value-is ∙ c.if-has_middle_dot.false))
      | else-japanese w ↦ bare_ascii _ _ w.if-japanese.false
    ]
