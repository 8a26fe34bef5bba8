-- `class_by_front` meets its contract: with a number that is no edition 25 stands before all; else 2 to 4 come first, and the labels of the form have
-- the rest.
-- Assumes nothing.
use mathlib.Core.Path.{◌∙◌}
use Rattle.std.proofs.lemmas.Result.{err_from_is_err_and}
use Rattle.labelled.proofs.OfName.{lent_known}
use Rattle.names.proofs.Judging.{says_25, says_refused, says_unfit, says_labels}
use Rattle.names.proofs.judges.class_by_front.Goals as goal

pub returns-then-not-is_edition : goal.returns-then-not-is_edition
returns-then-not-is_edition c = rw c.at.ensures (says_25 _ (lent_known _ _ c.is_edition.ensures ∙ c.if-not-is_edition.true))

pub returns-in_err-front : goal.returns-in_err-front
returns-in_err-front c =
    let p = err_from_is_err_and c.from_residual.result c.from_residual.ensures.1 in
    rw (p.1, p.2, c.in_err-front.was) (says_refused _ (lent_known _ _ c.is_edition.ensures ∙ c.if-not-is_edition.false) _)

pub returns-in-Some : goal.returns-in-Some
returns-in-Some c =
    rw (c.at-in-Some.ensures, c.in_ok-front.was, c.in-Some.is)
    (says_unfit _ (lent_known _ _ c.is_edition.ensures ∙ c.if-not-is_edition.false) _ _)

pub returns : goal.returns
returns c =
    rw (c.in_ok-front.was, c.in_default.is)
    (says_labels _ (lent_known _ _ c.is_edition.ensures ∙ c.if-not-is_edition.false) _ c.name_rules_with.ensures)
