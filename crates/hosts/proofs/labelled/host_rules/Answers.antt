-- `host_rules` meets its contract: the rows are asked in their order.
-- Assumes nothing.
use mathlib.Core.Path.{refl}
use Rattle.std.proofs.lemmas.Result.{err_from_is_err_and}
use Rattle.refusals.proofs.Once.{number_not_0}
use Rattle.hosts.proofs.Judging.{said_5, said_6, said_each, all_writable, said_coded}
use Rattle.hosts.proofs.labelled.host_rules.Goals as goal

pub returns-then-few_labels : goal.returns-then-few_labels
returns-then-few_labels c = rw c.at.ensures (said_5 _ _ c.few_labels.ensures c.if-few_labels.true refl)

pub returns-in-Some : goal.returns-in-Some
returns-in-Some c = rw c.at-in-Some.ensures (said_6 _ _ c.few_labels.ensures c.if-few_labels.false c.first_empty.ensures c.in-Some.is refl)

pub returns-in_err-each_rule : goal.returns-in_err-each_rule
returns-in_err-each_rule c =
    let p = err_from_is_err_and c.from_residual.result c.from_residual.ensures.1 in
    rw (p.1, p.2) (said_each _ _ c.few_labels.ensures c.if-few_labels.false c.first_empty.ensures c.in_default.is c.in_err-each_rule.ensures (number_not_0 _))

pub coded_rule-requires : goal.coded_rule-requires
coded_rule-requires c = (all_writable _ _ c.few_labels.ensures c.if-few_labels.false c.first_empty.ensures c.in_default.is c.in_ok-each_rule.ensures refl c.requires.0, c.requires.1)

pub returns : goal.returns
returns c = said_coded _ _ c.few_labels.ensures c.if-few_labels.false c.first_empty.ensures c.in_default.is c.in_ok-each_rule.ensures refl c.coded_rule.ensures
