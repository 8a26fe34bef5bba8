-- `labels_rule` meets its contract: the rows 6 to 12 and 17 in their order.
-- Assumes nothing.
use Rattle.std.proofs.Common.{rules, tests}
use Rattle.std.proofs.lemmas.Result.{err_from_is_err_and}
use Rattle.std.proofs.lemmas.Iterator.{YieldsList-from_slice}
use Rattle.std.proofs.lemmas.Iterator.Search.{position_from_yields_List}
use Rattle.rules.specs.Permits.{is_empty}
use Rattle.labelled.proofs.OfName.{one_empty, left_refused, not_jp, two_pass, three_pass, not_prefecture}
use Rattle.labelled.proofs.verdicts.labels_rule.Goals as goal

pub returns-in-Some : goal.returns-in-Some
unfolding is_empty
returns-in-Some c =
    let f = position_from_yields_List (λ b. is_empty b.now) _ _ c.position.result c.position.ensures.ran (YieldsList-from_slice c.args.labels.now c.iter.ensures.rest) (λ x b q k. search (rules, tests)) in
    rw c.at.ensures (one_empty _ _ _ c.requires f c.in-Some.is)

pub returns-in_err-label_rule_with : goal.returns-in_err-label_rule_with
unfolding is_empty
returns-in_err-label_rule_with c =
    let f = position_from_yields_List (λ b. is_empty b.now) _ _ c.position.result c.position.ensures.ran (YieldsList-from_slice c.args.labels.now c.iter.ensures.rest) (λ x b q k. search (rules, tests)) in
    let p = err_from_is_err_and c.from_residual.result c.from_residual.ensures.1 in
    rw (p.1, p.2) (left_refused _ _ _ c.requires f c.in_default.is _ c.in_err-label_rule_with.ensures)

pub returns-then-not-is_jp : goal.returns-then-not-is_jp
unfolding is_empty
returns-then-not-is_jp c =
    let f = position_from_yields_List (λ b. is_empty b.now) _ _ c.position.result c.position.ensures.ran (YieldsList-from_slice c.args.labels.now c.iter.ensures.rest) (λ x b q k. search (rules, tests)) in
    rw c.at-then-not-is_jp.ensures (not_jp _ _ _ c.requires f c.in_default.is c.in_ok-label_rule_with.ensures c.is_jp.ensures c.if-not-is_jp.true)

pub returns-then-labels-eq2 : goal.returns-then-labels-eq2
unfolding is_empty
returns-then-labels-eq2 c =
    let f = position_from_yields_List (λ b. is_empty b.now) _ _ c.position.result c.position.ensures.ran (YieldsList-from_slice c.args.labels.now c.iter.ensures.rest) (λ x b q k. search (rules, tests)) in
    two_pass _ _ _ c.requires f c.in_default.is c.in_ok-label_rule_with.ensures c.is_jp.ensures c.if-not-is_jp.false c.if-labels-eq2.true

pub returns-then-not-is_prefecture : goal.returns-then-not-is_prefecture
unfolding is_empty
returns-then-not-is_prefecture c =
    let f = position_from_yields_List (λ b. is_empty b.now) _ _ c.position.result c.position.ensures.ran (YieldsList-from_slice c.args.labels.now c.iter.ensures.rest) (λ x b q k. search (rules, tests)) in
    rw c.at-then-not-is_prefecture.ensures (not_prefecture _ _ _ c.requires f c.in_default.is c.in_ok-label_rule_with.ensures c.is_jp.ensures c.if-not-is_jp.false c.if-labels-eq2.false c.is_prefecture.ensures c.if-not-is_prefecture.true)

pub returns : goal.returns
unfolding is_empty
returns c =
    let f = position_from_yields_List (λ b. is_empty b.now) _ _ c.position.result c.position.ensures.ran (YieldsList-from_slice c.args.labels.now c.iter.ensures.rest) (λ x b q k. search (rules, tests)) in
    three_pass _ _ _ c.requires f c.in_default.is c.in_ok-label_rule_with.ensures c.is_jp.ensures c.if-not-is_jp.false c.if-labels-eq2.false c.is_prefecture.ensures c.if-not-is_prefecture.false
