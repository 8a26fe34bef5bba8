use mathlib.Core.Path.{refl, ◌∙◌}
use native.Mathlib.Numerals.{add-one}
use Rattle.std.proofs.Common.{rules, tests}
use Rattle.std.proofs.lemmas.List.{length_push}
use Rattle.std.proofs.lemmas.Iterator.Consumers.{YieldsList-turn, YieldsList-end}
use Rattle.std.proofs.lemmas.Result.{err_from_is_err_and}
use Rattle.refusals.proofs.Once.{number_not_0}
use Rattle.rules.specs.Editions.{permits}
use Rattle.hosts.proofs.Splitting.{in_order, at_turn, at_last}
use Rattle.hosts.proofs.Walking.{ask_stops, ask_on, ask_end}
use Rattle.hosts.proofs.labelled.each_rule.Goals as goal

pub returns-in_err-label_rule_with : goal.returns-in_err-label_rule_with
returns-in_err-label_rule_with c =
    let s = c.split.ensures in
    let e = c.enumerate-i-items.ensures in
    let t = at_turn c.args.form.now _ _ _
    (YieldsList-turn (in_order c.args.form.now c.into_iter-i-iterator.ensures.into_iter_gives e.source e.count s.rest s.done s.closure (λ x b q k. search (rules, tests)))
    c.loop-i.yielded _ c.loop-i.yielded_by _ _ (c.in-Some.i, c.in-Some.label) c.in-Some.is c.next.ensures.steps) in
    let p = err_from_is_err_and c.from_residual.result c.from_residual.ensures.1 in
    rw (p.1, p.2) (ask_stops (permits c.args.edition.now) _ c.loop-i.invariant t c.in_err-label_rule_with.ensures (number_not_0 _))

pub loop-i-preserved : goal.loop-i-preserved
loop-i-preserved c =
    let s = c.split.ensures in
    let e = c.enumerate-i-items.ensures in
    let t = at_turn c.args.form.now _ _ _
    (YieldsList-turn (in_order c.args.form.now c.into_iter-i-iterator.ensures.into_iter_gives e.source e.count s.rest s.done s.closure (λ x b q k. search (rules, tests)))
    c.loop-i.yielded _ c.loop-i.yielded_by _ _ (c.in-Some.i, c.in-Some.label) c.in-Some.is c.next.ensures.steps) in
    ask_on (permits c.args.edition.now) _ c.loop-i.invariant t c.in_ok-label_rule_with.ensures refl (length_push c.loop-i.yielded _ ∙ add-one _)

pub returns : goal.returns
returns c =
    let s = c.split.ensures in
    let e = c.enumerate-i-items.ensures in
    let d = YieldsList-end (in_order c.args.form.now c.into_iter-i-iterator.ensures.into_iter_gives e.source e.count s.rest s.done s.closure (λ x b q k. search (rules, tests)))
    c.loop-i.yielded _ c.loop-i.yielded_by _ _ c.in-None.is c.next.ensures.steps in
    ask_end (permits c.args.edition.now) _ _ c.loop-i.invariant (at_last _ _ d.1)
