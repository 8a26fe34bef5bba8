use mathlib.Core.Path.{refl, sym, ◌∙◌}
use native.Mathlib.Numerals.{add-one}
use native.Mathlib.Omega.{arith}
use Rattle.std.proofs.Common.{rules, tests}
use Rattle.std.proofs.lemmas.List.{length_push}
use Rattle.std.proofs.lemmas.Iterator.Consumers.{YieldsList-turn, YieldsList-end}
use Rattle.rules.specs.Editions.{permits}
use Rattle.hosts.proofs.Counting.{counts, this_writable, count_refused, at_most, many, count_on, total_is, count_end}
use Rattle.hosts.proofs.Splitting.{in_order, at_turn, at_last}
use Rattle.hosts.proofs.labelled.coded_rule.Goals as goal

pub loop-i-init : goal.loop-i-init
loop-i-init c = counts (permits c.args.edition.now) c.args.form.now c.requires.0

pub octets_of-requires : goal.octets_of-requires
octets_of-requires c =
    let s = c.split.ensures in
    let e = c.enumerate-i-items.ensures in
    let t = at_turn c.args.form.now _ _ _
    (YieldsList-turn (in_order c.args.form.now c.into_iter-i-iterator.ensures.into_iter_gives e.source e.count s.rest s.done s.closure (λ x b q k. search (rules, tests)))
    c.loop-i.yielded _ c.loop-i.yielded_by _ _ (c.in-Some.i, c.in-Some.label) c.in-Some.is c.next.ensures.steps) in
    this_writable (permits c.args.edition.now) c.args.form.now c.loop-i.invariant t

pub returns-in_default : goal.returns-in_default
returns-in_default c =
    let s = c.split.ensures in
    let e = c.enumerate-i-items.ensures in
    let t = at_turn c.args.form.now _ _ _
    (YieldsList-turn (in_order c.args.form.now c.into_iter-i-iterator.ensures.into_iter_gives e.source e.count s.rest s.done s.closure (λ x b q k. search (rules, tests)))
    c.loop-i.yielded _ c.loop-i.yielded_by _ _ (c.in-Some.i, c.in-Some.label) c.in-Some.is c.next.ensures.steps) in
    rw c.at.ensures (count_refused (permits c.args.edition.now) c.args.form.now c.loop-i.invariant t (sym c.in_default.is ∙ c.octets_of.ensures) refl)

pub overflow_add-total : goal.overflow_add-total
overflow_add-total c =
    let s = c.split.ensures in
    let e = c.enumerate-i-items.ensures in
    let t = at_turn c.args.form.now _ _ _
    (YieldsList-turn (in_order c.args.form.now c.into_iter-i-iterator.ensures.into_iter_gives e.source e.count s.rest s.done s.closure (λ x b q k. search (rules, tests)))
    c.loop-i.yielded _ c.loop-i.yielded_by _ _ (c.in-Some.i, c.in-Some.label) c.in-Some.is c.next.ensures.steps) in
    omega (arith, at_most (permits c.args.edition.now) c.args.form.now c.loop-i.invariant t (sym c.in-Some-octets_of.is ∙ c.octets_of.ensures))

pub overflow_add-total-in-loop-i : goal.overflow_add-total-in-loop-i
overflow_add-total-in-loop-i c =
    let s = c.split.ensures in
    let e = c.enumerate-i-items.ensures in
    let t = at_turn c.args.form.now _ _ _
    (YieldsList-turn (in_order c.args.form.now c.into_iter-i-iterator.ensures.into_iter_gives e.source e.count s.rest s.done s.closure (λ x b q k. search (rules, tests)))
    c.loop-i.yielded _ c.loop-i.yielded_by _ _ (c.in-Some.i, c.in-Some.label) c.in-Some.is c.next.ensures.steps) in
    let o = sym c.in-Some-octets_of.is ∙ c.octets_of.ensures in
    omega (arith, at_most (permits c.args.edition.now) c.args.form.now c.loop-i.invariant t o, many (permits c.args.edition.now) c.args.form.now c.loop-i.invariant t o, c.loop-i.invariant.bound, c.requires.1)

pub loop-i-preserved : goal.loop-i-preserved
loop-i-preserved c =
    let s = c.split.ensures in
    let e = c.enumerate-i-items.ensures in
    let t = at_turn c.args.form.now _ _ _
    (YieldsList-turn (in_order c.args.form.now c.into_iter-i-iterator.ensures.into_iter_gives e.source e.count s.rest s.done s.closure (λ x b q k. search (rules, tests)))
    c.loop-i.yielded _ c.loop-i.yielded_by _ _ (c.in-Some.i, c.in-Some.label) c.in-Some.is c.next.ensures.steps) in
    count_on (permits c.args.edition.now) c.args.form.now c.loop-i.invariant t (sym c.in-Some-octets_of.is ∙ c.octets_of.ensures) (length_push c.loop-i.yielded _ ∙ add-one _)

pub overflow_sub-total : goal.overflow_sub-total
overflow_sub-total c =
    let s = c.split.ensures in
    let e = c.enumerate-i-items.ensures in
    let d = YieldsList-end (in_order c.args.form.now c.into_iter-i-iterator.ensures.into_iter_gives e.source e.count s.rest s.done s.closure (λ x b q k. search (rules, tests)))
    c.loop-i.yielded _ c.loop-i.yielded_by _ _ c.in-None.is c.next.ensures.steps in
    omega (arith, total_is (permits c.args.edition.now) c.args.form.now _ _ c.loop-i.invariant (at_last _ _ d.1))

pub returns : goal.returns
returns c =
    let s = c.split.ensures in
    let e = c.enumerate-i-items.ensures in
    let d = YieldsList-end (in_order c.args.form.now c.into_iter-i-iterator.ensures.into_iter_gives e.source e.count s.rest s.done s.closure (λ x b q k. search (rules, tests)))
    c.loop-i.yielded _ c.loop-i.yielded_by _ _ c.in-None.is c.next.ensures.steps in
    count_end (permits c.args.edition.now) c.args.form.now _ _ c.loop-i.invariant (at_last _ _ d.1) c.total_rule.ensures
