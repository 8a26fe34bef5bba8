use mathlib.Core.Path.{◌∙◌}
use native.Mathlib.Numerals.{add-one}
use native.Mathlib.Omega.{arith}
use lib.ListN.{length}
use Rattle.std.proofs.Common.{rules, tests}
use Rattle.std.proofs.lemmas.List.{length_push}
use Rattle.std.proofs.lemmas.Iterator.Consumers.{YieldsList-turn, YieldsList-end}
use Rattle.rules.specs.Editions.{permits}
use Rattle.hosts.proofs.Putting.{Placing, hosts_all, host_first, host_room, host_next, ready, host_on, host_end}
use Rattle.hosts.proofs.Splitting.{in_order, at_turn, at_last}
use Rattle.hosts.proofs.forms.put_labels.Goals as goal
use Rattle.hosts.proofs.forms.put_labels.Goals.{then-i-gt0, else-i-gt0}

pub loop-i-init : goal.loop-i-init
loop-i-init c = hosts_all (permits c.args.edition.now) c.args.form.now _ c.requires

pub bounds-out-at : goal.bounds-out-at
bounds-out-at c =
    let s = c.split.ensures in
    let e = c.enumerate-i-items.ensures in
    let t = at_turn c.args.form.now _ _ _
    (YieldsList-turn (in_order c.args.form.now c.into_iter-i-iterator.ensures.into_iter_gives e.source e.count s.rest s.done s.closure (λ x b q k. search (rules, tests)))
    c.loop-i.yielded _ c.loop-i.yielded_by _ _ (c.in-Some.i, c.in-Some.label) c.in-Some.is c.next.ensures.steps) in
    host_room (permits c.args.edition.now) c.args.form.now c.loop-i.invariant t c.if-i-gt0.true

pub put_label-at-requires : goal.put_label-at-requires
put_label-at-requires c =
    let s = c.split.ensures in
    let e = c.enumerate-i-items.ensures in
    let t = at_turn c.args.form.now _ _ _
    (YieldsList-turn (in_order c.args.form.now c.into_iter-i-iterator.ensures.into_iter_gives e.source e.count s.rest s.done s.closure (λ x b q k. search (rules, tests)))
    c.loop-i.yielded _ c.loop-i.yielded_by _ _ (c.in-Some.i, c.in-Some.label) c.in-Some.is c.next.ensures.steps) in
    let p : Placing (permits c.args.edition.now) c.args.form.now c.args.out.now c.if-i-gt0.out (length c.loop-i.yielded) c.if-i-gt0.at c.in-Some.label.now =
    elim c.if-i-gt0.branch [
      | then-i-gt0 w ↦ rw (w.out-is, w.at-is) (host_next (permits c.args.edition.now) c.args.form.now c.loop-i.invariant t w.if-i-gt0.true)
      | else-i-gt0 w ↦ rw (w.out-is, w.at-is) (host_first (permits c.args.edition.now) c.args.form.now c.loop-i.invariant t (omega (arith, w.if-i-gt0.false)))
    ] in
    ready (permits c.args.edition.now) c.args.form.now p

pub loop-i-preserved : goal.loop-i-preserved
loop-i-preserved c =
    let s = c.split.ensures in
    let e = c.enumerate-i-items.ensures in
    let t = at_turn c.args.form.now _ _ _
    (YieldsList-turn (in_order c.args.form.now c.into_iter-i-iterator.ensures.into_iter_gives e.source e.count s.rest s.done s.closure (λ x b q k. search (rules, tests)))
    c.loop-i.yielded _ c.loop-i.yielded_by _ _ (c.in-Some.i, c.in-Some.label) c.in-Some.is c.next.ensures.steps) in
    let p : Placing (permits c.args.edition.now) c.args.form.now c.args.out.now c.if-i-gt0.out (length c.loop-i.yielded) c.if-i-gt0.at c.in-Some.label.now =
    elim c.if-i-gt0.branch [
      | then-i-gt0 w ↦ rw (w.out-is, w.at-is) (host_next (permits c.args.edition.now) c.args.form.now c.loop-i.invariant t w.if-i-gt0.true)
      | else-i-gt0 w ↦ rw (w.out-is, w.at-is) (host_first (permits c.args.edition.now) c.args.form.now c.loop-i.invariant t (omega (arith, w.if-i-gt0.false)))
    ] in
    host_on (permits c.args.edition.now) c.args.form.now p c.put_label-at.ensures (length_push c.loop-i.yielded _ ∙ add-one _)

pub returns : goal.returns
returns c =
    let s = c.split.ensures in
    let e = c.enumerate-i-items.ensures in
    let d = YieldsList-end (in_order c.args.form.now c.into_iter-i-iterator.ensures.into_iter_gives e.source e.count s.rest s.done s.closure (λ x b q k. search (rules, tests)))
    c.loop-i.yielded _ c.loop-i.yielded_by _ _ c.in-None.is c.next.ensures.steps in
    host_end (permits c.args.edition.now) c.args.form.now _ _ c.loop-i.invariant (at_last _ _ d.1)
