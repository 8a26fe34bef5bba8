use mathlib.Core.Path.{refl, sym, ◌∙◌}
use Rattle.normal.proofs.Pending.{no_places_lem, walk_begins, reached, passed, joined_on, reached_last, none_there, apart, one_is}
use Rattle.normal.proofs.place_of.Goals.{in-Some, in-None-2}
use Rattle.normal.proofs.place_of.Goals as goal

pub returns-in_err-first : goal.returns-in_err-first
returns-in_err-first c = c.from_residual.ensures ∙ no_places_lem _ _ c.in_err-first.ensures.cases

pub loop-i-init : goal.loop-i-init
loop-i-init c = walk_begins _ _ _ c.in_ok-first.ensures.cases.0 c.replaced-last.ensures

pub returns-in-None : goal.returns-in-None
returns-in-None c = reached c.loop-i.invariant c.loop-i-test.true c.replaced-c.ensures refl (apart _ (sym c.in-None.is ∙ c.joined.ensures)) c.if-n-k.true

pub loop-i-preserved : goal.loop-i-preserved
loop-i-preserved c =
    let l = c.loop-i in
    elim c.match-joined.branch [
      | in-Some w ↦
          let one = one_is _ (sym w.in-Some.is ∙ c.joined.ensures) in
          rw (w.last-is, w.start-is, w.n-is) (joined_on l.invariant c.loop-i-test.true c.replaced-c.ensures one.0 one.1)
      | in-None-2 w ↦
          rw (w.last-is, w.start-is, w.n-is) (passed l.invariant c.loop-i-test.true c.replaced-c.ensures refl (apart _ (sym w.in-None.is ∙ c.joined.ensures)) w.if-n-k.false)
    ]

pub returns-then-n-k-2 : goal.returns-then-n-k-2
returns-then-n-k-2 c = reached_last c.loop-i.invariant c.loop-i-test.false c.if-n-k-2.true

pub returns-else-n-k-2 : goal.returns-else-n-k-2
returns-else-n-k-2 c = none_there c.loop-i.invariant c.loop-i-test.false c.if-n-k-2.false
