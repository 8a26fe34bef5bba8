use mathlib.Core.Path.{refl, sym, ◌∙◌}
use Rattle.normal.proofs.Pending.{fill_begins, pushed, merged, filled, apart, one_is}
use Rattle.normal.proofs.fill.Goals.{in-None, in-Some}
use Rattle.normal.proofs.fill.Goals as goal

pub loop-raw-init : goal.loop-raw-init
loop-raw-init c = fill_begins _ _ _ c.replaced-last.ensures

pub loop-raw-preserved : goal.loop-raw-preserved
loop-raw-preserved c =
    let l = c.loop-raw in
    elim c.match-joined.branch [
      | in-None w ↦ rw (w.out-is, w.last-is, w.n-is) (pushed l.invariant c.requires c.loop-raw-test.true c.replaced-next.ensures refl (apart _ (sym w.in-None.is ∙ c.joined.ensures)))
      | in-Some w ↦
          let one = one_is _ (sym w.in-Some.is ∙ c.joined.ensures) in
          rw (w.out-is, w.last-is, w.n-is) (merged l.invariant c.requires c.loop-raw-test.true c.replaced-next.ensures one.0 one.1)
    ]

pub returns : goal.returns
returns c = filled c.loop-raw.invariant c.requires c.loop-raw-test.false
