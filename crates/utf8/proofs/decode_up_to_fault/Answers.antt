use mathlib.Core.Path.{refl}
use Rattle.utf8.proofs.Decoding.{starts, stays, puts_one, faults, ends}
use Rattle.utf8.proofs.decode_up_to_fault.Goals.{in-More, in-Code}
use Rattle.utf8.proofs.decode_up_to_fault.Goals as goal

pub loop-b-init : goal.loop-b-init
loop-b-init c = starts _ _

pub returns-in_err-value : goal.returns-in_err-value
returns-in_err-value c = rw c.from_residual.ensures (faults c.loop-b.invariant c.loop-b-test.true refl c.in_err-value.ensures)

pub loop-b-preserved : goal.loop-b-preserved
loop-b-preserved c =
    let k = c.loop-b.invariant in
    let t = c.loop-b-test.true in
    let s = c.in_ok-value.ensures in
    elim c.match-branch-2.branch [
      | in-More w ↦ rw (w.out-is, w.begun-is, w.count-is) (stays k t refl (rw w.in-More.is at s))
      | in-Code w ↦ rw (w.out-is, w.begun-is, w.count-is) (puts_one k t refl (rw w.in-Code.is at s) w.put_code-count.ensures)
    ]

pub returns : goal.returns
returns c = rw c.then_some.ensures (ends c.loop-b.invariant c.loop-b-test.false _ c.is_none.ensures)
