use native.Mathlib.Omega.{arith}
use Rattle.lists.proofs.Fronts.{copies_next}
use Rattle.ascii.proofs.Forming.{low_at, all_put}
use Rattle.ascii.proofs.put_low.Goals as goal

pub overflow_cast-out : goal.overflow_cast-out
overflow_cast-out c = let h = low_at _ c.loop-i.i c.requires.0 c.loop-i-test.true in omega arith

pub loop-i-preserved : goal.loop-i-preserved
loop-i-preserved c = copies_next c.args.out.now c.loop-i.out c.args.label.now c.loop-i.i (omega (arith, c.requires.1)) c.loop-i-test.true c.loop-i.invariant

pub returns : goal.returns
returns c = all_put _ _ _ c.loop-i.i c.loop-i.auto.i-end c.loop-i-test.false c.loop-i.invariant
