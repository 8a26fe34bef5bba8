use mathlib.Core.Path.{refl}
use native.Mathlib.Omega.{arith}
use Rattle.answer.proofs.Answering.{long_line}
use Rattle.batch.proofs.Turns.{begins, stays, turn, turn_on}
use Rattle.batch.proofs.stream.scan.Goals as goal

pub loop-line-init : goal.loop-line-init
loop-line-init c = begins _ _ _ _

pub overflow_add-at : goal.overflow_add-at
overflow_add-at c = omega (arith, turn_on c.loop-line.invariant c.in-Some.ensures refl)

pub overflow_add-at-in-Some : goal.overflow_add-at-in-Some
overflow_add-at-in-Some c = omega (arith, turn_on c.loop-line.invariant c.in-Some.ensures refl)

pub loop-line-smaller : goal.loop-line-smaller
loop-line-smaller c = omega (arith, turn_on c.loop-line.invariant c.in-Some.ensures refl)

pub loop-line-preserved : goal.loop-line-preserved
loop-line-preserved c = turn c.loop-line.invariant c.in-Some.ensures refl (long_line _)

pub returns : goal.returns
returns c = stays c.loop-line.invariant c.in_default.ensures refl
