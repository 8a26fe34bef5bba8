use mathlib.Core.Path.{refl}
use native.Mathlib.Omega.{arith}
use Rattle.answer.proofs.Reading.{begins, more, ends}
use Rattle.answer.proofs.usual.read_name.Goals as goal

pub loop-rest-init : goal.loop-rest-init
loop-rest-init c = begins _ _ c.min-reach.ensures

pub returns-then-b-eq10 : goal.returns-then-b-eq10
returns-then-b-eq10 c = ends c.loop-rest.invariant c.in-len1-up.len_at_least c.if-b-eq10.true c.min-reach.ensures refl

pub loop-rest-preserved : goal.loop-rest-preserved
loop-rest-preserved c = more c.loop-rest.invariant (omega arith) c.in_ok-code.ensures
