-- `adapt` meets its contract: the damped delta and the scaling are the definition's own two steps, and neither is more than delta.
-- Assumes nothing.
use native.Mathlib.Nat.{div-le_self}
use native.Mathlib.Omega.{arith}
use Rattle.punycode.specs.Punycode.{adapt}
use Rattle.punycode.proofs.bias.adapt.Goals as goal

pub overflow_add-d : goal.overflow_add-d
overflow_add-d c = omega (arith, div-le_self c.damped-d.result c.args.points)

pub scaled-requires : goal.scaled-requires
scaled-requires c = omega (arith, div-le_self c.damped-d.result c.args.points)

pub returns : goal.returns
unfolding adapt
returns c = rw (c.scaled.ensures, c.damped-d.ensures.0)
