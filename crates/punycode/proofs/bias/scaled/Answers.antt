use mathlib.Core.Path.{refl, sym, ◌∙◌}
use Prim.Native.Nat.{◌+◌, ◌*◌}
use native.Mathlib.Nat.{div-le_self}
use native.Mathlib.Omega.{arith}
use Rattle.punycode.proofs.Clipped.{adapt_next, adapt_end}
use Rattle.punycode.proofs.bias.scaled.Goals as goal

pub loop-d-init : goal.loop-d-init
loop-d-init c = (c.args.delta, omega arith, refl, omega arith)

pub loop-d-preserved : goal.loop-d-preserved
loop-d-preserved c = let v = c.loop-d.invariant in
    let g = adapt_next v.0 c.loop-d.k c.loop-d.d v.1 (omega arith) in
    (g.0, g.1, sym g.2 ∙ v.2, omega arith)

pub overflow_add-result-2 : goal.overflow_add-result-2
overflow_add-result-2 c = omega (arith, div-le_self (36 * c.loop-d.d) (c.loop-d.d + 38))

pub returns : goal.returns
returns c = sym (adapt_end c.loop-d.invariant.0 c.loop-d.k c.loop-d.d (omega arith)) ∙ c.loop-d.invariant.2
