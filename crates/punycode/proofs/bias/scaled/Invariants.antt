-- `scaled` meets its contract: at each turn the definition's loop from here gives the same answer, and k grows by no more than delta falls.
-- Assumes nothing.
use mathlib.Core.Path.{◌≡◌}
use Prim.Native.Nat.{ℕ, ◌≤◌, ◌+◌, ◌*◌}
use Rattle.punycode.specs.Punycode.{adapt_loop}
use Rattle.punycode.proofs.bias.scaled.Given as goal

abbrev pub invariant-loop-d : goal.invariant-loop-d
invariant-loop-d l = (f : ℕ) × (l.d ≤ f) × (adapt_loop f l.k l.d ≡ adapt_loop l.delta 0 l.delta) × (l.k + 36 * l.d ≤ 36 * l.delta)

abbrev pub decreases-loop-d : goal.decreases-loop-d
decreases-loop-d l = l.d
