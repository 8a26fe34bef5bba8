-- The library's test whether a slice starts with another is `begins`.
-- Assumes nothing.
use mathlib.Core.Path.{◌≡◌}
use mathlib.Core.List.{List}
use Prim.Native.Nat.{ℕ}
use lib.Dec.{eqb}
use lib.ListN.{length, take}
use Rattle.std.specs.List.{starts_with}
use Rattle.lists.proofs.Chains.{same_is}
use Rattle.rules.specs.Hopeful.{begins}

pub begins_is : (w l : List ℕ) → starts_with eqb w l ≡ begins l w
unfolding begins
begins_is w l = same_is l (take (length l) w)
