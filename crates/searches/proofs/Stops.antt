-- The index of a stop in a text, or none where the walk comes to the end.
-- Assumes nothing.
use mathlib.Core.Path.{◌≡◌}
use mathlib.Core.List.{List}
use Prim.Native.Nat.{ℕ, ◌-◌, ◌≤◌, ◌<◌}
use native.Mathlib.Omega.{arith}
use lib.Dec.{ltb}
use lib.ListN.{length, take, drop, length-drop}
use lib.Seq.{take_all}
use borrow.Author.Tests.{lt-ltb, le-ltb, ltb-true, ltb-false}
use Rattle.std.proofs.Common.{Some, None}
use Rattle.lists.specs.Tests.{pick}
use Rattle.lists.proofs.Laws.{by_test}
use Rattle.searches.specs.Steps.{inside}

module _ (n s : ℕ) where
  pub before_end : s < n → Some s ≡ inside n s
  before_end h = rw (lt-ltb s n h)

  pub at_end : n ≤ s → None ≡ inside n s
  at_end h = rw (le-ltb s n h)

  pub stopped_at : {a : ℕ} → Some a ≡ inside n s → (a ≡ s) × (a < n)
  stopped_at {a} =
      by_test (λ b. Some a ≡ pick b (Some s) None → (a ≡ s) × (a < n)) (ltb s n)
      (λ p q. let e : a ≡ s = cc in (e, omega (arith, ltb-true s n p, e))) (λ p q. cc)

  pub came_to_end : None ≡ inside n s → n ≤ s
  came_to_end = by_test (λ b. None ≡ pick b (Some s) None → n ≤ s) (ltb s n) (λ p q. cc) (λ p q. ltb-false s n p)

-- what is left of a text from an index on
pub left : (t : List ℕ) (i : ℕ) → take (length t - i) (drop i t) ≡ drop i t
left t i = take_all (length t - i) (drop i t) (omega (arith, length-drop i t))
