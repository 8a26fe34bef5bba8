-- What `contains` of an inclusive range answers, in the words of specs/Tests.
-- Assumes nothing.
use mathlib.Core.Path.{◌≡◌}
use mathlib.Core.Bool.{false}
use Prim.Native.Nat.{ℕ}
use native.Mathlib.Omega.{arith}
use lib.Dec.{leb}
use borrow.Author.Tests.{le-leb, lt-leb}
use mathlib.Core.Logic.{⊎_elim}
use Rattle.std.proofs.Common.{Option, Some, Ordering, Less, Equal, Greater}
use Rattle.std.specs.Cmp.{nat_cmp_is}
use Rattle.std.specs.declared.ops.RangeInclusive.{RangeInclusive}
use Rattle.std.specs.Ordering.{nat_cmp, is_le}
use Rattle.std.specs.Range.{range_inclusive_contains, range_inclusive_start, range_inclusive_end, range_inclusive_exhausted}
use Rattle.lists.specs.Tests.{within}
use Rattle.lists.proofs.Laws.{lt_or_le}

le_is : (a b : ℕ) → is_le (nat_cmp a b) ≡ leb a b
le_is a b =
    ⊎_elim (λ h. rw (← nat_cmp_is a b Less h, le-leb a b (omega arith)))
    (λ h. ⊎_elim (λ g. rw (← nat_cmp_is a b Greater g, lt-leb a b g)) (λ g. rw (← nat_cmp_is a b Equal (omega arith), le-leb a b g)) (lt_or_le b a)) (lt_or_le a b)

pub range_is : {p : ℕ → ℕ → Option Ordering} → ((a b : ℕ) → p a b ≡ Some (nat_cmp a b)) → {s : RangeInclusive ℕ} {lo hi : ℕ} (x : ℕ) → range_inclusive_start s ≡ lo → range_inclusive_end s ≡ hi
    → range_inclusive_exhausted s ≡ false → range_inclusive_contains p s x ≡ within lo hi x
unfolding within
range_is {p} q {s} {lo} {hi} x l h e = rw (e, l, h, q lo x, q x hi, le_is lo x, le_is x hi)
