-- In a table that rises, of any two entries the later is the greater: the test of each with the next is carried on.
-- Assumes nothing.
use mathlib.Core.Path.{◌≡◌}
use mathlib.Core.Bool.{true}
use mathlib.Core.List.{List, [], ◌∷◌}
use Prim.Native.Nat.{ℕ, zero, suc, ◌<◌}
use native.Mathlib.Nat.{le_of_suc-le-suc, not-suc-le-zero, lt_trans}
use lib.Dec.{ltb}
use lib.ListN.{length, get_or}
use borrow.Author.Tests.{ltb-true}
use Rattle.lists.specs.Tests.{above, rising}
use Rattle.lists.proofs.Laws.{both}

-- every entry is above p
all_above : (p : ℕ) (xs : List ℕ) → above p xs ≡ true → (k : ℕ) → k < length xs → p < get_or xs k 0
unfolding above
all_above p [] t k h = absurd (not-suc-le-zero h)
all_above p (x ∷ xs) t zero h = ltb-true p x (both (ltb p x) (above x xs) t).0
all_above p (x ∷ xs) t (suc k) h =
    let b = both (ltb p x) (above x xs) t in
    lt_trans (ltb-true p x b.0) (all_above x xs b.1 k (le_of_suc-le-suc h))

above_rises : (p : ℕ) (xs : List ℕ) → above p xs ≡ true → (i j : ℕ) → i < j → j < length xs → get_or xs i 0 < get_or xs j 0
unfolding above
above_rises p [] t i j h l = absurd (not-suc-le-zero l)
above_rises p (x ∷ xs) t i zero h l = absurd (not-suc-le-zero h)
above_rises p (x ∷ xs) t zero (suc j) h l = all_above x xs (both (ltb p x) (above x xs) t).1 j (le_of_suc-le-suc l)
above_rises p (x ∷ xs) t (suc i) (suc j) h l =
    above_rises x xs (both (ltb p x) (above x xs) t).1 i j (le_of_suc-le-suc h) (le_of_suc-le-suc l)

-- the computed test, carried to every two entries
pub rises : (xs : List ℕ) → rising xs ≡ true → (i j : ℕ) → i < j → j < length xs → get_or xs i 0 < get_or xs j 0
unfolding rising
rises [] t i j h l = absurd (not-suc-le-zero l)
rises (x ∷ xs) t i zero h l = absurd (not-suc-le-zero h)
rises (x ∷ xs) t zero (suc j) h l = all_above x xs t j (le_of_suc-le-suc l)
rises (x ∷ xs) t (suc i) (suc j) h l = above_rises x xs t i j (le_of_suc-le-suc h) (le_of_suc-le-suc l)
