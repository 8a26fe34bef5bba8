-- What is shown of a text: nothing of an empty one and of one past 256, else its normal form; and in an array of zeros it stands before zeros.
-- Assumes nothing.
use mathlib.Core.Path.{◌≡◌, refl, ap}
use mathlib.Core.List.{List, [], ◌∷◌, ◌++◌}
use mathlib.Core.Logic.{⊎_elim}
use Prim.Native.Nat.{ℕ, zero, suc, ◌-◌, ◌≤◌, ◌<◌}
use native.Mathlib.Omega.{arith}
use lib.ListN.{length, take, drop, replicate}
use borrow.Author.Tests.{lt-ltb, le-ltb}
use Rattle.lists.specs.Front.{written}
use Rattle.lists.proofs.Fronts.{front}
use Rattle.lists.proofs.Laws.{lt_or_le}
use Rattle.normal.specs.Normal.{normal_form}
use Rattle.normal.proofs.Laws.{no_longer}
use Rattle.fronts.specs.Fronts.{shown, padded}

-- ---- an array of zeros

drop_zeros : (n m : ℕ) → drop {A = ℕ} n (replicate m 0) ≡ replicate (m - n) 0
drop_zeros zero m = let e : m - 0 ≡ m = omega arith in rw e
drop_zeros (suc n) zero = let e : 0 - suc n ≡ 0 = omega arith in rw e
drop_zeros (suc n) (suc m) = let e : suc m - suc n ≡ m - n = omega arith in rw e (drop_zeros n m)

pub padded_is : (xs : List ℕ) → written xs (replicate 256 0) ≡ padded xs
unfolding written padded
padded_is xs = ap (λ (l : List ℕ). xs ++ l) (drop_zeros (length xs) 256)

-- what a buffer holds at its start
pub at_start : (xs before : List ℕ) → take (length xs - 0) (drop 0 (written xs before)) ≡ xs
at_start xs before = let e : length xs - 0 ≡ length xs = omega arith in rw e (front xs before)

-- ---- what is shown

pub shown_none : (text : List ℕ) → length text ≡ 0 → shown text ≡ []
unfolding shown
shown_none text e = rw (le-ltb 256 (length text) (omega arith)) (nil (normal_form text) (omega (arith, no_longer text)))
  where
    nil : (l : List ℕ) → length l ≤ 0 → l ≡ []
    nil [] h = refl
    nil (x ∷ xs) h = absurd (omega arith)

pub shown_over : (text : List ℕ) → 256 < length text → shown text ≡ []
unfolding shown
shown_over text h = rw (lt-ltb 256 (length text) h)

pub shown_full : (text : List ℕ) → length text ≤ 256 → shown text ≡ normal_form text
unfolding shown
shown_full text h = rw (le-ltb 256 (length text) h)

pub shown_fits : (text : List ℕ) → length (shown text) ≤ 256
shown_fits text =
    ⊎_elim (λ h. omega (arith, ap length (shown_over text h))) (λ h. omega (arith, ap length (shown_full text h), no_longer text)) (lt_or_le 256 (length text))
