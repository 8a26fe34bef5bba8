-- What is written to the start of a buffer: read back, and made by a copy.
-- Assumes nothing.
use mathlib.Core.Path.{◌≡◌, refl, sym, ◌∙◌}
use mathlib.Core.List.{List, [], ◌++◌}
use mathlib.Core.Logic.{⊎_elim}
use Prim.Native.Nat.{ℕ, suc, ◌+◌, ◌<◌, min}
use native.Mathlib.Numerals.{add-one}
use native.Mathlib.Omega.{arith}
use lib.ListN.{length, take, drop, get_or, set}
use lib.Seq.{take_at, drop_at, take_all, take-suc, drop-cons, set_at, append_snoc, length-take-le}
use Rattle.lists.specs.Front.{written}
use Rattle.lists.proofs.Laws.{lt_or_le}

-- nothing written
pub untouched : (before : List ℕ) → written [] before ≡ before
unfolding written
untouched before = refl

module _ (xs before : List ℕ) where
  pub front : take (length xs) (written xs before) ≡ xs
  unfolding written
  front = take_at xs (drop (length xs) before) (length xs) refl

  pub rest : drop (length xs) (written xs before) ≡ drop (length xs) before
  unfolding written
  rest = drop_at xs (drop (length xs) before) (length xs) refl

-- ---- a copy

-- one entry more
pub copies_next : (to₀ to from : List ℕ) (i : ℕ) → i < length to₀ → i < length from → to ≡ take i from ++ drop i to₀
    → set to i (get_or from i 0) ≡ take (i + 1) from ++ drop (i + 1) to₀
copies_next to₀ to from i h g e =
    let n : length (take i from) ≡ i = length-take-le i from (omega arith) in
    rw (e, add-one i, drop-cons to₀ i 0 h, take-suc from i 0 g) (set_at (take i from) (get_or to₀ i 0) (drop (suc i) to₀) (get_or from i 0) i n ∙ sym (append_snoc (take i from) _ _))

-- what a copy leaves: as much of `from` as has room, and past it what was there
pub copied : (to from : List ℕ) (n : ℕ) → n ≡ min (length from) (length to) → take n from ++ drop n to ≡ written (take (length to) from) to
unfolding written
copied to from n h =
    ⊎_elim
    (λ l.
    let k : n ≡ length from = omega arith in
    rw (k, take_all (length to) from (omega arith), take_all (length from) from (omega arith)))
    (λ l.
    let k : n ≡ length to = omega arith in
    rw (k, length-take-le (length to) from l))
    (lt_or_le (length from) (length to))
