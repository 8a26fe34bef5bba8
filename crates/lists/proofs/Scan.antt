-- A scan from the left, for any test f: what each turn and the end of the loop show, and what is known of the place where f first holds.
-- Assumes nothing.
use mathlib.Core.Path.{◌≡◌, refl, sym, ap, ◌∙◌}
use mathlib.Core.Bool.{Bool, true, false, ◌&&◌, ◌||◌}
use mathlib.Core.List.{List, [], ◌∷◌, ◌++◌}
use mathlib.Core.Logic.{⊎_elim}
use Prim.Native.Nat.{ℕ, suc, ◌+◌, ◌≤◌, ◌<◌}
use native.Mathlib.Numerals.{add-one}
use native.Mathlib.Omega.{arith}
use lib.Dec.{ltb}
use lib.ListN.{length, take, drop, get_or, drop_of_length-le}
use lib.Seq.{drop-cons, split_at}
use borrow.Author.Tests.{lt-ltb, le-ltb, ltb-true}
use Rattle.lists.specs.Tests.{pick, all_of, any_of, index_of}
use Rattle.lists.proofs.Laws.{neither, lt_or_le}

module _ (f : ℕ → Bool) (t : List ℕ) (i : ℕ) where
  module _ (h : i < length t) where
    all_peel : all_of f (drop i t) ≡ f (get_or t i 0) && all_of f (drop (i + 1) t)
    unfolding all_of
    all_peel = rw (add-one, drop-cons t i 0)

    pub all_here : {b : Bool} → all_of f t ≡ all_of f (drop i t) → b ≡ f (get_or t i 0) → b ≡ false → false ≡ all_of f t
    all_here e p q = sym (e ∙ all_peel ∙ simp (sym p ∙ q))

    pub all_on : {b : Bool} → all_of f t ≡ all_of f (drop i t) → b ≡ f (get_or t i 0) → b ≡ true → all_of f t ≡ all_of f (drop (i + 1) t)
    all_on e p q = e ∙ all_peel ∙ simp (sym p ∙ q)

    first_peel : index_of f (drop i t) ≡ pick (f (get_or t i 0)) 0 (suc (index_of f (drop (i + 1) t)))
    unfolding index_of
    first_peel = rw (add-one, drop-cons t i 0)

    pub first_on : {b : Bool} (n : ℕ) → n ≡ i + index_of f (drop i t) → b ≡ f (get_or t i 0) → b ≡ false → n ≡ i + 1 + index_of f (drop (i + 1) t)
    first_on n e p q = omega (arith, simp (sym p ∙ q) at first_peel)

  pub all_end : length t ≤ i → all_of f t ≡ all_of f (drop i t) → true ≡ all_of f t
  unfolding all_of
  all_end h e = sym (e ∙ rw (drop_of_length-le t h))

  pub first_end : (n : ℕ) → length t ≤ i → n ≡ i + index_of f (drop i t) → i ≡ n
  unfolding index_of
  first_end n h e = omega (arith, ap (index_of f) (drop_of_length-le t h))

-- ---- the first entry of which the test holds

below_suc : (a b : ℕ) → ltb a b ≡ ltb (suc a) (suc b)
below_suc a b =
    ⊎_elim (λ h. lt-ltb a b h ∙ sym (lt-ltb (suc a) (suc b) (omega arith))) (λ h. le-ltb a b h ∙ sym (le-ltb (suc a) (suc b) (omega arith)))
    (lt_or_le a b)

module _ {A : Type 0} (f : A → Bool) where
  pub any_first : (xs : List A) → any_of f xs ≡ ltb (index_of f xs) (length xs)
  unfolding any_of index_of
  any_first [] = refl
  any_first (x ∷ xs) = go (f x) (any_first xs)
    where
      go : (b : Bool) → any_of f xs ≡ ltb (index_of f xs) (length xs) → b || any_of f xs ≡ ltb (pick b 0 (suc (index_of f xs))) (suc (length xs))
      go true e = sym (lt-ltb 0 (suc (length xs)) (omega arith))
      go false e = e ∙ below_suc (index_of f xs) (length xs)

  pub found : (xs : List A) → index_of f xs < length xs → any_of f xs ≡ true
  found xs h = any_first xs ∙ lt-ltb (index_of f xs) (length xs) h

  pub not_found : (xs : List A) → length xs ≤ index_of f xs → any_of f xs ≡ false
  not_found xs h = any_first xs ∙ le-ltb (index_of f xs) (length xs) h

  pub found_inside : (xs : List A) → any_of f xs ≡ true → index_of f xs < length xs
  found_inside xs e = ltb-true (index_of f xs) (length xs) (sym (any_first xs) ∙ e)

  pub none_before : (xs : List A) → any_of f (take (index_of f xs) xs) ≡ false
  unfolding any_of index_of
  none_before [] = refl
  none_before (x ∷ xs) = go (f x) refl (none_before xs)
    where
      go : (b : Bool) → f x ≡ b → any_of f (take (index_of f xs) xs) ≡ false → any_of f (take (pick b 0 (suc (index_of f xs))) (x ∷ xs)) ≡ false
      go true e h = refl
      go false e h = rw e h

module _ (f : ℕ → Bool) where
  pub holds_there : (xs : List ℕ) → index_of f xs < length xs → f (get_or xs (index_of f xs) 0) ≡ true
  unfolding index_of
  holds_there [] h = absurd (omega arith)
  holds_there (x ∷ xs) h = go (f x) refl h (holds_there xs)
    where
      go : (b : Bool) → f x ≡ b → pick b 0 (suc (index_of f xs)) < suc (length xs) → (index_of f xs < length xs → f (get_or xs (index_of f xs) 0) ≡ true)
          → f (get_or (x ∷ xs) (pick b 0 (suc (index_of f xs))) 0) ≡ true
      go true e k on = e
      go false e k on = on (omega arith)

  -- a test that holds of c alone cuts a list at the first c
  pub cut_first : (c : ℕ) → ((b : ℕ) → f b ≡ true → b ≡ c) → (xs : List ℕ) → index_of f xs < length xs → xs ≡ take (index_of f xs) xs ++ c ∷ drop (suc (index_of f xs)) xs
  cut_first c only xs h =
      let u : ℕ = index_of f xs in
      split_at xs u 0 h ∙ ap (λ (b : ℕ). take u xs ++ b ∷ drop (suc u) xs) (only _ (holds_there xs h))

  pub first_past : (xs : List ℕ) (c : ℕ) (ys : List ℕ) → any_of f xs ≡ false → f c ≡ true → index_of f (xs ++ c ∷ ys) ≡ length xs
  unfolding any_of index_of
  first_past [] c ys e h = rw h
  first_past (x ∷ xs) c ys e h = let p = neither (f x) (any_of f xs) e in rw p.0 (ap suc (first_past xs c ys p.1 h))
