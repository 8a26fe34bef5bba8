-- A list by its parts: cut at an entry of which a test holds, taken by its two ends, or entry by entry.
-- Assumes nothing.
use mathlib.Core.Path.{◌≡◌, refl, ap, ◌∙◌}
use mathlib.Core.Bool.{Bool, true, false, ◌&&◌, ◌||◌, false≢true, or-false, and-true}
use mathlib.Core.List.{List, [], ◌∷◌, ◌++◌}
use Prim.Native.Nat.{◌+◌}
use native.Mathlib.Omega.{arith}
use lib.ListN.{length, length-append}
use Rattle.lists.specs.Tests.{all_of, any_of}
use Rattle.lists.proofs.Laws.{all_append, any_append}

-- a list cut at an entry of which f holds
pub data Cut {A : Type 0} (f : A → Bool) : List A → Type 0 where
  cut : (m : List A) (c : A) (n : List A) → f c ≡ true → Cut f (m ++ c ∷ n)

further : {A : Type 0} {f : A → Bool} (x : A) {l : List A} → Cut f l → Cut f (x ∷ l)
further x (cut m c n p) = cut (x ∷ m) c n p

pub cut_at : {A : Type 0} (f : A → Bool) (l : List A) → any_of f l ≡ true → Cut f l
unfolding any_of
cut_at f [] e = absurd (false≢true e)
cut_at f (x ∷ xs) e = go (f x) refl e (cut_at f xs)
  where
    go : (b : Bool) → f x ≡ b → b || any_of f xs ≡ true → (any_of f xs ≡ true → Cut f xs) → Cut f (x ∷ xs)
    go true p e r = cut [] x xs p
    go false p e r = further x (r e)

-- a list by its two ends
pub data Ends {A : Type 0} : List A → Type 0 where
  empty : Ends []
  single : (a : A) → Ends (a ∷ [])
  pair : (a : A) (m : List A) (z : A) → Ends (a ∷ (m ++ (z ∷ [])))

longer : {A : Type 0} (x : A) {l : List A} → Ends l → Ends (x ∷ l)
longer x empty = single x
longer x (single a) = pair x [] a
longer x (pair a m z) = pair x (a ∷ m) z

pub ends : {A : Type 0} (l : List A) → Ends l
ends [] = empty
ends (x ∷ xs) = longer x (ends xs)

-- R of every entry
pub data Every {A : Type 0} (R : A → Type 0) : List A → Type 0 where
  none : Every R []
  also : {x : A} {xs : List A} → R x → Every R xs → Every R (x ∷ xs)

module _ {A : Type 0} (a : A) (m : List A) (z : A) where
  pub all_ends : (f : A → Bool) → all_of f (a ∷ (m ++ (z ∷ []))) ≡ f a && (all_of f m && f z)
  unfolding all_of
  all_ends f = ap (λ (b : Bool). f a && b) (all_append f m (z ∷ []) ∙ ap (λ (b : Bool). all_of f m && b) (and-true (f z)))

  pub any_ends : (f : A → Bool) → any_of f (a ∷ (m ++ (z ∷ []))) ≡ f a || (any_of f m || f z)
  unfolding any_of
  any_ends f = ap (λ (b : Bool). f a || b) (any_append f m (z ∷ []) ∙ ap (λ (b : Bool). any_of f m || b) (or-false (f z)))

  pub length_ends : length (a ∷ (m ++ (z ∷ []))) ≡ length m + 2
  length_ends = omega (arith, length-append m (z ∷ []))
