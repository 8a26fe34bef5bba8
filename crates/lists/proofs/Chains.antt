-- What the library's searches and comparisons of slices answer, in the words of specs/Tests: each is the library's function over the same two
-- clauses.
-- Assumes nothing.
use mathlib.Core.Path.{◌≡◌, refl, sym}
use mathlib.Core.Bool.{Bool, true, false, ◌&&◌, cond}
use mathlib.Core.List.{List, [], ◌∷◌}
use Prim.Native.Nat.{ℕ, suc, ◌+◌}
use native.Mathlib.Omega.{arith}
use lib.Dec.{eqb}
use borrow.Author.Tests.{eqb-true, eq-eqb}
use lib.Pointwise.{pointwise}
use Rattle.std.specs.Prelude.{Some, None}
use lib.ListN.{length}
use Rattle.std.specs.List.{zip, list_any, list_all, position_or_len, position}
use Rattle.std.proofs.lemmas.List.Recursion.{is_position_or_len}
use Rattle.lists.specs.Tests.{pick, all_of, any_of, index_of, elem, same}
use Rattle.lists.proofs.Scan.{any_first}
use Rattle.lists.proofs.Laws.{by_test, refuted, clash}

module _ {A : Type 0} (f : A → Bool) where
  pub any_is : (xs : List A) → list_any f xs ≡ any_of f xs
  unfolding any_of
  any_is [] = refl
  any_is (x ∷ xs) = rw (any_is xs)

  pub all_is : (xs : List A) → list_all f xs ≡ all_of f xs
  unfolding all_of
  all_is [] = refl
  all_is (x ∷ xs) = rw (all_is xs)

  picks : (b : Bool) (n : ℕ) → pick b 0 (suc n) ≡ cond b 0 (1 + n)
  picks true n = refl
  picks false n = omega arith

  pub position_is : (xs : List A) → position_or_len f xs ≡ index_of f xs
  unfolding index_of
  position_is xs = sym (is_position_or_len (index_of f) f refl (λ x ys. picks (f x) (index_of f ys)) xs)

pub same_is : (xs ys : List ℕ) → pointwise eqb xs ys ≡ same xs ys
unfolding same
same_is [] [] = refl
same_is [] (y ∷ ys) = refl
same_is (x ∷ xs) [] = refl
same_is (x ∷ xs) (y ∷ ys) = rw (same_is xs ys)

-- two of one length are the same where each pair of entries is, and of two lengths none are
pub zipped_is : (xs ys : List ℕ) → length xs ≡ length ys → list_all (λ p. eqb p.0 p.1) (zip xs ys) ≡ same xs ys
unfolding same
zipped_is [] [] e = refl
zipped_is [] (y ∷ ys) e = absurd (omega (arith, e))
zipped_is (x ∷ xs) [] e = absurd (omega (arith, e))
zipped_is (x ∷ xs) (y ∷ ys) e = rw (zipped_is xs ys (omega (arith, e)))

pub unlike : (a b : List ℕ) → (length a ≡ length b → ⊥) → false ≡ same a b
unfolding same
unlike [] [] h = absurd (h refl)
unlike [] (y ∷ ys) h = refl
unlike (x ∷ xs) [] h = refl
unlike (x ∷ xs) (y ∷ ys) h = go (eqb x y) (unlike xs ys (λ e. h (omega arith)))
  where
    go : (t : Bool) → false ≡ same xs ys → false ≡ t && same xs ys
    go true e = e
    go false e = refl

-- the library's `contains` asks each entry whether it is c, and `elem` c whether it is the entry
eqb_swap : (a b : ℕ) → eqb a b ≡ eqb b a
eqb_swap a b =
    by_test (λ t. t ≡ eqb b a) (eqb a b) (λ p. sym (eq-eqb b a (sym (eqb-true a b p)))) (λ p. sym (refuted (eqb b a) (λ q. clash (eq-eqb a b (sym (eqb-true b a q))) p)))

pub contains_is : (c : ℕ) (xs : List ℕ) → list_any (λ y. eqb y c) xs ≡ elem c xs
unfolding any_of elem
contains_is c [] = refl
contains_is c (x ∷ xs) = rw (contains_is c xs, eqb_swap x c)

-- what the library's `position` answers
pub position_at : {A : Type 0} (f : A → Bool) (xs : List A) → position f xs ≡ pick (any_of f xs) (Some (index_of f xs)) None
position_at f xs =
    rw (position_is f xs, sym (any_first f xs)) (picked (any_of f xs))
  where
    picked : (b : Bool) → cond b (Some (index_of f xs)) None ≡ pick b (Some (index_of f xs)) None
    picked true = refl
    picked false = refl
