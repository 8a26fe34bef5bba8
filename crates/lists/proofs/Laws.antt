-- What a test that comes out true, or false, says: on Bools, on ranges, on lists.
-- Assumes nothing.
use mathlib.Core.Path.{◌≡◌, refl, sym, ap, ◌∙◌}
use mathlib.Core.Bool.{Bool, true, false, not, ◌&&◌, ◌||◌, or_assoc, true≢false, false≢true}
use mathlib.Core.List.{List, [], ◌∷◌, ◌++◌}
use mathlib.Core.Logic.{◌⊎◌, inl, inr, ⊎_elim}
use Prim.Native.Nat.{ℕ, zero, suc, ◌≤◌, ◌<◌}
use native.Mathlib.Omega.{arith}
use lib.Dec.{eqb, leb}
use lib.ListN.{length, get_or}
use borrow.Author.Tests.{le-leb, leb-true, eqb-true, eq-eqb, ne_eqb, not-true}
use Rattle.lists.specs.Tests.{pick, within, all_of, any_of, index_of, elem, same}

-- ---- conjunction and disjunction

pub both : (a b : Bool) → a && b ≡ true → (a ≡ true) × (b ≡ true)
both true b e = (refl, e)
both false b e = absurd (false≢true e)

pub neither : (a b : Bool) → a || b ≡ false → (a ≡ false) × (b ≡ false)
neither true b e = absurd (true≢false e)
neither false b e = (refl, e)

pub or_left : (a b : Bool) → a ≡ true → a || b ≡ true
or_left a b e = rw e

pub or_right : (a b : Bool) → b ≡ true → a || b ≡ true
or_right true b e = refl
or_right false b e = e

pub or_swap : (a b c : Bool) → a || (b || c) ≡ b || (a || c)
or_swap true true c = refl
or_swap true false c = refl
or_swap false b c = refl

-- one of two tests
pub either : {A : Type 0} (a b : Bool) → a || b ≡ true → (a ≡ true → A) → (b ≡ true → A) → A
either true b e f g = f refl
either false b e f g = g e

-- by the two answers of a test
pub by_test : (P : Bool → Type 0) (x : Bool) → (x ≡ true → P true) → (x ≡ false → P false) → P x
by_test P true f g = f refl
by_test P false f g = g refl

-- what cannot be true is false
pub refuted : (b : Bool) → (b ≡ true → ⊥) → b ≡ false
refuted true f = absurd (f refl)
refuted false f = refl

pub clash : {A : Type 0} {b : Bool} → b ≡ true → b ≡ false → A
clash p q = absurd (true≢false (sym p ∙ q))

pub lt_or_le : (a b : ℕ) → (a < b) ⊎ (b ≤ a)
lt_or_le a zero = inr (omega arith)
lt_or_le zero (suc b) = inl (omega arith)
lt_or_le (suc a) (suc b) = ⊎_elim (λ h. inl (omega arith)) (λ h. inr (omega arith)) (lt_or_le a b)

-- ---- a range

pub inside : (a b c : ℕ) → a ≤ c → c ≤ b → within a b c ≡ true
unfolding within
inside a b c p q = simp (le-leb a c p, le-leb c b q)

pub outside : (a b c : ℕ) → (a ≤ c → c ≤ b → ⊥) → within a b c ≡ false
unfolding within
outside a b c f = go (leb a c) refl (leb c b) refl
  where
    go : (x : Bool) → leb a c ≡ x → (y : Bool) → leb c b ≡ y → leb a c && leb c b ≡ false
    go true p true q = absurd (f (leb-true a c p) (leb-true c b q))
    go true p false q = simp (p, q)
    go false p y q = simp p

pub in_range : (a b c : ℕ) → within a b c ≡ true → (a ≤ c) × (c ≤ b)
unfolding within
in_range a b c e = let p = both (leb a c) (leb c b) e in (leb-true a c p.0, leb-true c b p.1)

-- ---- lists

module _ {A : Type 0} (f : A → Bool) where
  pub all_append : (xs ys : List A) → all_of f (xs ++ ys) ≡ all_of f xs && all_of f ys
  unfolding all_of
  all_append [] ys = refl
  all_append (x ∷ xs) ys = go (f x) (all_append xs ys)
    where
      go : (b : Bool) → all_of f (xs ++ ys) ≡ all_of f xs && all_of f ys → b && all_of f (xs ++ ys) ≡ b && all_of f xs && all_of f ys
      go true e = e
      go false e = refl

  pub any_append : (xs ys : List A) → any_of f (xs ++ ys) ≡ any_of f xs || any_of f ys
  unfolding any_of
  any_append [] ys = refl
  any_append (x ∷ xs) ys = go (f x) (any_append xs ys)
    where
      go : (b : Bool) → any_of f (xs ++ ys) ≡ any_of f xs || any_of f ys → b || any_of f (xs ++ ys) ≡ b || any_of f xs || any_of f ys
      go true e = refl
      go false e = e

-- one of two tests holds of some entry
pub any_or : {A : Type 0} (f g : A → Bool) (l : List A) → any_of (λ c. f c || g c) l ≡ any_of f l || any_of g l
unfolding any_of
any_or f g [] = refl
any_or f g (x ∷ xs) =
    ap (λ (t : Bool). (f x || g x) || t) (any_or f g xs)
    ∙ or_assoc (f x) (g x) (any_of f xs || any_of g xs)
    ∙ ap (λ (t : Bool). f x || t) (or_swap (g x) (any_of f xs) (any_of g xs))
    ∙ sym (or_assoc (f x) (any_of f xs) (g x || any_of g xs))

-- what holds of every entry, and of d, holds of the one at any index
pub entry_of : {A : Type 0} (f : A → Bool) (d : A) → f d ≡ true → (l : List A) (k : ℕ) → all_of f l ≡ true → f (get_or l k d) ≡ true
unfolding all_of
entry_of f d e [] k a = e
entry_of f d e (x ∷ xs) zero a = (both (f x) (all_of f xs) a).0
entry_of f d e (x ∷ xs) (suc k) a = entry_of f d e xs k (both (f x) (all_of f xs) a).1

-- .. of the first
pub first_of : {A : Type 0} (f : A → Bool) (d : A) → f d ≡ true → (l : List A) → all_of f l ≡ true → f (get_or l 0 d) ≡ true
first_of f d e l = entry_of f d e l 0

-- where f holds of all, so does what f implies
pub all_weaker : {A : Type 0} (f g : A → Bool) (imp : (c : A) → f c ≡ true → g c ≡ true) (l : List A) → all_of f l ≡ true → all_of g l ≡ true
unfolding all_of
all_weaker f g imp [] e = refl
all_weaker f g imp (x ∷ xs) e =
    let p = both (f x) (all_of f xs) e in
    rw (imp x p.0) (all_weaker f g imp xs p.1)

-- where f holds of all and never beside g, g holds of none
pub all_none : {A : Type 0} (f g : A → Bool) (imp : (c : A) → f c ≡ true → g c ≡ false) (l : List A) → all_of f l ≡ true → any_of g l ≡ false
unfolding all_of any_of
all_none f g imp [] e = refl
all_none f g imp (x ∷ xs) e =
    let p = both (f x) (all_of f xs) e in
    rw (imp x p.0) (all_none f g imp xs p.1)

-- what fails of all holds of none
pub all_not : {A : Type 0} (g : A → Bool) (l : List A) → all_of (λ c. not (g c)) l ≡ true → any_of g l ≡ false
all_not g = all_none (λ c. not (g c)) g (λ c. not-true (g c))

-- what a test holds of is nothing that it fails of; so where it holds of all, that is not among them
module _ (f : ℕ → Bool) (b : ℕ) (n : f b ≡ false) where
  pub differs : (c : ℕ) → f c ≡ true → eqb c b ≡ false
  differs c h = ne_eqb c b (λ e. clash h (ap f e ∙ n))

  pub absent : (l : List ℕ) → all_of f l ≡ true → any_of (λ (c : ℕ). eqb c b) l ≡ false
  absent = all_none f (λ (c : ℕ). eqb c b) differs

-- where f holds of all, g of none, and what f holds of is g's or h's, h holds of all
pub all_but : {A : Type 0} (f g h : A → Bool) (imp : (c : A) → f c ≡ true → g c ≡ false → h c ≡ true) (l : List A)
    → all_of f l ≡ true → any_of g l ≡ false → all_of h l ≡ true
unfolding all_of any_of
all_but f g h imp [] e n = refl
all_but f g h imp (x ∷ xs) e n =
    let p = both (f x) (all_of f xs) e in
    let q = neither (g x) (any_of g xs) n in
    rw (imp x p.0 q.0) (all_but f g h imp xs p.1 q.1)

-- where f holds of one, so does what f implies, and there is one
module _ {A : Type 0} (f : A → Bool) where
  pub any_weaker : (g : A → Bool) (imp : (c : A) → f c ≡ true → g c ≡ true) (l : List A) → any_of f l ≡ true → any_of g l ≡ true
  unfolding any_of
  any_weaker g imp [] e = e
  any_weaker g imp (x ∷ xs) e = go (f x) refl e (any_weaker g imp xs)
    where
      go : (b : Bool) → f x ≡ b → b || any_of f xs ≡ true → (any_of f xs ≡ true → any_of g xs ≡ true) → g x || any_of g xs ≡ true
      go true p q on = or_left (g x) _ (imp x p)
      go false p q on = or_right (g x) _ (on q)

  pub any_some : (l : List A) → any_of f l ≡ true → 1 ≤ length l
  unfolding any_of
  any_some [] e = absurd (false≢true e)
  any_some (x ∷ xs) e = omega arith

-- the first entry of which f holds stands in the list, or just past its end
pub index_bound : {A : Type 0} (f : A → Bool) (l : List A) → index_of f l ≤ length l
unfolding index_of
index_bound f [] = omega arith
index_bound f (x ∷ xs) = go (f x) (index_bound f xs)
  where
    go : (b : Bool) → index_of f xs ≤ length xs → pick b 0 (suc (index_of f xs)) ≤ suc (length xs)
    go true h = omega arith
    go false h = omega arith

-- what holds of every entry of a table holds of c, where a test that only c passes holds of one of them
module _ {A : Type 0} (c : A) (is : A → Bool) (only : (x : A) → is x ≡ true → c ≡ x) (f : A → Bool) where
  in_listed : (l : List A) → all_of f l ≡ true → any_of is l ≡ true → f c ≡ true
  unfolding all_of any_of
  in_listed [] w e = absurd (false≢true e)
  in_listed (x ∷ xs) w e = go (is x) refl e (in_listed xs (both (f x) (all_of f xs) w).1)
    where
      go : (b : Bool) → is x ≡ b → b || any_of is xs ≡ true → (any_of is xs ≡ true → f c ≡ true) → f c ≡ true
      go true p h on = rw (only x p) (both (f x) (all_of f xs) w).0
      go false p h on = on h

pub in_table : (f : ℕ → Bool) (c : ℕ) (l : List ℕ) → all_of f l ≡ true → elem c l ≡ true → f c ≡ true
unfolding elem
in_table f c l w e = in_listed c (eqb c) (eqb-true c) f l w e

-- ---- the same list

pub same_refl : (xs : List ℕ) → same xs xs ≡ true
unfolding same
same_refl [] = refl
same_refl (x ∷ xs) = rw (eq-eqb x x refl) (same_refl xs)

pub same_is : (xs ys : List ℕ) → same xs ys ≡ true → xs ≡ ys
unfolding same
same_is [] [] e = refl
same_is [] (y ∷ ys) e = absurd (false≢true e)
same_is (x ∷ xs) [] e = absurd (false≢true e)
same_is (x ∷ xs) (y ∷ ys) e = let p = both (eqb x y) (same xs ys) e in rw (eqb-true x y p.0, same_is xs ys p.1)

-- what holds of every list of a table holds of each that is in it
pub in_lists : (f : List ℕ → Bool) (l : List ℕ) (table : List (List ℕ)) → all_of f table ≡ true → any_of (same l) table ≡ true → f l ≡ true
in_lists f l table w e = in_listed l (same l) (same_is l) f table w e

pub no_entries : {A : Type 0} (l : List A) → length l ≡ 0 → l ≡ []
no_entries [] e = refl
no_entries (x ∷ xs) e = absurd (omega arith)
