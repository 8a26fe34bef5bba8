-- Where a code point lies: a region that no range enters part of the way has one class, that of its first number, by
-- computation; and what holds of each range, and of all else, holds of the range that a code point has.
-- Assumes nothing.
use mathlib.Core.Path.{◌≡◌, refl, sym, ◌∙◌}
use mathlib.Core.Bool.{Bool, true, false, ◌&&◌, ◌||◌}
use mathlib.Core.List.{List, [], ◌∷◌}
use Prim.Native.Nat.{ℕ, ◌≤◌}
use native.Mathlib.Omega.{arith}
use lib.Dec.{leb, ltb}
use borrow.Author.Tests.{leb-true, ltb-true}
use Rattle.lists.specs.Tests.{pick, within, all_of}
use Rattle.lists.proofs.Laws.{both, inside, outside}
use Rattle.characters.specs.declared.Replacement.TheVariants.{Other}
use Rattle.characters.specs.Replace.{Range, range, ranges, range_in, class_of}

-- ---- regions

-- the range a .. b holds all of lo .. hi, or nothing of it
abbrev agrees : ℕ → ℕ → ℕ → ℕ → Bool
agrees lo hi a b = ltb hi a || (ltb b lo || (leb a lo && leb hi b))

abbrev pub settled : ℕ → ℕ → List Range → Bool
settled lo hi rs = all_of (λ (r : Range). agrees lo hi r.from r.to) rs

module _ (lo hi c : ℕ) (l : lo ≤ c) (h : c ≤ hi) where
  one : (a b : ℕ) → agrees lo hi a b ≡ true → within a b c ≡ within a b lo
  one a b t = go (ltb hi a) refl (ltb b lo) refl t
    where
      out : (a ≤ c → c ≤ b → ⊥) → (a ≤ lo → lo ≤ b → ⊥) → within a b c ≡ within a b lo
      out f g = outside a b c f ∙ sym (outside a b lo g)

      go : (x : Bool) → ltb hi a ≡ x → (y : Bool) → ltb b lo ≡ y → x || (y || (leb a lo && leb hi b)) ≡ true → within a b c ≡ within a b lo
      go true p y q t = out (λ i j. omega (arith, ltb-true hi a p)) (λ i j. omega (arith, ltb-true hi a p))
      go false p true q t = out (λ i j. omega (arith, ltb-true b lo q)) (λ i j. omega (arith, ltb-true b lo q))
      go false p false q t =
          let w = both (leb a lo) (leb hi b) t in
          let u = leb-true a lo w.0 in
          let v = leb-true hi b w.1 in
          inside a b c (omega arith) (omega arith) ∙ sym (inside a b lo (omega arith) (omega arith))

  region : (rs : List Range) → settled lo hi rs ≡ true → (range_in rs c).class ≡ (range_in rs lo).class
  unfolding range_in all_of
  region [] t = refl
  region (r ∷ rs) t =
      let w = both (agrees lo hi r.from r.to) (settled lo hi rs) t in
      rw (one r.from r.to w.0) (go (within r.from r.to lo) (region rs w.1))
    where
      go : (b : Bool) → (range_in rs c).class ≡ (range_in rs lo).class → (pick b r (range_in rs c)).class ≡ (pick b r (range_in rs lo)).class
      go true e = refl
      go false e = e

-- the class of a region
pub class_in : (lo hi c : ℕ) → settled lo hi ranges ≡ true → lo ≤ c → c ≤ hi → class_of lo ≡ class_of c
unfolding class_of
class_in lo hi c t l h = sym (region lo hi c l h ranges t)

-- ---- by ranges

infixr 5 ◌also◌
-- P of each range
pub data Each (P : Range → Type 0) : List Range → Type 0 where
  done : Each P []
  ◌also◌ : {r : Range} {rs : List Range} → P r → Each P rs → Each P (r ∷ rs)

module _ (P : Range → Type 0) (c : ℕ) where
  abbrev Holding : Range → Type 0
  Holding r = within r.from r.to c ≡ true → P r

  pub by_range : (rs : List Range) → Each Holding rs → P (range c c Other c) → P (range_in rs c)
  unfolding range_in
  by_range [] done o = o
  by_range (r ∷ rs) (p also ps) o = go (within r.from r.to c) refl (by_range rs ps o)
    where
      go : (b : Bool) → within r.from r.to c ≡ b → P (range_in rs c) → P (pick b r (range_in rs c))
      go true w on = p w
      go false w on = on
