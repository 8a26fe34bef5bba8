-- The Japanese characters are 6,534: all of them stand in one list that rises strictly, so that none stands there twice,
-- and that has this length.
-- Assumes nothing.
use mathlib.Core.Path.{◌≡◌, refl, sym, ap, ◌∙◌}
use mathlib.Core.Bool.{Bool, true, false, ◌||◌, or-true, or-false}
use mathlib.Core.List.{List, [], ◌∷◌, ◌++◌}
use mathlib.Core.Logic.{⊎_elim}
use Prim.Native.Nat.{ℕ, zero, suc, ◌+◌, ◌≤◌}
use native.Mathlib.Omega.{arith}
use lib.Dec.{eqb, ltb}
use lib.ListN.{length}
use borrow.Author.Tests.{eqb-true, eqb-false, ne_eqb}
use Rattle.lists.specs.Tests.{pick, within, any_of, elem, above, rising}
use Rattle.lists.proofs.Laws.{or_swap, any_append, inside, outside, lt_or_le}
use Rattle.characters.specs.Kanji.{kanji}
use Rattle.characters.specs.Characters.{kinds, signs, signs_in, stretch, japanese_by, japanese}

-- n numbers from a on
unfoldable pub run : ℕ → ℕ → List ℕ
run a zero = []
run a (suc n) = a ∷ run (suc a) n

-- x put in its place in a list that rises
unfoldable pub insert : ℕ → List ℕ → List ℕ
insert x [] = x ∷ []
insert x (y ∷ ys) = let on = y ∷ insert x ys in pick (ltb x y) (x ∷ y ∷ ys) on

unfoldable pub insert_all : List ℕ → List ℕ → List ℕ
insert_all [] ys = ys
insert_all (x ∷ xs) ys = insert x (insert_all xs ys)

-- 3041 to 3093 (83), 30A1 to 30F6 (86), the ten signs, the kanji
unfoldable pub in_order : List ℕ
in_order = insert_all (run 0x3041 83 ++ (run 0x30A1 86 ++ signs)) kanji

pub count : length in_order ≡ 6534
unfolding in_order run insert insert_all signs kanji
count = refl

pub none_twice : rising in_order ≡ true
unfolding in_order run insert insert_all signs kanji rising above
none_twice = refl

-- ---- the list holds exactly the Japanese characters

module _ (c : ℕ) where
  in_insert : (x : ℕ) (ys : List ℕ) → elem c (insert x ys) ≡ eqb c x || elem c ys
  unfolding insert elem any_of
  in_insert x [] = refl
  in_insert x (y ∷ ys) = go (ltb x y) (in_insert x ys)
    where
      go : (b : Bool) → any_of (eqb c) (insert x ys) ≡ eqb c x || any_of (eqb c) ys
          → any_of (eqb c) (pick b (x ∷ y ∷ ys) (y ∷ insert x ys)) ≡ eqb c x || (eqb c y || any_of (eqb c) ys)
      go true e = refl
      go false e = ap (λ (z : Bool). eqb c y || z) e ∙ or_swap (eqb c y) (eqb c x) (any_of (eqb c) ys)

  in_all : (xs ys : List ℕ) → elem c (insert_all xs ys) ≡ elem c xs || elem c ys
  unfolding insert_all elem any_of
  in_all [] ys = refl
  in_all (x ∷ xs) ys = in_insert x (insert_all xs ys) ∙ go (eqb c x) (in_all xs ys)
    where
      go : (b : Bool) → elem c (insert_all xs ys) ≡ elem c xs || elem c ys → b || elem c (insert_all xs ys) ≡ (b || elem c xs) || elem c ys
      go true e = refl
      go false e = e

  grow : (a b : ℕ) → a ≤ b → eqb c a || within (suc a) b c ≡ within a b c
  grow a b h = go (eqb c a) refl
    where
      go : (t : Bool) → eqb c a ≡ t → t || within (suc a) b c ≡ within a b c
      go true p = let e = eqb-true c a p in sym (inside a b c (omega arith) (omega arith))
      go false p = past (λ e. eqb-false c a p (sym e))
        where
          past : (a ≡ c → ⊥) → within (suc a) b c ≡ within a b c
          past n =
              ⊎_elim (λ l. outside (suc a) b c (λ i j. omega arith) ∙ sym (outside a b c (λ i j. omega arith)))
              (λ l.
              ⊎_elim (λ g. outside (suc a) b c (λ i j. omega arith) ∙ sym (outside a b c (λ i j. omega arith)))
              (λ g. inside (suc a) b c (omega arith) g ∙ sym (inside a b c l g)) (lt_or_le b c))
              (lt_or_le c a)

  in_run : (a n : ℕ) → elem c (run a (suc n)) ≡ within a (a + n) c
  unfolding run elem any_of
  in_run a zero =
      sym (ap (λ (z : Bool). eqb c a || z) (outside (suc a) (a + 0) c (λ i j. omega arith))) ∙ grow a (a + 0) (omega arith)
  in_run a (suc n) =
      let e : suc a + n ≡ a + suc n = omega arith in
      ap (λ (z : Bool). eqb c a || z) (in_run (suc a) n ∙ ap (λ (b : ℕ). within (suc a) b c) e) ∙ grow a (a + suc n) (omega arith)

  regroup : (h k s z : Bool) → (h || (k || s)) || z ≡ h || (k || (z || (s || false)))
  regroup true k s z = refl
  regroup false true s z = refl
  regroup false false true z = sym (or-true z)
  regroup false false false z = sym (or-false z)

  others : elem c (run 0x3041 83 ++ (run 0x30A1 86 ++ signs)) ≡ within 0x3041 0x3093 c || (within 0x30A1 0x30F6 c || elem c signs)
  unfolding elem
  others =
      any_append (eqb c) (run 0x3041 83) (run 0x30A1 86 ++ signs)
      ∙ rw (any_append (eqb c) (run 0x30A1 86) signs, in_run 0x3041 82, in_run 0x30A1 85)

  pub members : elem c in_order ≡ japanese 4 c
  unfolding in_order japanese japanese_by kinds stretch signs_in any_of
  members =
      in_all (run 0x3041 83 ++ (run 0x30A1 86 ++ signs)) kanji ∙ ap (λ (x : Bool). x || elem c kanji) others
      ∙ regroup (within 0x3041 0x3093 c) (within 0x30A1 0x30F6 c) (elem c signs) (elem c kanji)

  -- in edition 1 3003 is one more (document 02, K12); in every other they are these
  pub first_members : japanese 1 c ≡ eqb c 0x3003 || elem c in_order
  unfolding japanese japanese_by kinds stretch signs_in elem any_of
  first_members =
      rw members (more (within 0x3041 0x3093 c) (within 0x30A1 0x30F6 c) (elem c kanji) (eqb c 0x3003) (elem c signs))
    where
      more : (h k z d s : Bool) → h || (k || (z || ((d || s) || false))) ≡ d || (h || (k || (z || (s || false))))
      more h k z true s = rw (or-true z, or-true k) (or-true h)
      more h k z false s = refl

  pub other_members : (edition : ℕ) → (edition ≡ 1 → ⊥) → japanese edition c ≡ elem c in_order
  unfolding japanese japanese_by kinds stretch signs_in any_of
  other_members edition n = rw (members, ne_eqb edition 1 n)
