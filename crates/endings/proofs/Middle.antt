-- The middle label: the table of characters, cut where each label of an edition starts, is the list of its labels, by computation; a search over
-- the parts for one of which a test holds is a scan.
-- Assumes nothing.
use mathlib.Core.Path.{◌≡◌, refl, sym, ◌∙◌}
use mathlib.Core.Bool.{Bool, true, false, ◌||◌}
use mathlib.Core.List.{List, [], ◌∷◌}
use Prim.Native.Nat.{ℕ, ◌-◌, ◌≤◌, ◌<◌}
use native.Mathlib.Omega.{arith}
use lib.Dec.{eqb, leb}
use lib.ListN.{length, take, drop, get_or}
use borrow.Author.Tests.{leb-true}
use Rattle.lists.specs.Tests.{pick, any_of}
use Rattle.lists.proofs.Laws.{both}
use Rattle.rules.specs.Editions.{has_prefectures, middles_in}
use Rattle.rules.specs.Prefectures.{latin_prefectures, prefectures}
use Rattle.endings.specs.Parts.{parts, starts_rise, starts_in}

-- ---- the parts that are left, cut at the first two starts of what is left of them

first_in : (n : ℕ) (a : ℕ) (ss : List ℕ) → starts_rise n (a ∷ ss) ≡ true → a ≤ n
unfolding starts_rise
first_in n a [] e = leb-true a n e
first_in n a (b ∷ ss) e =
    let p = both (leb a b) (starts_rise n (b ∷ ss)) e in
    let k = first_in n b ss p.1 in
    omega (arith, leb-true a b p.0)

module _ (ss : List ℕ) {cut : List ℕ} {w : ℕ} (two : w ≡ 2) (h : w ≤ length ss) (e : cut ≡ take w ss) where
  by_two : (G : List ℕ → List ℕ → Type 0) → ((a b : ℕ) (rest : List ℕ) → G (a ∷ b ∷ rest) (a ∷ b ∷ [])) → G ss cut
  by_two G g = rw (e, two) (go ss (omega arith))
    where
      go : (l : List ℕ) → 2 ≤ length l → G l (take 2 l)
      go [] k = absurd (omega arith)
      go (a ∷ []) k = absurd (omega arith)
      go (a ∷ b ∷ rest) k = g a b rest

  module _ (n : ℕ) where
    pub bounds : starts_rise n ss ≡ true → (get_or cut 0 0 ≤ get_or cut 1 0) × (get_or cut 1 0 ≤ n)
    unfolding starts_rise
    bounds = by_two (λ l c. starts_rise n l ≡ true → (get_or c 0 0 ≤ get_or c 1 0) × (get_or c 1 0 ≤ n)) (λ a b rest o. let p = both (leb a b) _ o in (leb-true a b p.0, first_in n b rest p.1))

    pub order_on : {rest : List ℕ} → rest ≡ drop 1 ss → starts_rise n ss ≡ true → starts_rise n rest ≡ true
    unfolding starts_rise
    order_on q = rw q (by_two (λ l c. starts_rise n l ≡ true → starts_rise n (drop 1 l) ≡ true) (λ a b rest o. (both (leb a b) _ o).1))

  module _ (f : List ℕ → Bool) (table : List ℕ) where
    abbrev part : List ℕ
    part = take (get_or cut 1 0 - get_or cut 0 0) (drop (get_or cut 0 0) table)

    peel : any_of f (parts table ss) ≡ f part || any_of f (parts table (drop 1 ss))
    unfolding parts any_of
    peel =
        by_two
        (λ l c. any_of f (parts table l) ≡ f (take (get_or c 1 0 - get_or c 0 0) (drop (get_or c 0 0) table)) || any_of f (parts table (drop 1 l)))
        (λ a b rest. refl)

    module _ {all : Bool} (told : all ≡ any_of f (parts table ss)) {t : Bool} (p : t ≡ f part) where
      pub part_here : t ≡ true → true ≡ all
      part_here q = sym (told ∙ peel ∙ simp (sym p ∙ q))

      pub part_on : {rest : List ℕ} → rest ≡ drop 1 ss → t ≡ false → all ≡ any_of f (parts table rest)
      part_on r q = told ∙ peel ∙ simp (sym p ∙ q, sym r)

pub none_left : (f : List ℕ → Bool) (table ss : List ℕ) {w : ℕ} {all : Bool} → w ≡ 2 → length ss < w → all ≡ any_of f (parts table ss) → false ≡ all
unfolding parts any_of
none_left f table [] e h told = sym told
none_left f table (a ∷ []) e h told = sym told
none_left f table (a ∷ b ∷ ss) e h told = absurd (omega arith)

-- ---- the starts of an edition

module _ (edition : ℕ) where
  -- there are as many as its labels ask for: none, 48 or 95
  pub by_starts : {G : Type 0} {n : ℕ} → n ≡ starts_in edition → (n ≡ 0 → middles_in edition ≡ [] → G) → (n ≡ 48 → middles_in edition ≡ latin_prefectures → G)
      → (n ≡ 95 → middles_in edition ≡ prefectures → G) → G
  unfolding starts_in middles_in
  by_starts {G} {n} e none latin all = go (has_prefectures edition) (eqb edition 3) e none latin all
    where
      go : (a b : Bool) → n ≡ pick a (pick b 48 95) 0 → (n ≡ 0 → pick a (pick b latin_prefectures prefectures) [] ≡ [] → G)
          → (n ≡ 48 → pick a (pick b latin_prefectures prefectures) [] ≡ latin_prefectures → G)
          → (n ≡ 95 → pick a (pick b latin_prefectures prefectures) [] ≡ prefectures → G) → G
      go true true q f g h = g q refl
      go true false q f g h = h q refl
      go false b q f g h = f q refl
