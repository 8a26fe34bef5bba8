-- The normal form of a text that goes on: that of the text stands at its start, but for its last character, which a mark may join. What is
-- replaced by neither base nor mark parts it.
-- Assumes nothing.
use mathlib.Core.Path.{◌≡◌, refl, sym, ap, ◌∙◌}
use mathlib.Core.Bool.{Bool, true, false}
use mathlib.Core.List.{List, [], ◌∷◌, ◌++◌, map, map-append}
use Prim.Native.Nat.{ℕ}
use lib.Dec.{eqb}
use borrow.Author.Tests.{eqb-false}
use Rattle.lists.specs.Tests.{pick, all_of}
use Rattle.lists.proofs.Laws.{both}
use Rattle.characters.specs.Replace.{replace}
use Rattle.characters.specs.Compose.{composed}
use Rattle.normal.specs.Normal.{normal_form}
use Rattle.normal.proofs.Plain.{join_all, plain, join_stays, join_baseless}
use Rattle.normal.proofs.Unchanged.{unchanged, unreplaced, no_mark, unchanged_form}

-- ---- by anything

-- the normal form of a text, and that of the text and more
pub data Continues : List ℕ → List ℕ → Type 0 where
  apart : (f r : List ℕ) → Continues f (f ++ r)
  joined : (f : List ℕ) (b m : ℕ) (r : List ℕ) → (composed b m ≡ 0 → ⊥) → Continues (f ++ b ∷ []) (f ++ composed b m ∷ r)

further : (x : ℕ) {f g : List ℕ} → Continues f g → Continues (x ∷ f) (x ∷ g)
further x (apart f r) = apart (x ∷ f) r
further x (joined f b m r n) = joined (x ∷ f) b m r n

continues : (xs ys : List ℕ) → Continues (join_all xs) (join_all (xs ++ ys))
unfolding join_all
continues [] ys = apart [] (join_all ys)
continues (x ∷ []) [] = apart (x ∷ []) []
continues (x ∷ []) (m ∷ rest) = go (eqb (composed x m) 0) refl
  where
    go : (t : Bool) → eqb (composed x m) 0 ≡ t → Continues (x ∷ []) (pick t (x ∷ join_all (m ∷ rest)) (composed x m ∷ join_all rest))
    go true e = apart (x ∷ []) (join_all (m ∷ rest))
    go false e = joined [] x m (join_all rest) (eqb-false (composed x m) 0 e)
continues (b ∷ m ∷ rest) ys = go (eqb (composed b m) 0) (continues (m ∷ rest) ys) (continues rest ys)
  where
    go : (t : Bool) → Continues (join_all (m ∷ rest)) (join_all (m ∷ (rest ++ ys))) → Continues (join_all rest) (join_all (rest ++ ys))
        → Continues (pick t (b ∷ join_all (m ∷ rest)) (composed b m ∷ join_all rest))
        (pick t (b ∷ join_all (m ∷ (rest ++ ys))) (composed b m ∷ join_all (rest ++ ys)))
    go true c d = further b c
    go false c d = further (composed b m) d

pub continued : (text s : List ℕ) → Continues (normal_form text) (normal_form (text ++ s))
continued text s = rw (plain text, plain (text ++ s), map-append replace text s) (continues (map replace text) (map replace s))

-- ---- by what does not begin with a mark

abbrev Markless : List ℕ → Type 0
Markless [] = Unit {0}
Markless (m ∷ r) = (b : ℕ) → composed b m ≡ 0

join_on : (xs r : List ℕ) → Markless r → join_all (xs ++ r) ≡ join_all xs ++ join_all r
unfolding join_all
join_on [] r n = refl
join_on (x ∷ []) [] n = refl
join_on (x ∷ []) (m ∷ rest) n = join_stays x m rest (n x)
join_on (b ∷ m ∷ rest) r n = go (eqb (composed b m) 0) (join_on (m ∷ rest) r n) (join_on rest r n)
  where
    go : (t : Bool) → join_all (m ∷ (rest ++ r)) ≡ join_all (m ∷ rest) ++ join_all r → join_all (rest ++ r) ≡ join_all rest ++ join_all r
        → pick t (b ∷ join_all (m ∷ (rest ++ r))) (composed b m ∷ join_all (rest ++ r))
        ≡ pick t (b ∷ join_all (m ∷ rest)) (composed b m ∷ join_all rest) ++ join_all r
    go true c d = ap (λ (l : List ℕ). b ∷ l) c
    go false c d = ap (λ (l : List ℕ). composed b m ∷ l) d

continued_markless : (text r : List ℕ) → Markless (map replace r) → normal_form (text ++ r) ≡ normal_form text ++ normal_form r
continued_markless text r n =
    plain (text ++ r) ∙ ap join_all (map-append replace text r) ∙ join_on (map replace text) (map replace r) n
    ∙ rw (plain text, plain r)

-- by characters that nothing replaces, with no mark among them
markless : (r : List ℕ) → all_of unchanged r ≡ true → Markless (map replace r)
unfolding all_of
markless [] e = tt
markless (m ∷ r) e = let k = both (unchanged m) (all_of unchanged r) e in rw (unreplaced m k.0) (no_mark m k.0)

pub continued_unchanged : (text r : List ℕ) → all_of unchanged r ≡ true → normal_form (text ++ r) ≡ normal_form text ++ r
continued_unchanged text r e = continued_markless text r (markless r e) ∙ ap (λ (l : List ℕ). normal_form text ++ l) (unchanged_form r e)

-- ---- a character that is replaced by no base, and by no mark either

module _ (c : ℕ) (s : List ℕ) (no_base : (m : ℕ) → composed (replace c) m ≡ 0) where
  pub led : normal_form (c ∷ s) ≡ replace c ∷ normal_form s
  led = plain (c ∷ s) ∙ join_baseless (replace c) (map replace s) no_base ∙ ap (λ (l : List ℕ). replace c ∷ l) (sym (plain s))

  -- it stands between the normal forms of what is before it and after it
  pub parted : (text : List ℕ) → ((b : ℕ) → composed b (replace c) ≡ 0) → normal_form (text ++ c ∷ s) ≡ normal_form text ++ replace c ∷ normal_form s
  parted text none = continued_markless text (c ∷ s) none ∙ ap (λ (l : List ℕ). normal_form text ++ l) led
