-- The composition without places: what the normal form is, and the two ways in which it goes on. A device of the proofs.
-- Assumes nothing.
use mathlib.Core.Path.{◌≡◌, refl, ap, ◌∙◌}
use mathlib.Core.Bool.{Bool, true, false}
use mathlib.Core.List.{List, [], ◌∷◌, map}
use Prim.Native.Nat.{ℕ, suc}
use lib.Dec.{eqb}
use borrow.Author.Tests.{eq-eqb, eqb-true}
use Rattle.lists.specs.Tests.{pick}
use Rattle.characters.specs.Replace.{replace}
use Rattle.characters.specs.Compose.{composed}
use Rattle.normal.specs.Normal.{Placed, placed, replaced_from, compose, normal_placed, normal_form}
use Rattle.normal.proofs.Pending.{codes}

unfoldable pub join_all : List ℕ → List ℕ
join_all [] = []
join_all (x ∷ []) = x ∷ []
join_all (b ∷ m ∷ rest) = pick (eqb (composed b m) 0) (b ∷ join_all (m ∷ rest)) (composed b m ∷ join_all rest)

-- ---- it is what is left of the composition when the places are taken away

codes_of : (i : ℕ) (text : List ℕ) → codes (replaced_from i text) ≡ map replace text
unfolding replaced_from
codes_of i [] = refl
codes_of i (x ∷ xs) = ap (λ (l : List ℕ). replace x ∷ l) (codes_of (suc i) xs)

step : (b m : Placed) (rest : List Placed) → codes (compose (m ∷ rest)) ≡ join_all (codes (m ∷ rest)) → codes (compose rest) ≡ join_all (codes rest)
    → codes (compose (b ∷ m ∷ rest)) ≡ join_all (codes (b ∷ m ∷ rest))
unfolding compose join_all
step b m rest e f = go (eqb (composed b.code m.code) 0)
  where
    go : (t : Bool)
        → codes (pick t (b ∷ compose (m ∷ rest)) (placed (composed b.code m.code) b.began ∷ compose rest))
        ≡ pick t (b.code ∷ join_all (codes (m ∷ rest))) (composed b.code m.code ∷ join_all (codes rest))
    go true = ap (λ (l : List ℕ). b.code ∷ l) e
    go false = ap (λ (l : List ℕ). composed b.code m.code ∷ l) f

plain_compose : (ps : List Placed) → codes (compose ps) ≡ join_all (codes ps)
unfolding compose join_all
plain_compose [] = refl
plain_compose (x ∷ []) = refl
plain_compose (b ∷ m ∷ rest) = step b m rest (plain_compose (m ∷ rest)) (plain_compose rest)

pub plain : (text : List ℕ) → normal_form text ≡ join_all (map replace text)
unfolding normal_form normal_placed
plain text = plain_compose (replaced_from 0 text) ∙ ap join_all (codes_of 0 text)

-- ---- how it goes on

module _ (b m : ℕ) (rest : List ℕ) where
  pub join_stays : composed b m ≡ 0 → join_all (b ∷ m ∷ rest) ≡ b ∷ join_all (m ∷ rest)
  unfolding join_all
  join_stays e = simp (eq-eqb _ _ e)

  -- what holds of both ways
  pub by_pair : (P : List ℕ → Type 0) → (composed b m ≡ 0 → P (b ∷ join_all (m ∷ rest))) → P (composed b m ∷ join_all rest)
      → P (join_all (b ∷ m ∷ rest))
  unfolding join_all
  by_pair P f g = go (eqb (composed b m) 0) refl
    where
      go : (t : Bool) → eqb (composed b m) 0 ≡ t → P (pick t (b ∷ join_all (m ∷ rest)) (composed b m ∷ join_all rest))
      go true e = f (eqb-true _ _ e)
      go false e = g

pub join_baseless : (b : ℕ) (rest : List ℕ) → ((m : ℕ) → composed b m ≡ 0) → join_all (b ∷ rest) ≡ b ∷ join_all rest
unfolding join_all
join_baseless b [] n = refl
join_baseless b (m ∷ rest) n = join_stays b m rest (n m)
