-- What is told of first and second wish: places and the part's length fit 32 bits, for neither is past 256.
-- Assumes nothing.
use mathlib.Core.Path.{◌≡◌, ap, ◌∙◌}
use mathlib.Core.List.{List, [], ◌∷◌}
use Prim.Native.Nat.{ℕ, ◌≤◌}
use native.Mathlib.Omega.{arith}
use Rattle.rules.specs.Permits.{Permits}
use Rattle.rules.specs.Rules.{verdict, rules}
use Rattle.answer.proofs.Digits.{text_near}
use Rattle.wishes.specs.Wishes.{alone, winner, wished, handed_length}
use Rattle.wishes.specs.Wishes.{Wished}
use Rattle.wishes.proofs.Parts.{handed_few}
use Rattle.sagebasket.specs.Outside.{of_wished, Wins}

place_few : (P : Permits) (text : List ℕ) → (alone P text).place ≤ 256
unfolding alone rules verdict
place_few P text = text_near P text

module _ (P : Permits) (first second : List ℕ) {r : Wished} (e : r ≡ wished P first second) where
  pub first_few : r.first.place ≤ 256
  unfolding wished
  first_few = omega (arith, ap (λ (w : Wished). w.first.place) e, place_few P first)

  pub second_few : r.second.place ≤ 256
  unfolding wished
  second_few = omega (arith, ap (λ (w : Wished). w.second.place) e, place_few P second)

  module _ {won n : ℕ} (w : won ≡ r.won) (l : n ≡ handed_length won first second) where
    part_is : n ≡ handed_length (winner P first second) first second
    unfolding wished
    part_is = l ∙ ap (λ (x : ℕ). handed_length x first second) (w ∙ ap (λ (x : Wished). x.won) e)

    pub part_few : n ≤ 256
    part_few = omega (arith, part_is, handed_few P first second)

    -- the six numbers, of which two tell of each check
    pub wins : {a p b q : ℕ} → (a ≡ r.first.number) × (p ≡ r.first.place) → (b ≡ r.second.number) × (q ≡ r.second.place)
        → Wins (wished P first second) (handed_length (winner P first second) first second) (won ∷ a ∷ p ∷ b ∷ q ∷ n ∷ []) won
    unfolding of_wished
    wins f s = record {
      told = (λ i. w i ∷ f.0 i ∷ f.1 i ∷ s.0 i ∷ s.1 i ∷ n ∷ []) ∙ (λ i. of_wished (e i) (part_is i));
      won = w ∙ ap (λ (x : Wished). x.won) e;
    }
