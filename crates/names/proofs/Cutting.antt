-- Where the labels of a form stand: each starts past the period before it and is as long as it is to its end (labelled, proofs/Cutting).
-- Assumes nothing.
use mathlib.Core.Path.{◌≡◌, sym, ap}
use mathlib.Core.List.{List, [], ◌∷◌}
use mathlib.Core.Logic.{◌⊎◌, ⊎_elim}
use Prim.Native.Nat.{ℕ, ◌+◌, ◌-◌, ◌≤◌, ◌<◌}
use native.Mathlib.Omega.{arith}
use lib.ListN.{length, take, drop, get_or, length-drop}
use lib.Seq.{length-take-le}
use Rattle.lists.specs.Tests.{index_of}
use Rattle.rules.specs.Labels.{period, labels}
use Rattle.rules.specs.Places.{starts_from, first_three, label_places}
use Rattle.rules.specs.declared.LabelPlaces.{LabelPlaces}
use Rattle.rules.proofs.Cuts.{by_end}
use Rattle.labelled.specs.Cuts.{EndsAt}
use Rattle.labelled.specs.declared.Cut.{Cut}
use Rattle.labelled.specs.declared.Cut.TheVariants.{One, Two, Three, More}
use Rattle.names.specs.Steps.{TwoOrThree}

-- the leftmost label ends at the first period
pub leftmost_is : (t : List ℕ) (a : ℕ) → a ≡ 0 + index_of period (drop 0 t) → take a t ≡ get_or (labels t) 0 []
leftmost_is t a s = let all : a - 0 ≡ a = omega arith in by_end t 0 a (omega arith) s (λ rest e. rw all at (sym (ap (λ (ls : List (List ℕ)). get_or ls 0 []) e)))

-- ---- where they stand

part_length : (t : List ℕ) (i e : ℕ) → i ≤ e → e ≤ length t → length (take (e - i) (drop i t)) ≡ e - i
part_length t i e h k = length-take-le (e - i) (drop i t) (omega (arith, length-drop i t))

head_length : (t : List ℕ) (a : ℕ) → a < length t → length (take a t) ≡ a
head_length t a h = length-take-le a t (omega arith)

module _ (t : List ℕ) (a : ℕ) where
  pub two_stand : EndsAt t (Two a)
      → ◌≡◌ {A = LabelPlaces} (record { count = 2; starts = 0 ∷ (a + 1) ∷ 0 ∷ []; lengths = a ∷ (length t - (a + 1)) ∷ 0 ∷ [] }) (label_places (labels t))
  unfolding label_places first_three starts_from
  two_stand p =
      let la = head_length t a p.0 in
      let lb = part_length t (a + 1) (length t) (omega (arith, p.0)) (omega arith) in
      let s : 0 + a + 1 ≡ a + 1 = omega arith in
      rw (p.1, la, lb, s)

  pub three_stand : (b : ℕ) → EndsAt t (Three a b)
      → ◌≡◌ {A = LabelPlaces}
      (record { count = 3; starts = 0 ∷ (a + 1) ∷ (b + 1) ∷ []; lengths = a ∷ (b - (a + 1)) ∷ (length t - (b + 1)) ∷ [] }) (label_places (labels t))
  unfolding label_places first_three starts_from
  three_stand b p =
      let la = head_length t a (omega (arith, p.0, p.1)) in
      let lb = part_length t (a + 1) b (omega (arith, p.0)) (omega (arith, p.1)) in
      let lc = part_length t (b + 1) (length t) (omega (arith, p.1)) (omega arith) in
      let s : 0 + a + 1 ≡ a + 1 = omega arith in
      let q : a + 1 + (b - (a + 1)) + 1 ≡ b + 1 = omega (arith, p.0) in
      rw (p.2, la, lb, lc, s, q)

-- two labels or three are cut as two or three
pub cut_there : (t : List ℕ) (r : Cut) → EndsAt t r → TwoOrThree t → (r ≡ One) ⊎ ((a : ℕ) × (b : ℕ) × (r ≡ More a b)) → ⊥
cut_there t One E h e = ⊎_elim (λ k. omega (arith, ap length E)) (λ k. omega (arith, ap length E)) h
cut_there t (Two a) E h e = ⊎_elim (λ k. cc) (λ p. let k = p.2 in cc) e
cut_there t (Three a b) E h e = ⊎_elim (λ k. cc) (λ p. let k = p.2 in cc) e
cut_there t (More a b) E h e = ⊎_elim (λ k. omega arith) (λ k. omega arith) h
