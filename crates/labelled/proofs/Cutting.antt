-- Where the labels of a form end: the search from 0 on comes to the first period, the search from past it to the second, and the labels are
-- what stands between.
-- Assumes nothing.
use mathlib.Core.Path.{◌≡◌, refl, sym, ap, ◌∙◌}
use mathlib.Core.List.{List, [], ◌∷◌}
use mathlib.Core.Logic.{⊎_elim}
use Prim.Native.Nat.{ℕ, ◌+◌, ◌-◌, ◌≤◌, ◌<◌}
use native.Mathlib.Omega.{arith}
use lib.ListN.{length, take, drop, length-drop}
use lib.Seq.{take_all}
use borrow.Author.Tests.{lt-ltb, le-ltb}
use Rattle.lists.specs.Tests.{index_of}
use Rattle.lists.proofs.Laws.{lt_or_le, index_bound}
use Rattle.rules.specs.Labels.{period, labels}
use Rattle.rules.proofs.Cuts.{some_label, last_from, first_from}
use Rattle.labelled.specs.Cuts.{Ends, ended, end_from, ends, cut_told, two_at, three_at, EndsAt}
use Rattle.labelled.specs.declared.Cut.{Cut}
use Rattle.labelled.specs.declared.Cut.TheVariants.{One, Two, Three, More}

-- the last label reaches to the end
last_is : (t : List ℕ) (i e : ℕ) → i ≤ length t → e ≡ i + index_of period (drop i t) → length t ≤ e
    → labels (drop i t) ≡ take (length t - i) (drop i t) ∷ []
last_is t i e h s k =
    last_from t i e h s k ∙ ap (λ (l : List ℕ). l ∷ []) (sym (take_all (length t - i) (drop i t) (omega (arith, length-drop i t))))

-- ---- how many there are

-- the labels by how many are counted, 4 for more than three
record Counted (t : List ℕ) (r : Ends) : Type 0 where
  one : r.count ≡ 1 → labels t ≡ t ∷ []
  two : r.count ≡ 2 → (r.first < length t) × (labels t ≡ two_at t r.first)
  three : r.count ≡ 3 → (r.first < r.second) × (r.second < length t) × (labels t ≡ three_at t r.first r.second)
  more : r.count ≡ 4 → 3 < length (labels t)

-- the search from 0 came to a, that from a + 1 to b, that from b + 1 to d
module _ (t : List ℕ) (a : ℕ) (sa : a ≡ 0 + index_of period (drop 0 t)) where
  count_one : {b : ℕ} → length t ≤ a → Counted t (record { count = 1; first = a; second = b })
  count_one k = record {
    one = λ z. last_from t 0 a (omega arith) sa k;
    two = λ z. absurd (omega arith);
    three = λ z. absurd (omega arith);
    more = λ z. absurd (omega arith);
  }

  module _ (ka : a < length t) (b : ℕ) (sb : b ≡ a + 1 + index_of period (drop (a + 1) t)) where
    first_is : labels t ≡ take a t ∷ labels (drop (a + 1) t)
    first_is = let all : a - 0 ≡ a = omega arith in rw all at (first_from t 0 a (omega arith) sa ka)

    count_two : length t ≤ b → Counted t (record { count = 2; first = a; second = b })
    count_two k = record {
      one = λ z. absurd (omega arith);
      two = λ z. (ka, rw (first_is, last_is t (a + 1) b (omega arith) sb k));
      three = λ z. absurd (omega arith);
      more = λ z. absurd (omega arith);
    }

    module _ (kb : b < length t) (d : ℕ) (sd : d ≡ b + 1 + index_of period (drop (b + 1) t)) where
      two : labels t ≡ take a t ∷ take (b - (a + 1)) (drop (a + 1) t) ∷ labels (drop (b + 1) t)
      two = first_is ∙ ap (λ (ls : List (List ℕ)). take a t ∷ ls) (first_from t (a + 1) b (omega arith) sb kb)

      count_three : length t ≤ d → Counted t (record { count = 3; first = a; second = b })
      count_three k = record {
        one = λ z. absurd (omega arith);
        two = λ z. absurd (omega arith);
        three = λ z. (omega (arith, sb), kb, rw (two, last_is t (b + 1) d (omega arith) sd k));
        more = λ z. absurd (omega arith);
      }

      count_more : d < length t → Counted t (record { count = 4; first = a; second = b })
      count_more k =
          let e = two ∙ ap (λ (ls : List (List ℕ)). take a t ∷ take (b - (a + 1)) (drop (a + 1) t) ∷ ls) (first_from t (b + 1) d (omega arith) sd k) in
          record {
            one = λ z. absurd (omega arith);
            two = λ z. absurd (omega arith);
            three = λ z. absurd (omega arith);
            more = λ z. omega (arith, some_label (drop (d + 1) t), ap length e);
          }

-- ---- what the call answers

at_end : (t : List ℕ) (i e : ℕ) → i ≤ length t → e ≡ end_from t i → length t ≤ e → e ≡ length t
at_end t i e h s k = omega (arith, s, length-drop i t, index_bound period (drop i t))

module _ (t : List ℕ) (a : ℕ) (sa : a ≡ end_from t 0) where
  pub is_one : length t ≤ a → ended 1 a (length t) ≡ ends t
  unfolding ends
  is_one k = rw (← sa, le-ltb a (length t) k)

  pub cut_one : length t ≤ a → ended 1 (length t) (length t) ≡ ends t
  cut_one k = ap (λ n. ended 1 n (length t)) (sym (at_end t 0 a (omega arith) sa k)) ∙ is_one k

  module _ (ka : a < length t) (b : ℕ) (sb : b ≡ end_from t (a + 1)) where
    pub is_two : length t ≤ b → ended 2 a b ≡ ends t
    unfolding ends
    is_two k = rw (← sa, lt-ltb a (length t) ka, ← sb, le-ltb b (length t) k)

    pub cut_two : length t ≤ b → ended 2 a (length t) ≡ ends t
    cut_two k = ap (ended 2 a) (sym (at_end t (a + 1) b (omega arith) sb k)) ∙ is_two k

    module _ (kb : b < length t) (d : ℕ) (sd : d ≡ end_from t (b + 1)) where
      pub is_three : length t ≤ d → ended 3 a b ≡ ends t
      unfolding ends
      is_three k = rw (← sa, lt-ltb a (length t) ka, ← sb, lt-ltb b (length t) kb, ← sd, le-ltb d (length t) k)

      pub is_more : d < length t → ended 4 a b ≡ ends t
      unfolding ends
      is_more k = rw (← sa, lt-ltb a (length t) ka, ← sb, lt-ltb b (length t) kb, ← sd, lt-ltb d (length t) k)

-- a cut that says of a form where its labels end
pub record CutOf (t : List ℕ) : Type 0 where
  pub cut : Cut
  pub told : cut_told (length t) cut ≡ ends t

-- so it is where the labels end
module _ (t : List ℕ) where
  abbrev a : ℕ
  a = end_from t 0

  abbrev b : ℕ
  b = end_from t (a + 1)

  abbrev d : ℕ
  d = end_from t (b + 1)

  three_or_more : a < length t → b < length t → Counted t (ends t)
  three_or_more ka kb =
      ⊎_elim (λ k. rw (← is_more t a refl ka b refl kb d refl k) (count_more t a refl ka b refl kb d refl k))
      (λ k. rw (← is_three t a refl ka b refl kb d refl k) (count_three t a refl ka b refl kb d refl k)) (lt_or_le d (length t))

  two_or_more : a < length t → Counted t (ends t)
  two_or_more ka =
      ⊎_elim (three_or_more ka) (λ k. rw (← is_two t a refl ka b refl k) (count_two t a refl ka b refl k)) (lt_or_le b (length t))

  one_or_more : Counted t (ends t)
  one_or_more = ⊎_elim two_or_more (λ k. rw (← is_one t a refl k) (count_one t a refl k)) (lt_or_le a (length t))

  counted : {r : Ends} → r ≡ ends t → Counted t r
  counted e = rw e one_or_more

  pub ends_at : (r : Cut) → cut_told (length t) r ≡ ends t → EndsAt t r
  ends_at One e = (counted e).one refl
  ends_at (Two a) e = (counted e).two refl
  ends_at (Three a b) e = (counted e).three refl
  ends_at (More a b) e = (counted e).more refl

  module _ {r : Cut} (e : cut_told (length t) r ≡ ends t) {a : ℕ} where
    pub two_within : r ≡ Two a → a < length t
    two_within h = (ends_at (Two a) (rw h at e)).0

    module _ {b : ℕ} where
      pub three_first : r ≡ Three a b → a < b
      three_first h = (ends_at (Three a b) (rw h at e)).0

      pub three_within : r ≡ Three a b → b < length t
      three_within h = (ends_at (Three a b) (rw h at e)).1

-- each form has such a cut
module _ (t : List ℕ) where
  three_or_more_cut : a t < length t → b t < length t → CutOf t
  three_or_more_cut ka kb =
      ⊎_elim (λ k. record { cut = More (a t) (b t); told = is_more t (a t) refl ka (b t) refl kb (d t) refl k })
      (λ k. record { cut = Three (a t) (b t); told = is_three t (a t) refl ka (b t) refl kb (d t) refl k }) (lt_or_le (d t) (length t))

  two_or_more_cut : a t < length t → CutOf t
  two_or_more_cut ka = ⊎_elim (three_or_more_cut ka) (λ k. record { cut = Two (a t); told = cut_two t (a t) refl ka (b t) refl k }) (lt_or_le (b t) (length t))

  pub cut_of : CutOf t
  cut_of = ⊎_elim two_or_more_cut (λ k. record { cut = One; told = cut_one t (a t) refl k }) (lt_or_le (a t) (length t))
