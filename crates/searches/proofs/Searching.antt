-- What is answered, by how far the text is read: not at all where its length alone refuses it; up to the place of refusal 4; or to its end,
-- and then the rules of its labels decide, whose numbers are none of 2 to 4.
-- Assumes nothing.
use mathlib.Core.Path.{◌≡◌, refl, sym, ap, ◌∙◌}
use mathlib.Core.Bool.{Bool, true, false, not, ◌||◌}
use mathlib.Core.List.{List}
use mathlib.Core.Logic.{◌⊎◌, inl, inr, ⊎_elim}
use Prim.Native.Nat.{ℕ, ◌+◌, ◌-◌, ◌≤◌, ◌<◌}
use native.Mathlib.Omega.{arith}
use lib.Dec.{eqb}
use lib.ListN.{length, take}
use borrow.Author.Tests.{not-true, ne_eqb}
use Rattle.lists.specs.Tests.{within, all_of, any_of, index_of}
use Rattle.lists.specs.Rows.{Answer}
use Rattle.lists.proofs.Laws as Laws
use Rattle.lists.proofs.Laws.{by_test, lt_or_le, neither, clash, in_range}
use Rattle.lists.proofs.Scan.{found_inside}
use Rattle.lists.proofs.Tables.{of_rows}
use Rattle.normal.specs.Normal.{normal_form}
use Rattle.normal.specs.Calls.{Normalises}
use Rattle.std.specs.Prelude.{Result, Ok, Err, is_ok}
use Rattle.refusals.specs.Refusals.{Filled, number_of}
use Rattle.refusals.specs.declared.Refused.{Refused}
use Rattle.refusals.proofs.Once.{number_not_0}
use Rattle.normal.proofs.Answers.{no_refusal}
use Rattle.normal.proofs.Origins.{began_before}
use Rattle.rules.specs.Labels.{labels}
use Rattle.rules.specs.Permits.{Permits}
use Rattle.rules.specs.Rules.{unfit, label_rows, name_rows, verdict, by_labels, rules, refused}
use Rattle.rules.specs.Editions.{edition_with, today_with}
use Rattle.rules.specs.Verdicts.{Verdict, verdict_told}
use Rattle.rules.specs.declared.Class.{Class}
use Rattle.rules.proofs.Steps.{front_2, front_3, front_4, front_0, text_front, text_on}
use Rattle.fronts.proofs.Fronting.{form_is}
use Rattle.searches.specs.Searches.{read_by, searched_by, searched}
use Rattle.searches.specs.Steps.{stops_at}
use Rattle.searches.specs.declared.Searched.{Searched}

abbrev pub said : Bool → ℕ → Searched
said b n = record { yes = b; read = n }

-- the rules of labels answer none of 2 to 4
abbrev early : ℕ → Bool
early n = (eqb n 2 || eqb n 3) || eqb n 4

labels_late : (P : Permits) (ls : List (List ℕ)) → early (by_labels P ls).number ≡ false
unfolding verdict name_rows label_rows all_of
labels_late P ls = not-true _ (of_rows (λ (a : Answer). not (early a.number)) refl (name_rows P ls) refl)

read_all_by : (v : Verdict) (n : ℕ) → early v.number ≡ false → searched_by v n ≡ said (eqb v.number 0) n
unfolding searched_by read_by
read_all_by v n e =
    let k = neither (eqb v.number 2 || eqb v.number 3) (eqb v.number 4) e in
    rw (k.0, k.1)

-- a text of 1 to 256 code points has its normal form written, and its labels are asked
module _ {text before after : List ℕ} {n : Filled} (N : Normalises text before after n) (room : 256 ≤ length before)
    (few : (1 ≤ length text) × (length text ≤ 256)) where
  pub number_is_0 : n.number ≡ 0
  number_is_0 =
      ap (λ (x : Filled). x.number) N.result
      ∙ ap (λ (a : Answer). a.number) (no_refusal text before room (λ z. omega (arith, few.0)) few.1)

  form_there : take n.length after ≡ normal_form text
  form_there =
      let e : n.length ≡ n.length - 0 = omega arith in
      ap (λ (k : ℕ). take k after) e ∙ form_is N number_is_0

  pub labels_said : (P : Permits) {v : Verdict} → v ≡ by_labels P (labels (take n.length after))
      → eqb v.number 0 ≡ eqb (by_labels P (labels (normal_form text))).number 0
  labels_said P q = ap (λ (v : Verdict). eqb v.number 0) (q ∙ ap (λ (l : List ℕ). by_labels P (labels l)) form_there)

-- what is told of a result says whether it accepts
pub accepted_is : (r : Result Class Refused) → is_ok r ≡ eqb (verdict_told r).number 0
accepted_is (Ok k) = refl
accepted_is (Err e) = sym (ne_eqb (number_of e.why) 0 (number_not_0 e.why))

-- as the code asks the length
pub by_length : (n : ℕ) → within 1 256 n ≡ false → (n ≡ 0) ⊎ (256 < n)
by_length n e =
    ⊎_elim (λ h. inr h) (λ h. ⊎_elim (λ l. inl (omega arith)) (λ l. clash (Laws.inside 1 256 n l h) e) (lt_or_le n 1)) (lt_or_le 256 n)

-- by the edition in force, whatever table is lent
pub lent_there : (table : List ℕ) → (today_with table).known ≡ true
unfolding edition_with within
lent_there table = refl

module _ (P : Permits) (text : List ℕ) where
  abbrev some_unfit : Bool
  some_unfit = any_of (unfit P) (normal_form text)

  -- the walk stops inside exactly where a character is unfit
  inside : some_unfit ≡ true → stops_at P text < length text
  unfolding stops_at
  inside u = rw u (began_before text (index_of (unfit P) (normal_form text)) (found_inside (unfit P) (normal_form text) u))

  at_end : some_unfit ≡ false → stops_at P text ≡ length text
  unfolding stops_at
  at_end u = rw u

  is_unfit : stops_at P text < length text → some_unfit ≡ true
  is_unfit h = by_test (λ b. some_unfit ≡ b → b ≡ true) some_unfit (λ p q. refl) (λ p q. absurd (omega (arith, at_end q))) refl

  pub is_fit : length text ≤ stops_at P text → some_unfit ≡ false
  is_fit h = by_test (λ b. some_unfit ≡ b → b ≡ false) some_unfit (λ p q. absurd (omega (arith, inside q))) (λ p q. refl) refl

  module _ (there_is : P.known ≡ true) where
    -- the length alone refuses it
    pub refused_so : within 1 256 (length text) ≡ false → (rules P text ≡ refused 2 0) ⊎ (rules P text ≡ refused 3 256)
    refused_so e = ⊎_elim (λ z. inl (text_front P text (front_2 P text z) there_is (λ n. omega arith)))
        (λ h. inr (text_front P text (front_3 P text (λ z. omega arith) h) there_is (λ n. omega arith))) (by_length (length text) e)

    pub unread_so : within 1 256 (length text) ≡ false → said false 0 ≡ searched P text
    unfolding searched searched_by read_by
    unread_so e = ⊎_elim (λ v. rw v) (λ v. rw v) (refused_so e)

    module _ (r : within 1 256 (length text) ≡ true) {s : ℕ} (e : s ≡ stops_at P text) where
      some : length text ≡ 0 → ⊥
      some z = omega (arith, (in_range 1 256 (length text) r).0)

      few : length text ≤ 256
      few = (in_range 1 256 (length text) r).1

      pub stopped_4 : s < length text → rules P text ≡ refused 4 s
      unfolding stops_at
      stopped_4 h =
          let u = is_unfit (omega (arith, e)) in
          text_front P text (front_4 P text some few u) there_is (λ z. omega arith) ∙ rw (e, u)

      pub stopped : s < length text → said false (s + 1) ≡ searched P text
      unfolding searched searched_by read_by
      stopped h = rw (stopped_4 h)

      pub read_all : length text ≤ s → {y : Bool} → y ≡ eqb (by_labels P (labels (normal_form text))).number 0 → said y (length text) ≡ searched P text
      unfolding searched
      read_all h q =
          let v = by_labels P (labels (normal_form text)) in
          let fit = is_fit (omega (arith, e)) in
          ap (λ (b : Bool). said b (length text)) q ∙ sym (read_all_by v (length text) (labels_late P (labels (normal_form text))))
          ∙ ap (λ (w : Verdict). searched_by w (length text)) (sym (text_on P text (front_0 P text some few fit) there_is refl))

    -- ---- the three ways

    pub data Ways : Searched → Type 0 where
      unread : within 1 256 (length text) ≡ false → Ways (said false 0)
      stop : within 1 256 (length text) ≡ true → stops_at P text < length text → Ways (said false (stops_at P text + 1))
      all : within 1 256 (length text) ≡ true → (y : Bool) → Ways (said y (length text))

    pub way : Ways (searched P text)
    way =
        by_test (λ b. within 1 256 (length text) ≡ b → Ways (searched P text)) (within 1 256 (length text)) (λ p r. read r)
        (λ p r. rw (← unread_so r) (unread r)) refl
      where
        read : within 1 256 (length text) ≡ true → Ways (searched P text)
        read r =
            ⊎_elim (λ h. rw (← stopped r refl h) (stop r h)) (λ h. rw (← read_all r refl h refl) (all r _))
            (lt_or_le (stops_at P text) (length text))
