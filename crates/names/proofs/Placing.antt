-- Where the labels stand that an answer tells (document 02, K7): with 0 the buffer holds the normal form, which has two labels or three, so
-- they are cut out of it (rules, proofs/Places); on a refusal none is told.
-- Assumes nothing.
use mathlib.Core.Path.{◌≡◌, refl, sym, ap, ◌∙◌}
use mathlib.Core.Bool.{Bool, true, false}
use mathlib.Core.List.{List}
use mathlib.Core.Logic.{◌⊎◌, ⊎_elim}
use Prim.Native.Nat.{ℕ, ◌≤◌}
use native.Mathlib.Omega.{arith}
use lib.Dec.{eqb}
use lib.ListN.{length, take, get_or}
use lib.Seq.{take-append_seam}
use borrow.Author.Tests.{eqb-true, ne_eqb}
use Rattle.lists.specs.Tests.{pick, all_of}
use Rattle.lists.specs.Rows.{first, given, Clear}
use Rattle.lists.specs.Rows.{Answer}
use Rattle.lists.proofs.Fronts.{front}
use Rattle.lists.proofs.Tables.{refusing, accepted_clear}
use Rattle.characters.specs.KanjiBits.{kanji_bits}
use Rattle.normal.specs.Normal.{normal_form}
use Rattle.rules.specs.Labels.{labels}
use Rattle.rules.specs.Permits.{Permits}
use Rattle.rules.specs.Places.{label_places, no_places, places_said, label_count, CutsBack}
use Rattle.rules.specs.Editions.{today}
use Rattle.rules.specs.Rules.{label_rows, name_rows, front_rows, text_rows, class_of, verdict, rules}
use Rattle.rules.specs.Verdicts.{None}
use Rattle.rules.proofs.ByName.{clear_text, text_cleared}
use Rattle.rules.proofs.Places.{cuts_back, absent_zero}
use Rattle.rules.proofs.Editions.{lending}
use Rattle.fronts.specs.Fronts.{shown, padded}
use Rattle.fronts.proofs.Shown.{shown_full}
use Rattle.names.specs.Calls.{judged, check_rows, Checks}
use Rattle.names.specs.Placed.{AsPlaced, as_placed}
use Rattle.names.specs.Calls.{Checked}
use Rattle.names.proofs.Answering.{few_labels}

-- ---- any answer

module _ (P : Permits) (text : List ℕ) where
  -- with 0 the labels are cut out of what shows the form
  cut_there : {number n : ℕ} {buffer : List ℕ} → Clear (text_rows P text) → number ≡ 0 → take n buffer ≡ normal_form text
      → CutsBack (normal_form text) buffer n (places_said (labels (normal_form text)) number)
  unfolding places_said
  cut_there all z e = rw z (cuts_back (normal_form text) _ _ e (⊎_elim (λ q. omega arith) (λ q. omega arith) (few_labels P text all)))

-- of a general-use name there are two, of a prefecture name three
counts : (a : Answer) (ls : List (List ℕ)) → (a.number ≡ 0 → (length ls ≡ 2) ⊎ (length ls ≡ 3)) → (places_said ls a.number).count ≡ label_count (verdict a ls).class
unfolding places_said label_places verdict class_of label_count
counts a ls h = go (eqb a.number 0) refl
  where
    go : (b : Bool) → eqb a.number 0 ≡ b → (pick b (label_places ls) no_places).count ≡ label_count (pick b (class_of ls) None)
    go true z = ⊎_elim (λ e. rw e) (λ e. rw e) (h (eqb-true a.number 0 z))
    go false z = refl

-- ---- the check

module _ (P : Permits) {text before after : List ℕ} {r : Checked} (c : Checks P text before after r) where
  number_is : r.number ≡ (first (check_rows P text (length before))).number
  unfolding verdict
  number_is = ap (λ (x : Checked). x.number) c.gives.result

  pub check_places : r.labels ≡ places_said (labels (normal_form text)) r.number
  unfolding verdict
  check_places = ap (λ (x : Checked). x.labels) c.gives.result ∙ ap (places_said (labels (normal_form text))) (sym number_is)

  pub check_none : (r.number ≡ 0 → ⊥) → r.labels ≡ no_places
  unfolding places_said
  check_none h = check_places ∙ rw (ne_eqb r.number 0 h)

  -- what belongs to no label is 0
  pub check_absent : (i : ℕ) → r.labels.count ≤ i → (get_or r.labels.starts i 0 ≡ 0) × (get_or r.labels.lengths i 0 ≡ 0)
  check_absent i h = rw check_places (absent_zero (labels (normal_form text)) r.number i (rw check_places at h))

  all_clear : (first (check_rows P text (length before))).number ≡ 0 → Clear (text_rows P text)
  unfolding check_rows text_rows front_rows name_rows label_rows refusing all_of
  all_clear e = (accepted_clear (check_rows P text (length before)) refl e).1

  pub check_cuts : r.number ≡ 0 → CutsBack (normal_form text) after r.length r.labels
  unfolding given
  check_cuts z =
      let n = sym number_is ∙ z in
      let e : given (first (check_rows P text (length before))) (normal_form text) ≡ normal_form text = rw n in
      let l : r.length ≡ length (normal_form text) = ap (λ (x : Checked). x.length) c.gives.result ∙ ap length e in
      rw check_places (cut_there P text (all_clear n) z (rw (l, c.gives.buffer, e) (front (normal_form text) before)))

  pub check_count : r.labels.count ≡ label_count r.class
  unfolding verdict
  check_count =
      let a = first (check_rows P text (length before)) in
      ap (λ (x : Checked). x.labels.count) c.gives.result ∙ counts a (labels (normal_form text)) (λ e. few_labels P text (all_clear e))
      ∙ sym (ap (λ (x : Checked). label_count x.class) c.gives.result)

-- ---- the judge

module _ (P : Permits) (text : List ℕ) where
  all_passed : (rules P text).number ≡ 0 → Clear (text_rows P text)
  unfolding rules verdict
  all_passed = text_cleared P text

  pub judge_none : ((judged P text).number ≡ 0 → ⊥) → (judged P text).labels ≡ no_places
  unfolding judged places_said
  judge_none h = rw (ne_eqb (rules P text).number 0 h)

  pub judge_absent : (i : ℕ) → (judged P text).labels.count ≤ i
      → (get_or (judged P text).labels.starts i 0 ≡ 0) × (get_or (judged P text).labels.lengths i 0 ≡ 0)
  unfolding judged
  judge_absent = absent_zero (labels (normal_form text)) (rules P text).number

  pub judge_cuts : (judged P text).number ≡ 0 → CutsBack (normal_form text) (judged P text).form (judged P text).length (judged P text).labels
  unfolding judged padded
  judge_cuts z =
      let all = all_passed z in
      cut_there P text all z (take-append_seam (shown text) _ ∙ shown_full text (clear_text P text all).0.few)

  pub judge_count : (judged P text).labels.count ≡ label_count (judged P text).class
  unfolding judged rules verdict
  judge_count = counts (first (text_rows P text)) (labels (normal_form text)) (λ e. few_labels P text (text_cleared P text e))

-- ---- the tried texts, at the edition in force

pub placed_today : AsPlaced today
placed_today = lending AsPlaced 4 {table = kanji_bits} refl as_placed
