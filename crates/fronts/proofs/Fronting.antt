-- The front of the rules: the normal form call says which of 2 and 3 applies, and where neither does its buffer holds the normal form, of
-- which 4 speaks. With room these answers are what the rows 2 to 4 say, and the buffer holds what is shown of the text.
-- Assumes nothing.
use mathlib.Core.Path.{◌≡◌, refl, sym, ap, ◌∙◌}
use mathlib.Core.Bool.{Bool, true, false}
use mathlib.Core.List.{List, [], ◌∷◌}
use mathlib.Core.Logic.{⊎_elim}
use Prim.Native.Nat.{ℕ, zero, suc, ◌-◌, ◌≤◌}
use native.Mathlib.Omega.{arith}
use lib.Dec.{eqb, ltb}
use lib.ListN.{length, take, drop, get_or, length-append}
use borrow.Author.Tests.{eqb-true, eqb-false, ne_eqb, le-ltb, ltb-false}
use Rattle.std.specs.Prelude.{Option, Some, None, slice_get}
use Rattle.std.specs.List.{position}
use Rattle.std.specs.Option.{MatchOption}
use Rattle.std.proofs.lemmas.Option.{slice_get-get_or}
use Rattle.lists.specs.Tests.{pick, all_of, any_of, index_of}
use Rattle.lists.specs.Front.{written}
use Rattle.lists.specs.Rows.{Row, row, Answer, accepted, first, Clear}
use Rattle.lists.proofs.Chains.{position_at}
use Rattle.lists.proofs.Fronts.{front}
use Rattle.lists.proofs.Laws.{by_test, lt_or_le}
use Rattle.lists.proofs.Scan.{found_inside}
use Rattle.lists.proofs.Tables.{clear, clear_before, refused_before, hit, passed_over, refusing, accepted_clear, given_all, given_none}
use Rattle.normal.specs.Normal.{normal_form, places}
use Rattle.normal.specs.Calls.{rows, answer, writes, Normalises}
use Rattle.refusals.specs.Refusals.{Filled}
use Rattle.normal.proofs.Laws.{no_longer, places_length}
use Rattle.rules.specs.Permits.{Permits}
use Rattle.rules.specs.Rules.{unfit, front_rows}
use Rattle.rules.proofs.ByName.{clear_front, front_cleared}
use Rattle.fronts.specs.Fronts.{shown, unfit_given, Fronted, form_told, fronted, Fronts}
use Rattle.fronts.proofs.Shown.{at_start, shown_none, shown_over, shown_full}

-- ---- the normal form call

-- every row of it refuses, so 0 is accepted
accepted_is : (text : List ℕ) (room : ℕ) → (answer text room).number ≡ 0 → answer text room ≡ accepted
unfolding answer rows refusing all_of
accepted_is text room e = clear (rows text room) (accepted_clear (rows text room) refl e)

writes_is : (text : List ℕ) (room : ℕ) → (answer text room).number ≡ 0 → writes text room ≡ normal_form text
unfolding writes
writes_is text room e = given_all (answer text room) (normal_form text) e

module _ {text before after : List ℕ} {n : Filled} (N : Normalises text before after n) where
  number_is : n.number ≡ (answer text (length before)).number
  number_is = ap (λ (x : Filled). x.number) N.result

  length_is : n.length ≡ length (writes text (length before))
  length_is = ap (λ (x : Filled). x.length) N.result

  -- what it wrote lies in the buffer
  pub inside : n.length ≤ length after
  unfolding written
  inside = let w = writes text (length before) in omega (arith, length_is, ap length N.buffer, length-append w (drop (length w) before))

  module _ (z : n.number ≡ 0) where
    zero_is : (answer text (length before)).number ≡ 0
    zero_is = sym number_is ∙ z

    size_is : n.length ≡ length (normal_form text)
    size_is = length_is ∙ ap length (writes_is text (length before) zero_is)

    pub form_to : take n.length after ≡ normal_form text
    form_to = rw (length_is, N.buffer) (front (writes text (length before)) before) ∙ writes_is text (length before) zero_is

    pub form_is : take (n.length - 0) (drop 0 after) ≡ normal_form text
    form_is = rw (length_is, N.buffer) (at_start (writes text (length before)) before) ∙ writes_is text (length before) zero_is

-- ---- what the code answers

module _ (P : Permits) {text before after : List ℕ} {n : Filled} (N : Normalises text before after n) where
  pub fronts_refused : (n.number ≡ 0 → ⊥)
      → Fronts P text before after (record { number = n.number; place = n.place; length = n.length; unfit = false; at = 0 })
  unfolding fronted unfit_given
  fronts_refused h = record { result = rw (N.result, ne_eqb (answer text (length before)).number 0 (λ z. h (number_is N ∙ z))); buffer = N.buffer }

  -- of the first unfit character of the form, where there is one, the place is looked up
  module _ (z : n.number ≡ 0) (at : Option ℕ) where
    looked_up : (b : Bool) → any_of (unfit P) (normal_form text) ≡ b
        → MatchOption (pick b (Some (index_of (unfit P) (normal_form text))) None) (at ≡ None) (λ k. at ≡ slice_get (places text) k)
        → Fronts P text before after (form_told n.length at)
    unfolding fronted unfit_given
    looked_up true e m =
        let k = index_of (unfit P) (normal_form text) in
        let there : slice_get (places text) k ≡ Some (get_or (places text) k 0) =
        slice_get-get_or (places text) k 0 (omega (arith, found_inside (unfit P) (normal_form text) e, places_length text)) in
        record { result = rw (m, there, accepted_is text (length before) (zero_is N z), length_is N, e); buffer = N.buffer }
    looked_up false e m = record { result = rw (m, accepted_is text (length before) (zero_is N z), length_is N, e); buffer = N.buffer }

    pub fronts_given : MatchOption (position (unfit P) (take n.length after)) (at ≡ None) (λ k. at ≡ slice_get (places text) k)
        → Fronts P text before after (form_told n.length at)
    fronts_given m = looked_up (any_of (unfit P) (normal_form text)) refl (rw (form_to N z, position_at (unfit P) (normal_form text)) at m)

-- ---- what it says of the rows, given room

-- the answer of the rows 2 to 4 is a, and what is shown of the text, of length n, stands at the buffer's start
pub record Told (P : Permits) (text before after : List ℕ) (a : Answer) (n : ℕ) : Type 0 where
  pub answer : first (front_rows P text) ≡ a
  pub size : n ≡ length (shown text)
  pub buffer : after ≡ written (shown text) before

module _ (P : Permits) {text before after : List ℕ} {r : Fronted} (F : Fronts P text before after r) (room : 256 ≤ length before) where
  -- 2 and 3, which the normal form call asks after 1
  abbrev sizes : List Row
  sizes = row 2 (eqb (length text) 0) 0 ∷ row 3 (ltb 256 (length text)) 256 ∷ []

  abbrev unfits : List Row
  unfits = row 4 (any_of (unfit P) (normal_form text)) (get_or (places text) (index_of (unfit P) (normal_form text)) 0) ∷ []

  sizes_are : answer text (length before) ≡ first sizes
  unfolding answer rows
  sizes_are = passed_over 1 _ 0 sizes (le-ltb (length before) 256 room)

  said : first sizes ≡ record { number = r.number; place = r.place }
  unfolding fronted
  said = sym sizes_are ∙ sym (ap (λ (x : Fronted). record { number = x.number; place = x.place }) F.result)

  number_said : r.number ≡ (first sizes).number
  number_said = sym (ap (λ (a : Answer). a.number) said)

  size_said : r.length ≡ length (writes text (length before))
  unfolding fronted
  size_said = ap (λ (x : Fronted). x.length) F.result

  pub told_refused : (r.number ≡ 0 → ⊥) → Told P text before after (record { number = r.number; place = r.place }) r.length
  unfolding front_rows writes
  told_refused h = record {
    answer = refused_before sizes unfits (λ z. h (number_said ∙ z)) ∙ said;
    size = size_said ∙ ap length same;
    buffer = F.buffer ∙ ap (λ (xs : List ℕ). written xs before) same;
  }
    where
      none : shown text ≡ []
      none = by_length (length text) refl
        where
          by_length : (k : ℕ) → length text ≡ k → shown text ≡ []
          by_length zero e = shown_none text e
          by_length (suc k) e =
              ⊎_elim (shown_over text)
              (λ g. absurd (h (number_said ∙ ap (λ (a : Answer). a.number) (clear sizes (ne_eqb (length text) 0 (λ z. omega arith), (le-ltb 256 (length text) g, tt))))))
              (lt_or_le 256 (length text))

      same : writes text (length before) ≡ shown text
      same = given_none (answer text (length before)) (normal_form text) (λ z. h (number_said ∙ sym (ap (λ (a : Answer). a.number) sizes_are) ∙ z)) ∙ sym none

  module _ (z : r.number ≡ 0) where
    passed : Clear sizes
    unfolding refusing all_of
    passed = accepted_clear sizes refl (sym number_said ∙ z)

    accepted_here : (answer text (length before)).number ≡ 0
    accepted_here = ap (λ (a : Answer). a.number) (sizes_are ∙ clear sizes passed)

    same : writes text (length before) ≡ shown text
    same = writes_is text (length before) accepted_here ∙ sym (shown_full text (ltb-false 256 (length text) passed.1.0))

    told_as : {a : Answer} → first unfits ≡ a → Told P text before after a r.length
    unfolding front_rows
    told_as e = record {
      answer = clear_before sizes unfits passed ∙ e;
      size = size_said ∙ ap length same;
      buffer = F.buffer ∙ ap (λ (xs : List ℕ). written xs before) same;
    }

    unfit_is : r.unfit ≡ any_of (unfit P) (normal_form text)
    unfolding fronted unfit_given
    unfit_is = ap (λ (x : Fronted). x.unfit) F.result ∙ rw accepted_here

    pub told_unfit : r.unfit ≡ true → Told P text before after (record { number = 4; place = r.at }) r.length
    unfolding fronted unfit_given
    told_unfit u = told_as (hit 4 _ _ [] some ∙ rw place_is)
      where
        some : any_of (unfit P) (normal_form text) ≡ true
        some = sym unfit_is ∙ u

        place_is : r.at ≡ get_or (places text) (index_of (unfit P) (normal_form text)) 0
        place_is = ap (λ (x : Fronted). x.at) F.result ∙ rw (accepted_here, some)

    pub told_fit : r.unfit ≡ false → Told P text before after (record { number = 0; place = 0 }) r.length
    told_fit u = told_as (clear unfits (sym unfit_is ∙ u, tt))

  -- whatever is said, the buffer holds what is shown
  pub told_some : (a : Answer) × Told P text before after a r.length
  told_some =
      by_test (λ b. eqb r.number 0 ≡ b → (a : Answer) × Told P text before after a r.length) (eqb r.number 0)
      (λ p z.
      let n = eqb-true r.number 0 z in
      by_test (λ b. r.unfit ≡ b → (a : Answer) × Told P text before after a r.length) r.unfit (λ q u. (_, told_unfit n u)) (λ q u. (_, told_fit n u)) refl)
      (λ p z. (_, told_refused (eqb-false r.number 0 z))) refl

-- where none of 2 to 4 applies, the buffer holds the normal form
module _ (P : Permits) {text before after : List ℕ} {n : ℕ} (T : Told P text before after accepted n) where
  few : length text ≤ 256
  few = (clear_front P text (front_cleared P text (ap (λ (a : Answer). a.number) T.answer))).few

  pub told_size : n ≡ length (normal_form text)
  told_size = T.size ∙ ap length (shown_full text few)

  pub told_fits : n ≤ 256
  told_fits = omega (arith, told_size, few, no_longer text)

  pub told_form : take (n - 0) (drop 0 after) ≡ normal_form text
  told_form = rw (told_size, T.buffer, shown_full text few) (at_start (normal_form text) before)
