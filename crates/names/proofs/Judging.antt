-- The judge: by an edition 2 to 4 are the front's (fronts, proofs/Fronting), and where none of them applies the buffer holds the normal form,
-- of which the rest of the rules speak.
-- Assumes nothing.
use mathlib.Core.Path.{◌≡◌, refl, sym, ap, ◌∙◌}
use mathlib.Core.Bool.{true, false}
use mathlib.Core.List.{List}
use Prim.Native.Nat.{ℕ, ◌-◌, ◌≤◌}
use native.Mathlib.Omega.{arith}
use lib.ListN.{length, take, drop, replicate, length-append}
use borrow.Author.Tests.{ne_eqb}
use Rattle.std.specs.Prelude.{Option, Some, None, Result, Ok, Err}
use Rattle.std.specs.Result.{MatchResult}
use Rattle.lists.specs.Front.{written}
use Rattle.refusals.specs.Refusals.{number_of}
use Rattle.refusals.specs.declared.Refused.{Refused}
use Rattle.refusals.proofs.Once.{number_not_0}
use Rattle.rules.specs.Labels.{labels}
use Rattle.rules.specs.Permits.{Permits}
use Rattle.rules.specs.Places.{label_places, places_said}
use Rattle.rules.specs.Rules.{by_labels, refused}
use Rattle.rules.specs.Verdicts.{Verdict}
use Rattle.rules.specs.declared.Class as one
use Rattle.rules.specs.declared.LabelPlaces.{LabelPlaces}
use Rattle.rules.proofs.Steps.{text_25, text_front, text_on}
use Rattle.fronts.specs.declared.Front.{Front}
use Rattle.fronts.specs.Fronts.{shown, Fronted, form_told, front_told, Fronts}
use Rattle.fronts.proofs.Shown.{padded_is}
use Rattle.fronts.proofs.Fronting.{told_refused, told_unfit, told_fit, told_some, told_form}
use Rattle.names.specs.Calls.{shown_told, judged}
use Rattle.names.specs.Steps.{Says, Ruled, ruled_told, Judges}
use Rattle.names.specs.declared.judges.Ruled as code
use Rattle.names.proofs.Answering.{accepted_as}

-- ---- by what the front told

module _ (P : Permits) {form : List ℕ} where
  -- with a number that is no edition 25 stands before it
  pub says_25 : P.known ≡ false → {f : Fronted} → Says P form f (refused 25 0)
  says_25 e text before room F = sym (text_25 P text e)

  module _ (there_is : P.known ≡ true) where
    pub says_refused : (x : Refused) → Says P form (front_told (Err x)) (refused (number_of x.why) x.place)
    says_refused x text before room F = sym (text_front P text (told_refused P F room (number_not_0 x.why)).answer there_is (number_not_0 x.why))

    pub says_unfit : (n p : ℕ) → Says P form (form_told n (Some p)) (refused 4 p)
    says_unfit n p text before room F = sym (text_front P text (told_unfit P F room refl refl).answer there_is (λ z. omega arith))

    -- where none of 2 to 4 applies the labels of the form have the rest
    pub says_labels : (n : ℕ) {v : Verdict} → v ≡ by_labels P (labels (take n form)) → Says P form (form_told n None) v
    says_labels n q text before room F =
        let T = told_fit P F room refl refl in
        let all : n - 0 ≡ n = omega arith in
        q ∙ ap (λ (l : List ℕ). by_labels P (labels l)) (rw all at (told_form P T)) ∙ sym (text_on P text T.answer there_is refl)

-- ---- what is left in the buffer

length_told : (n : ℕ) (p : Option ℕ) → n ≡ (form_told n p).length
length_told n None = refl
length_told n (Some p) = refl

pub told_length : (front : Result Front Refused) {n : ℕ} → MatchResult front (λ f. n ≡ f.length) (λ x. n ≡ 0) → n ≡ (front_told front).length
told_length (Ok f) e = e ∙ length_told f.length f.unfit
told_length (Err x) e = e

module _ (P : Permits) {text before after : List ℕ} {f : Fronted} (F : Fronts P text before after f) (room : 256 ≤ length before) where
  pub told_inside : f.length ≤ length after
  unfolding written
  told_inside =
      let T = (told_some P F room).1 in
      omega (arith, T.size, ap length T.buffer, length-append (shown text) (drop (length (shown text)) before))

  pub judges_as : {v : Verdict} {n : ℕ} → Says P after f v → n ≡ f.length
      → Judges P text before after (record { number = v.number; place = v.place; class = v.class; length = n })
  judges_as S e = let T = (told_some P F room).1 in record { result = rw (S text before room F, e, T.size); buffer = T.buffer }

-- ---- in an array of zeros, with where the labels of the form stand

module _ (P : Permits) (text : List ℕ) {after : List ℕ} {r : code.Ruled} (j : Judges P text (replicate 256 0) after (ruled_told r)) where
  pub judged_refused : {x : Refused} → r.said ≡ Err x → shown_told (Err x) after r.length ≡ judged P text
  unfolding judged places_said
  judged_refused {x} y =
      let q = rw y at j.result in
      rw (← ap (λ (i : Ruled). i.number) q, ← ap (λ (i : Ruled). i.place) q, ← ap (λ (i : Ruled). i.class) q, ap (λ (i : Ruled). i.length) q, j.buffer, padded_is (shown text), ne_eqb (number_of x.why) 0 (number_not_0 x.why))

  pub judged_accepted : {k : one.Class} → r.said ≡ Ok k → {places : LabelPlaces} → places ≡ label_places (labels (take r.length after))
      → shown_told (Ok (record { class = k; labels = places })) after r.length ≡ judged P text
  unfolding judged places_said
  judged_accepted y e =
      let q = rw y at j.result in
      rw (← ap (λ (i : Ruled). i.number) q, ← ap (λ (i : Ruled). i.place) q, ← ap (λ (i : Ruled). i.class) q, e, (accepted_as P text j y).form, ap (λ (i : Ruled). i.length) q, j.buffer, padded_is (shown text))
