-- Whether a text may yet become a name: each return of the code is a case of the definition.
-- Assumes nothing.
use mathlib.Core.Path.{◌≡◌, refl, sym, ap, ◌∙◌}
use mathlib.Core.Bool.{Bool, true, false, not, ◌&&◌, ◌||◌, or-false, true≢false}
use mathlib.Core.List.{List, [], ◌∷◌, ◌++◌, append-nil}
use mathlib.Core.Logic.{⊎_elim}
use Prim.Native.Nat.{ℕ, ◌-◌, ◌≤◌, ◌<◌}
use native.Mathlib.Omega.{arith}
use lib.ListN.{length, take, length-append}
use lib.Dec.{eqb}
use borrow.Author.Tests.{not-true, ne_eqb}
use Rattle.std.specs.Prelude.{Option, Some, None, is_some, Result, Ok, Err, is_ok}
use Rattle.lists.specs.Tests.{within, any_of}
use Rattle.lists.specs.Rows.{Answer, accepted, first, Clear}
use Rattle.refusals.specs.Refusals.{number_of, told}
use Rattle.refusals.specs.declared.Refused.{Refused}
use Rattle.refusals.proofs.Once.{number_not_0}
use Rattle.lists.proofs.Laws.{both, refuted, clash, lt_or_le}
use Rattle.lists.proofs.Tables.{clear}
use Rattle.characters.specs.Characters.{hyphen, kinds, stretch, kind_among, kind_by, any_kind, kind_with}
use Rattle.normal.specs.Normal.{replaced_from, compose, normal_placed, normal_form}
use Rattle.rules.specs.Labels.{labels}
use Rattle.rules.specs.Permits.{Permits, ShortMiddles, ja_char}
use Rattle.rules.specs.Rules.{unfit, is_middle_dot, is_japanese, begins_with_hyphen, ends_with_hyphen, hyphen_edge, short, long, hyphen_pair, pretends, bare_dot, label_rows, front_rows}
use Rattle.rules.specs.Editions.{edition_with}
use Rattle.rules.specs.Hopeful.{leftmost, tries, grows, hopeful}
use Rattle.rules.proofs.ByName.{clear_front, front_clear, front_cleared}
use Rattle.rules.proofs.Hopeless.{leftmost_length, past_hope}
use Rattle.fronts.specs.Fronts.{form_told, Fronts}
use Rattle.fronts.proofs.Fronting.{Told, told_unfit, told_fit, told_form}

-- what is told of a result says whether it accepts
pub accepted_is : (r : Result (Unit {0}) Refused) → is_ok r ≡ eqb (told r).number 0
accepted_is (Ok x) = refl
accepted_is (Err e) = sym (ne_eqb (number_of e.why) 0 (number_not_0 e.why))

-- ---- one character more

module _ (P : Permits) (l : List ℕ) (c : ℕ) where
  pub too_long : 63 < length l → false ≡ leftmost P (l ++ c ∷ [])
  too_long h = sym (refuted (leftmost P (l ++ c ∷ [])) (λ e. omega (arith, leftmost_length P (l ++ c ∷ []) e, length-append l (c ∷ []))))

-- ---- one label

-- as it is, with a hiragana more, with a letter more
pub one_tries : (P : Permits) (l : List ℕ) → grows P (l ∷ []) ≡ leftmost P l || (leftmost P (l ++ 0x3042 ∷ []) || leftmost P (l ++ 0x61 ∷ []))
unfolding grows tries any_of
one_tries P l = rw (append-nil, or-false (leftmost P (l ++ 0x61 ∷ [])))

-- ---- the labels of a form

module _ (P : Permits) where
  -- four labels or more
  pub four_not : (ls : List (List ℕ)) → 3 < length ls → false ≡ grows P ls
  unfolding grows
  four_not [] h = absurd (omega arith)
  four_not (l ∷ []) h = absurd (omega arith)
  four_not (l ∷ m ∷ []) h = absurd (omega arith)
  four_not (l ∷ m ∷ z ∷ []) h = absurd (omega arith)
  four_not (l ∷ m ∷ z ∷ y ∷ ls) h = refl

-- ---- a text

-- by no edition any may
pub not_known : (P : Permits) (text : List ℕ) → P.known ≡ false → false ≡ hopeful P text
unfolding hopeful
not_known P text e = rw e

pub nothing_yet : (table : List ℕ) (edition : ℕ) (text : List ℕ) → (edition_with table edition).known ≡ true → length text ≡ 0
    → true ≡ hopeful (edition_with table edition) text
unfolding hopeful normal_form normal_placed replaced_from compose labels grows tries any_of leftmost first label_rows hyphen_edge begins_with_hyphen ends_with_hyphen short long hyphen_pair pretends bare_dot is_japanese is_middle_dot hyphen edition_with ja_char kind_with kinds stretch kind_among kind_by any_kind within
nothing_yet table edition [] k h = rw k
nothing_yet table edition (x ∷ xs) k h = absurd (omega arith)

module _ (P : Permits) (shorts : ShortMiddles P) where
  -- what 2 to 4 refuse, but for a text with nothing in it yet, has no hope
  no_front : (text : List ℕ) → 1 ≤ length text → hopeful P text ≡ true → Clear (front_rows P text)
  unfolding hopeful
  no_front text some e =
      let k = both (not (any_of (unfit P) (normal_form text))) _ (both P.known _ e).1 in
      let few : length text ≤ 256 =
      ⊎_elim (λ g. clash e (unfold hopeful in past_hope P shorts text g)) (λ g. g) (lt_or_le 256 (length text)) in
      front_clear P text (record { some = some; few = few; fit = not-true (any_of (unfit P) (normal_form text)) k.0 })

  pub no_hope : {text before after : List ℕ} {n : ℕ} {a : Answer} → Told P text before after a n → (length text ≡ 0 → ⊥) → (a.number ≡ 0 → ⊥) → false ≡ hopeful P text
  no_hope {text} T some h =
      sym (refuted (hopeful P text) (λ e. h (ap (λ (x : Answer). x.number) (sym T.answer ∙ clear (front_rows P text) (no_front text (omega arith) e)))))

  module _ {text before after : List ℕ} (room : 256 ≤ length before) (n : ℕ) where
    -- the front accepts, and the form holds something unfit, or nothing
    pub unfit_lost : (p : Option ℕ) → Fronts P text before after (form_told n p) → is_some p ≡ true → (length text ≡ 0 → ⊥) → false ≡ hopeful P text
    unfit_lost None F e some = absurd (true≢false (sym e))
    unfit_lost (Some p) F e some = no_hope (told_unfit P F room refl refl) some (λ z. omega arith)

    pub all_fit : (p : Option ℕ) → Fronts P text before after (form_told n p) → is_some p ≡ false → Told P text before after accepted n
    all_fit None F e = told_fit P F room refl refl
    all_fit (Some p) F e = absurd (true≢false e)

  pub front_hope : P.known ≡ true → {text before after : List ℕ} {n : ℕ} {b : Bool} (T : Told P text before after accepted n) → b ≡ grows P (labels (take n after)) → b ≡ hopeful P text
  unfolding hopeful
  front_hope there_is {text} {before} {after} {n} T q =
      let all : n - 0 ≡ n = omega arith in
      let fit = (clear_front P text (front_cleared P text (ap (λ (a : Answer). a.number) T.answer))).fit in
      let form = normal_form text in
      q ∙ ap (λ (l : List ℕ). grows P (labels l)) (rw all at (told_form P T))
      ∙ sym (ap (λ (b : Bool). b && (not (any_of (unfit P) form) && grows P (labels form))) there_is ∙ ap (λ (b : Bool). not b && grows P (labels form)) fit)
