-- Three digits say all of a number below 1,000, and no number or place of an answer is larger: a place is an index of a text of at
-- most 256 code points, or of at most three labels, or 256 itself.
-- Assumes nothing.
use mathlib.Core.Path.{◌≡◌, refl, ap}
use mathlib.Core.Bool.{Bool, true, false, not, ◌&&◌, ◌||◌}
use mathlib.Core.List.{List, [], ◌∷◌}
use mathlib.Core.Logic.{⊎_elim}
use Prim.Native.Nat.{ℕ, ◌/◌, ◌≤◌, ◌<◌}
use native.Mathlib.Omega.{arith}
use lib.Dec.{eqb, leb, ltb}
use lib.ListN.{length, get_or}
use borrow.Author.Tests.{eqb-true, le-leb, leb-true}
use Rattle.lists.specs.Tests.{all_of, any_of, index_of}
use Rattle.lists.specs.Rows.{Row, row, first}
use Rattle.lists.specs.Rows.{Answer}
use Rattle.lists.proofs.Laws.{either, lt_or_le, index_bound}
use Rattle.lists.proofs.Tables.{of_two, of_rows, only, never_given}
use Rattle.normal.specs.Normal.{normal_form, places}
use Rattle.normal.proofs.Origins.{began_inside}
use Rattle.rules.specs.Labels.{labels}
use Rattle.rules.specs.Permits.{Permits, is_empty}
use Rattle.rules.specs.Rules.{unfit, label_rows, name_rows, front_rows, text_rows, verdict}
use Rattle.rules.specs.Verdicts.{Verdict}
use Rattle.rules.proofs.Derived.{two_or_three}
use Rattle.rules.proofs.Steps.{front_3, name_5}
use Rattle.ascii.specs.Ascii.{uncoded}
use Rattle.names.specs.Calls.{ascii_rows}
use Rattle.answer.specs.Answer.{decimal, reading}
use Rattle.answer.proofs.Pieces.{one_digit, two_digits, three_digits}

pub said_full : (n : ℕ) → n < 1000 → reading 0 (decimal n) ≡ n
unfolding reading
said_full n h =
    ⊎_elim (λ a. rw (one_digit n a) (omega arith))
    (λ a. ⊎_elim (λ b. rw (two_digits n a b) (omega arith)) (λ b. rw (three_digits n a b) (omega arith)) (lt_or_le (n / 10) 10))
    (lt_or_le n 10)

-- ---- the rows

abbrev Near : Answer → Type 0
Near a = a.place ≤ 256

-- every row is near, so the answer is
all_near : (rows : List Row) → all_of (λ (r : Row). leb r.place 256) rows ≡ true → Near (first rows)
all_near rows w = leb-true _ 256 (of_rows (λ (a : Answer). leb a.place 256) refl rows w)

module _ (P : Permits) where
  pub front_near : (text : List ℕ) → (first (front_rows P text)).place ≤ 256
  unfolding front_rows all_of
  front_near text = ⊎_elim (λ g. rw (front_3 P text (λ e. omega arith) g) (omega arith)) small (lt_or_le 256 (length text))
    where
      small : length text ≤ 256 → Near (first (front_rows P text))
      small h = all_near (front_rows P text) (rw (le-leb (get_or (places text) (index_of (unfit P) (normal_form text)) 0) 256 (omega (arith, began_inside text (index_of (unfit P) (normal_form text))))))

  name_near : (ls : List (List ℕ)) → Near (first (name_rows P ls))
  unfolding name_rows label_rows all_of verdict
  name_near ls = go (eqb (length ls) 2 || (P.three && eqb (length ls) 3)) refl
    where
      few : eqb (length ls) 2 || (P.three && eqb (length ls) 3) ≡ true → index_of is_empty ls ≤ 256
      few e = ⊎_elim (λ n. omega (arith, index_bound is_empty ls)) (λ n. omega (arith, index_bound is_empty ls)) (two_or_three (length ls) P.three e)

      go : (b : Bool) → eqb (length ls) 2 || (P.three && eqb (length ls) 3) ≡ b → Near (first (name_rows P ls))
      go true e = all_near (name_rows P ls) (rw (le-leb (index_of is_empty ls) 256 (few e)))
      go false e = omega (arith, ap (λ (v : Verdict). v.place) (name_5 P ls e))

  pub text_near : (text : List ℕ) → (first (text_rows P text)).place ≤ 256
  unfolding text_rows all_of
  text_near text =
      of_two Near (row 25 (not P.known) 0 ∷ []) _ (all_near (row 25 (not P.known) 0 ∷ []) refl)
      (of_two Near (front_rows P text) _ (front_near text) (name_near (labels (normal_form text))))

pub place_bound : (P : Permits) (text : List ℕ) (room : ℕ) → (first (ascii_rows P text room)).place ≤ 256
unfolding ascii_rows all_of
place_bound P text room =
    of_two Near (row 1 (ltb room 192) 0 ∷ []) _ (all_near (row 1 (ltb room 192) 0 ∷ []) refl)
    (of_two Near (text_rows P text) _ (text_near P text) (all_near (row 14 (any_of (uncoded P) (labels (normal_form text))) 0 ∷ []) refl))

-- 25 is the largest, and by an edition that there is 17; a bad line has 16
pub number_bound : (P : Permits) (text : List ℕ) (room : ℕ) → (first (ascii_rows P text room)).number ≤ 25
unfolding ascii_rows text_rows front_rows name_rows label_rows all_of
number_bound P text room = leb-true _ 25 (of_rows (λ (a : Answer). leb a.number 25) refl (ascii_rows P text room) refl)

pub known_bound : (P : Permits) (text : List ℕ) (room : ℕ) → P.known ≡ true → (first (ascii_rows P text room)).number ≤ 17
unfolding ascii_rows text_rows front_rows name_rows label_rows all_of only
known_bound P text room k =
    either _ _ (of_rows (λ (a : Answer). leb a.number 17 || eqb a.number 25) refl (ascii_rows P text room) refl) (leb-true _ 17)
    (λ e. absurd (never_given 25 (λ z. omega arith) (ascii_rows P text room) (ap not k, tt) (eqb-true _ 25 e)))

-- ---- so the digits of an answer say its number and its place

module _ (P : Permits) (text : List ℕ) where
  abbrev pub answered : Answer
  answered = first (ascii_rows P text 192)

  pub number_said : reading 0 (decimal answered.number) ≡ answered.number
  number_said = said_full answered.number (omega (arith, number_bound P text 192))

  pub place_said : reading 0 (decimal answered.place) ≡ answered.place
  place_said = said_full answered.place (omega (arith, place_bound P text 192))
