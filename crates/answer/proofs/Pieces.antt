-- The pieces of an answer line: a number has one to three digits, each of which is the last digit of a quotient; the kinds have a letter
-- each, or a hyphen where there is none.
-- Assumes nothing.
use mathlib.Core.Path.{◌≡◌, refl, sym, ap, ◌∙◌}
use mathlib.Core.Bool.{Bool, true, false}
use mathlib.Core.List.{List, [], ◌∷◌, ◌++◌, append_assoc}
use mathlib.Core.Logic.{⊎_elim}
use Prim.Native.Nat.{ℕ, ◌+◌, ◌/◌, ◌%◌, ◌≤◌, ◌<◌}
use native.Mathlib.Omega.{arith}
use lib.Dec.{leb, ltb}
use lib.ListN.{length, length-append}
use borrow.Author.Tests.{ne_eqb, lt-ltb, le-ltb}
use Rattle.lists.specs.Tests.{pick, all_of}
use Rattle.lists.specs.Front.{Puts}
use Rattle.lists.proofs.Laws.{lt_or_le, by_test, all_append, no_entries}
use Rattle.lists.proofs.Pieces.{stays}
use Rattle.characters.specs.Characters.{kind_letter}
use Rattle.characters.specs.Kinds.{Kind}
use Rattle.characters.specs.Kinds.{Hiragana, Katakana, Kanji, Sign, None}
use Rattle.rules.specs.Permits.{is_empty}
use Rattle.rules.proofs.Steps.{empty_is}
use Rattle.rules.specs.Verdicts.{Class}
use Rattle.rules.specs.declared.Kinds.{Kinds}
use Rattle.answer.specs.Answer.{decimal_by, decimal, letter, letter_if, kind_letters, kind_field, answer_line, refused_answer}
use Rattle.answer.specs.Answers.{front_of, before_form, after_form}

-- ---- a number by its digits, each of which is the last digit of a quotient

module _ (x : ℕ) where
  pub one_digit : x < 10 → decimal x ≡ (0x30 + x % 10) ∷ []
  unfolding decimal decimal_by
  one_digit h =
      let z : x % 10 ≡ x = omega arith in
      rw (lt-ltb x 10 h, z)

  module _ (h : 10 ≤ x) where
    pub two_digits : x / 10 < 10 → decimal x ≡ ((0x30 + x / 10 % 10) ∷ []) ++ ((0x30 + x % 10) ∷ [])
    unfolding decimal decimal_by
    two_digits g =
        let z : x / 10 % 10 ≡ x / 10 = omega arith in
        rw (le-ltb x 10 h, lt-ltb (x / 10) 10 g, z)

    hundreds : pick (ltb (x / 10 / 10) 10) ((0x30 + x / 10 / 10) ∷ []) ([] ++ ((0x30 + x / 10 / 10 % 10) ∷ [])) ≡ (0x30 + x / 10 / 10 % 10) ∷ []
    hundreds =
        ⊎_elim (λ k. let z : x / 10 / 10 % 10 ≡ x / 10 / 10 = omega arith in rw (lt-ltb (x / 10 / 10) 10 k, z)) (λ k. rw (le-ltb (x / 10 / 10) 10 k))
        (lt_or_le (x / 10 / 10) 10)

    pub three_digits : 10 ≤ x / 10 → decimal x ≡ ((0x30 + x / 10 / 10 % 10) ∷ []) ++ ((0x30 + x / 10 % 10) ∷ []) ++ ((0x30 + x % 10) ∷ [])
    unfolding decimal decimal_by
    three_digits g = rw (le-ltb x 10 h, le-ltb (x / 10) 10 g) (ap (λ (l : List ℕ). l ++ ((0x30 + x / 10 % 10) ∷ []) ++ ((0x30 + x % 10) ∷ [])) hundreds)

pub decimal_length : (x : ℕ) → length (decimal x) ≤ 3
decimal_length x =
    ⊎_elim (λ h. rw (one_digit x h) (omega arith))
    (λ h. ⊎_elim (λ g. rw (two_digits x h g) (omega arith)) (λ g. rw (three_digits x h g) (omega arith)) (lt_or_le (x / 10) 10))
    (lt_or_le x 10)

pub front_length : (id : List ℕ) (number place : ℕ) → length (front_of id number place) ≤ length id + 9
unfolding front_of
front_length id number place = simp length-append (omega (arith, decimal_length number, decimal_length place))

-- ---- the kinds

found_length : (found : Bool) (letter : ℕ) → length (pick found (letter ∷ []) []) ≤ 1
found_length true letter = omega arith
found_length false letter = omega arith

-- a letter at most for each kind
pub each_length : (ks : Kinds) → (length (letter_if ks.hiragana Hiragana) ≤ 1) × ((length (letter_if ks.katakana Katakana) ≤ 1) × ((length (letter_if ks.kanji Kanji) ≤ 1) × (length (letter_if ks.sign Sign) ≤ 1)))
each_length ks =
    (found_length ks.hiragana (kind_letter Hiragana), (found_length ks.katakana (kind_letter Katakana), (found_length ks.kanji (kind_letter Kanji), found_length ks.sign (kind_letter Sign))))

letters_length : (ks : Kinds) → length (kind_letters ks) ≤ 4
unfolding kind_letters
letters_length ks = simp length-append (omega (arith, each_length ks))

-- no letter of a kind, and not the hyphen, is a control character
letters_from : (found : Bool) (k : Kind) → all_of (leb 0x2D) (letter_if found k) ≡ true
unfolding all_of kind_letter
letters_from false k = refl
letters_from true Hiragana = refl
letters_from true Katakana = refl
letters_from true Kanji = refl
letters_from true Sign = refl
letters_from true None = refl

all_letters : (ks : Kinds) → all_of (leb 0x2D) (kind_letters ks) ≡ true
unfolding kind_letters
all_letters ks = simp (all_append, letters_from)

pub all_field : (ks : Kinds) → all_of (leb 0x2D) (kind_field ks) ≡ true
unfolding kind_field all_of
all_field ks = by_test (λ b. all_of (leb 0x2D) (pick b (0x2D ∷ []) (kind_letters ks)) ≡ true) (is_empty (kind_letters ks)) (λ e. refl) (λ e. all_letters ks)

-- letters were put exactly where the place has moved
module _ (ks : Kinds) {before after : List ℕ} {n r : ℕ} (p : Puts (kind_letters ks) before after n r) where
  pub letters_put : (r ≡ n → ⊥) → Puts (kind_field ks) before after n r
  unfolding kind_field
  letters_put h = rw (empty_is (kind_letters ks), ne_eqb (length (kind_letters ks)) 0 (λ z. h (omega (arith, p.place)))) p

  pub hyphen_put : r ≡ n → {after' : List ℕ} {m : ℕ} → Puts (0x2D ∷ []) after after' n m → Puts (kind_field ks) before after' n m
  unfolding kind_field is_empty
  hyphen_put e q =
      let none = no_entries (kind_letters ks) (omega (arith, p.place)) in
      let kept : after ≡ before = p.buffer ∙ rw (none, e) (sym (stays {before = before} {n = n} (omega (arith, p.room))).buffer) in
      rw none (rw kept at q)

pub field_length : (ks : Kinds) → length (kind_field ks) ≤ 4
unfolding kind_field
field_length ks = go (is_empty (kind_letters ks))
  where
    go : (b : Bool) → length (pick b (0x2D ∷ []) (kind_letters ks)) ≤ 4
    go true = omega arith
    go false = letters_length ks

-- ---- the line around the form

pub front_zero : (id : List ℕ) → length (front_of id 0 0) ≡ length id + 5
unfolding front_of decimal decimal_by
front_zero id = simp length-append (omega arith)

pub before_length : (id : List ℕ) (class : Class) → length (before_form id class) ≡ length id + 7
unfolding before_form
before_length id class = simp length-append (omega (arith, front_zero id))

pub accepted_laid : (id : List ℕ) (class : Class) (form : List ℕ) (ks : Kinds) → answer_line id 0 0 class form ks ≡ before_form id class ++ form ++ after_form ks
unfolding answer_line before_form after_form front_of
accepted_laid id class form ks = simp append_assoc

-- ---- a refusal

pub refused_laid : (id : List ℕ) (number place : ℕ) → refused_answer id number place ≡ front_of id number place ++ (0x2D ∷ 0x09 ∷ 0x2D ∷ 0x09 ∷ 0x2D ∷ 0x0A ∷ [])
unfolding refused_answer answer_line front_of letter kind_field kind_letters is_empty
refused_laid id number place = simp append_assoc
