-- Of a name that an edition accepts the coder takes every Japanese label, since each has at most 15 characters (ascii, proofs/Coded). So
-- neither 13 nor 14 comes of an accepted name: row 14 never applies, and with room its ASCII form is given.
-- Assumes nothing.
use mathlib.Core.Path.{◌≡◌, refl, sym, ap, ◌∙◌}
use mathlib.Core.Bool.{Bool, true, false, not, or-true}
use mathlib.Core.List.{List, [], ◌∷◌, ◌++◌}
use Prim.Native.Nat.{ℕ, ◌≤◌}
use native.Mathlib.Omega.{arith}
use lib.Dec.{eqb, ltb}
use lib.ListN.{length}
use borrow.Author.Tests.{eqb-true, eqb-false, ltb-false, le-ltb, not-true}
use Rattle.lists.specs.Tests.{within, all_of, any_of}
use Rattle.lists.specs.Front.{written}
use Rattle.lists.specs.Rows.{Row, row, first, given}
use Rattle.lists.specs.Rows.{Answer}
use Rattle.lists.proofs.Laws.{all_not}
use Rattle.lists.proofs.Tables.{clear, clear_before, refused_before, hit, passed_over, of_rows}
use Rattle.characters.specs.Characters.{alnum, ascii_set}
use Rattle.normal.specs.Normal.{normal_form}
use Rattle.rules.specs.Labels.{labels}
use Rattle.rules.specs.Permits.{Permits, InStretch, ShortMiddles, label_char}
use Rattle.rules.specs.Rules.{jp, label_rows, name_rows, front_rows, text_rows, verdict, rules}
use Rattle.rules.specs.Editions.{edition_of, today}
use Rattle.rules.proofs.ByName.{text_cleared}
use Rattle.rules.proofs.Derived.{left_size, middle_length}
use Rattle.rules.proofs.Editions.{edition_stretch, edition_short}
use Rattle.ascii.specs.Ascii.{uncoded, ascii_form}
use Rattle.ascii.proofs.Coded.{label_fine}
use Rattle.names.specs.Calls.{ascii_rows, AsciiForms}
use Rattle.names.specs.Calls.{AsciiForm}
use Rattle.names.proofs.Enough.{each_label}

module _ (P : Permits) (stretch : InStretch P) where
  jp_chars : all_of (label_char P) jp ≡ true
  unfolding all_of label_char ascii_set alnum within jp
  jp_chars = simp or-true

  module _ (short : ShortMiddles P) (text : List ℕ) where
    pub no_14 : (rules P text).number ≡ 0 → any_of (uncoded P) (labels (normal_form text)) ≡ false
    unfolding rules verdict
    no_14 e =
        all_not (uncoded P) (labels (normal_form text))
        (each_label P (λ l. not (uncoded P l)) (λ l a k h. label_fine P stretch l a (λ q. rw q at (left_size P l k))) (λ l a m. label_fine P stretch l a (λ q. middle_length P short l m))
        (label_fine P stretch jp jp_chars (λ q. unfold jp in omega arith)) text (text_cleared P text e)).0

    -- with room the call for the ASCII form says what the rules say: to an accepted name row 14 does not apply, and of another a row before it is given
    pub ascii_first : (room : ℕ) → 192 ≤ room → first (ascii_rows P text room) ≡ first (text_rows P text)
    unfolding ascii_rows rules verdict
    ascii_first room h = passed_over 1 (ltb room 192) 0 (text_rows P text ++ last) (le-ltb room 192 h) ∙ go (eqb (first (text_rows P text)).number 0) refl
      where
        last : List Row
        last = row 14 (any_of (uncoded P) (labels (normal_form text))) 0 ∷ []

        go : (z : Bool) → eqb (first (text_rows P text)).number 0 ≡ z → first (text_rows P text ++ last) ≡ first (text_rows P text)
        go true q =
            let e = eqb-true _ 0 q in
            let c = text_cleared P text e in
            clear_before (text_rows P text) last c ∙ clear last (no_14 e, tt) ∙ sym (clear (text_rows P text) c)
        go false q = refused_before (text_rows P text) last (eqb-false _ 0 q)

    -- so of an accepted name it answers 0 and writes the form
    pub ascii_given : (rules P text).number ≡ 0 → (before after : List ℕ) (r : AsciiForm) → AsciiForms P text before after r → 192 ≤ length before
        → (r.number ≡ 0) × (after ≡ written (ascii_form P (normal_form text)) before)
    unfolding rules verdict given
    ascii_given e before after r a h =
        let p = ascii_first (length before) h ∙ clear (text_rows P text) (text_cleared P text e) in
        (ap (λ (x : AsciiForm). x.number) a.gives.result ∙ rw p, a.gives.buffer ∙ rw p)

    -- none of 2 to 12 and 17 is 14
    text_not_14 : eqb (first (text_rows P text)).number 14 ≡ false
    unfolding text_rows front_rows name_rows label_rows all_of
    text_not_14 = not-true _ (of_rows (λ (a : Answer). not (eqb a.number 14)) refl (text_rows P text) refl)

    row_never : (room : ℕ) → (first (ascii_rows P text room)).number ≡ 14 → ⊥
    unfolding ascii_rows
    row_never room e = go (ltb room 192) refl
      where
        go : (n : Bool) → ltb room 192 ≡ n → ⊥
        go true p = let k : (first (ascii_rows P text room)).number ≡ 1 = ap (λ (a : Answer). a.number) (hit 1 (ltb room 192) 0 _ p) in omega (arith, e)
        go false p = eqb-false _ 14 text_not_14 (sym (ap (λ (a : Answer). a.number) (ascii_first room (ltb-false room 192 p))) ∙ e)

    -- and of no text does it answer 14
    pub never_14 : (before after : List ℕ) (r : AsciiForm) → AsciiForms P text before after r → r.number ≡ 14 → ⊥
    unfolding verdict
    never_14 before after r a e = row_never (length before) (sym (ap (λ (x : AsciiForm). x.number) a.gives.result) ∙ e)

-- within each edition, and at the one in force
module _ (e : ℕ) where
  pub given_edition : (text before after : List ℕ) (r : AsciiForm) → (rules (edition_of e) text).number ≡ 0 → AsciiForms (edition_of e) text before after r
      → 192 ≤ length before → (r.number ≡ 0) × (after ≡ written (ascii_form (edition_of e) (normal_form text)) before)
  given_edition text before after r z = ascii_given (edition_of e) (edition_stretch e) (edition_short e) text z before after r

  pub never_14_edition : (text before after : List ℕ) (r : AsciiForm) → AsciiForms (edition_of e) text before after r → r.number ≡ 14 → ⊥
  never_14_edition = never_14 (edition_of e) (edition_stretch e) (edition_short e)

pub given_today : (text before after : List ℕ) (r : AsciiForm) → (rules today text).number ≡ 0 → AsciiForms today text before after r → 192 ≤ length before
    → (r.number ≡ 0) × (after ≡ written (ascii_form today (normal_form text)) before)
given_today = given_edition 4

pub never_14_today : (text before after : List ℕ) (r : AsciiForm) → AsciiForms today text before after r → r.number ≡ 14 → ⊥
never_14_today = never_14_edition 4
