-- The fields of an answer line: no field holds a tab or an LF, so each is what the line was put together of.
-- Assumes nothing.
use mathlib.Core.Path.{◌≡◌, refl, sym, ap, ◌∙◌}
use mathlib.Core.Bool.{Bool, true, false, ◌||◌}
use mathlib.Core.List.{List, [], ◌∷◌, ◌++◌, append_assoc}
use Prim.Native.Nat.{ℕ, zero, suc, ◌+◌, ◌/◌, ◌%◌}
use native.Mathlib.Numerals.{add-one}
use native.Mathlib.Omega.{arith}
use lib.Dec.{leb, ltb}
use lib.ListN.{length, take, drop, get_or}
use lib.Seq.{take-append_seam, drop-append-add}
use borrow.Author.Tests.{le-leb, ne_eqb}
use Rattle.lists.specs.Tests.{pick, within, all_of, any_of, index_of}
use Rattle.lists.proofs.Laws.{both, all_append, all_none, differs}
use Rattle.lists.proofs.Scan.{first_past}
use Rattle.characters.specs.Characters.{alnum, hyphen, ascii_set}
use Rattle.normal.specs.Normal.{normal_form}
use Rattle.rules.specs.Labels.{period, labels}
use Rattle.rules.specs.Permits.{Permits, is_empty}
use Rattle.rules.specs.Kinds.{kinds_in, no_kinds}
use Rattle.rules.specs.Rules.{verdict}
use Rattle.rules.specs.declared.Kinds.{Kinds}
use Rattle.rules.specs.Verdicts.{Class}
use Rattle.rules.specs.Verdicts.{None, General, Prefecture}
use Rattle.ascii.specs.Ascii.{ascii_form, in_form}
use Rattle.names.specs.Calls.{kinds_said, FormGiven}
use Rattle.names.proofs.OneForm.{given_ascii, rows_give}
use Rattle.lines.specs.Lines.{lf}
use Rattle.lines.specs.Fields.{tab, id_of, id_byte, good_id}
use Rattle.answer.specs.Answer.{bad_line, decimal_by, decimal, reading, letter, kind_letters, kind_field, answer_line, refused_answer, bad_answer, text_of, good_answer, answer_to}
use Rattle.answer.proofs.Digits.{said_full, answered, number_said}
use Rattle.answer.proofs.Longest.{good_id_lem}
use Rattle.answer.proofs.Pieces.{all_field}

-- ---- a field ends at a tab or at the LF

unfoldable pub ends : ℕ → Bool
ends b = tab b || lf b

-- the one of index n, from 0
unfoldable pub field_of : ℕ → List ℕ → List ℕ
field_of zero line = take (index_of ends line) line
field_of (suc n) line = field_of n (drop (suc (index_of ends line)) line)

-- bytes of which a test holds that fails of both
no_end : (f : ℕ → Bool) → f 0x09 ≡ false → f 0x0A ≡ false → (xs : List ℕ) → all_of f xs ≡ true → any_of ends xs ≡ false
unfolding ends tab lf
no_end f p q = all_none f ends (λ c h. rw (differs f 0x09 p c h, differs f 0x0A q c h))

module _ (xs : List ℕ) (none : any_of ends xs ≡ false) (c : ℕ) (ys : List ℕ) (e : ends c ≡ true) where
  end_is : index_of ends (xs ++ c ∷ ys) ≡ length xs
  end_is = first_past ends xs c ys none e

  here : field_of 0 (xs ++ c ∷ ys) ≡ xs
  unfolding field_of
  here = rw end_is (take-append_seam xs (c ∷ ys))

  next : (n : ℕ) → field_of (suc n) (xs ++ c ∷ ys) ≡ field_of n ys
  unfolding field_of
  next n = rw (end_is, ← add-one (length xs), drop-append-add xs (c ∷ ys) 1)

-- ---- no field holds an end

digits_from : (f n : ℕ) → all_of (leb 0x30) (decimal_by f n) ≡ true
unfolding decimal_by all_of
digits_from zero n = refl
digits_from (suc f) n = go (ltb n 10) (digits_from f (n / 10))
  where
    go : (b : Bool) → all_of (leb 0x30) (decimal_by f (n / 10)) ≡ true → all_of (leb 0x30) (pick b ((0x30 + n) ∷ []) (decimal_by f (n / 10) ++ ((0x30 + n % 10) ∷ []))) ≡ true
    go true on = rw (le-leb 0x30 (0x30 + n) (omega arith))
    go false on = all_append (leb 0x30) (decimal_by f (n / 10)) _ ∙ rw (on, le-leb 0x30 (0x30 + n % 10) (omega arith))

number_none : (n : ℕ) → any_of ends (decimal n) ≡ false
unfolding decimal
number_none n = no_end (leb 0x30) refl refl (decimal_by 3 n) (digits_from 3 n)

letter_none : (k : Class) → any_of ends (letter k ∷ []) ≡ false
unfolding ends tab lf any_of letter
letter_none General = refl
letter_none Prefecture = refl
letter_none None = refl

id_none : (line : List ℕ) → bad_line line ≡ false → any_of ends (id_of line) ≡ false
unfolding good_id id_byte within
id_none line g = no_end id_byte refl refl (id_of line) (both (within 1 32 (length (id_of line))) _ (good_id_lem line g)).1

form_none : (P : Permits) {text : List ℕ} → FormGiven P text → any_of ends (ascii_form P (normal_form text)) ≡ false
unfolding in_form ascii_set alnum hyphen within period
form_none P {text} G = no_end in_form refl refl (ascii_form P (normal_form text)) (given_ascii P G)

kinds_none : (ks : Kinds) → any_of ends (kind_field ks) ≡ false
kinds_none ks = no_end (leb 0x2D) refl refl (kind_field ks) (all_field ks)

-- ---- the second, the fifth and the sixth of them

module _ (id : List ℕ) (none : any_of ends id ≡ false) (n p : ℕ) (k : Class) (form : List ℕ) (ks : Kinds) where
  laid : answer_line id n p k form ks ≡ id ++ 0x09 ∷ (decimal n ++ 0x09 ∷ (decimal p ++ 0x09 ∷ (letter k ∷ 0x09 ∷ (form ++ 0x09 ∷ (kind_field ks ++ 0x0A ∷ [])))))
  unfolding answer_line
  laid = simp append_assoc

  second : field_of 1 (answer_line id n p k form ks) ≡ decimal n
  unfolding ends tab lf
  second = ap (field_of 1) laid ∙ next id none 0x09 _ refl 0 ∙ here (decimal n) (number_none n) 0x09 _ refl

  module _ (f : any_of ends form ≡ false) where
    from_form : (m : ℕ) → field_of (suc (suc (suc (suc m)))) (answer_line id n p k form ks) ≡ field_of m (form ++ 0x09 ∷ (kind_field ks ++ 0x0A ∷ []))
    unfolding ends tab lf
    from_form m =
        ap (field_of (suc (suc (suc (suc m))))) laid
        ∙ next id none 0x09 _ refl (suc (suc (suc m)))
        ∙ next (decimal n) (number_none n) 0x09 _ refl (suc (suc m))
        ∙ next (decimal p) (number_none p) 0x09 _ refl (suc m)
        ∙ next (letter k ∷ []) (letter_none k) 0x09 _ refl m

    fifth : field_of 4 (answer_line id n p k form ks) ≡ form
    unfolding ends tab lf
    fifth = from_form 0 ∙ here form f 0x09 _ refl

    sixth : field_of 5 (answer_line id n p k form ks) ≡ kind_field ks
    unfolding ends tab lf
    sixth = from_form 1 ∙ next form f 0x09 _ refl 0 ∙ here (kind_field ks) (kinds_none ks) 0x0A [] refl

-- ---- the answer to a line

-- the leftmost label of the name that a line holds
abbrev pub leftmost_of : List ℕ → List ℕ
leftmost_of line = get_or (labels (normal_form (text_of line))) 0 []

module _ (P : Permits) (line : List ℕ) where
  module _ (g : bad_line line ≡ false) where
    number_field : field_of 1 (answer_to P line) ≡ decimal (answered P (text_of line)).number
    unfolding answer_to good_answer verdict
    number_field = rw g (second (id_of line) (id_none line g) _ _ _ _ _)

    pub form_field : (answered P (text_of line)).number ≡ 0 → field_of 4 (answer_to P line) ≡ ascii_form P (normal_form (text_of line))
    unfolding answer_to good_answer
    form_field z = rw (g, z) (fifth (id_of line) (id_none line g) _ _ _ (ascii_form P (normal_form (text_of line))) _ (form_none P (rows_give P (text_of line) 192 z)))

    pub kinds_field : (answered P (text_of line)).number ≡ 0 → field_of 5 (answer_to P line) ≡ kind_field (kinds_in P (leftmost_of line))
    unfolding answer_to good_answer verdict kinds_said
    kinds_field z = rw (g, z) (sixth (id_of line) (id_none line g) _ _ _ (ascii_form P (normal_form (text_of line))) _ (form_none P (rows_give P (text_of line) 192 z)))

  -- a line whose second field is 0 is not bad, and the number of its name is 0
  pub zero_said : field_of 1 (answer_to P line) ≡ 0x30 ∷ [] → (bad_line line ≡ false) × ((answered P (text_of line)).number ≡ 0)
  unfolding ends tab lf any_of answer_to bad_answer refused_answer reading
  zero_said e = go (bad_line line) refl
    where
      go : (b : Bool) → bad_line line ≡ b → (bad_line line ≡ false) × ((answered P (text_of line)).number ≡ 0)
      go true g =
          let bad : field_of 1 (answer_to P line) ≡ decimal 16 = rw g (second (0x2D ∷ []) refl 16 0 None (0x2D ∷ []) no_kinds) in
          absurd (omega (arith, said_full 16 (omega arith), ap (reading 0) (sym bad ∙ e)))
      go false g = (g, sym (number_said P (text_of line)) ∙ ap (reading 0) (sym (number_field g) ∙ e))

  -- of any other line the sixth field is a hyphen
  pub sixth_refused : (field_of 1 (answer_to P line) ≡ 0x30 ∷ [] → ⊥) → field_of 5 (answer_to P line) ≡ 0x2D ∷ []
  unfolding ends tab lf any_of answer_to bad_answer refused_answer good_answer verdict kinds_said kind_field kind_letters is_empty decimal decimal_by
  sixth_refused h = go (bad_line line) refl
    where
      go : (b : Bool) → bad_line line ≡ b → field_of 5 (answer_to P line) ≡ 0x2D ∷ []
      go true g = rw g (sixth (0x2D ∷ []) refl 16 0 None (0x2D ∷ []) no_kinds refl)
      go false g =
          let n : (answered P (text_of line)).number ≡ 0 → ⊥ = λ z. h (number_field g ∙ ap decimal z) in
          rw (g, ne_eqb (answered P (text_of line)).number 0 n) (sixth (id_of line) (id_none line g) _ _ None (0x2D ∷ []) no_kinds refl)
