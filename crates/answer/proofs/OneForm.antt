-- Two lines that are answered with 0 have the same fifth field exactly where their names have the same normal form: the second field says
-- the number, and the fifth is the ASCII form, which tells names apart (names, proofs/OneForm).
-- Assumes nothing.
use mathlib.Core.Path.{◌≡◌}
use mathlib.Core.List.{List, [], ◌∷◌}
use mathlib.Core.Logic.{◌↔◌}
use Prim.Native.Nat.{ℕ}
use Rattle.normal.specs.Normal.{normal_form}
use Rattle.rules.specs.Permits.{Permits}
use Rattle.rules.specs.Pretends.{PlainMiddles}
use Rattle.rules.specs.Editions.{today}
use Rattle.rules.proofs.Editions.{today_plain}
use Rattle.names.proofs.OneForm.{one_form, rows_give}
use Rattle.answer.specs.Answer.{text_of, answer_to}
use Rattle.answer.proofs.Fields.{field_of, form_field, zero_said}

module _ (P : Permits) (plain : PlainMiddles P) where
  pub one_field : (s t : List ℕ) → field_of 1 (answer_to P s) ≡ 0x30 ∷ [] → field_of 1 (answer_to P t) ≡ 0x30 ∷ []
      → (field_of 4 (answer_to P s) ≡ field_of 4 (answer_to P t)) ↔ (normal_form (text_of s) ≡ normal_form (text_of t))
  one_field s t p q =
      let a = zero_said P s p in
      let b = zero_said P t q in
      rw (form_field P s a.0 a.1, form_field P t b.0 b.1)
      (one_form P plain (text_of s) (text_of t) (rows_give P (text_of s) 192 a.1) (rows_give P (text_of t) 192 b.1))

-- at the edition in force
pub one_field_today : (s t : List ℕ) → field_of 1 (answer_to today s) ≡ 0x30 ∷ [] → field_of 1 (answer_to today t) ≡ 0x30 ∷ []
    → (field_of 4 (answer_to today s) ≡ field_of 4 (answer_to today t)) ↔ (normal_form (text_of s) ≡ normal_form (text_of t))
one_field_today = one_field today today_plain
