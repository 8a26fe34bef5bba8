-- The calls on a name answer a text with minus signs as they answer it with hyphens in their place (document 02, K2): what they answer is
-- made of the rows and the normal form, and these are the same.
-- Assumes nothing.
use mathlib.Core.Path.{◌≡◌, ap}
use mathlib.Core.List.{List}
use Prim.Native.Nat.{ℕ}
use lib.ListN.{length}
use Rattle.lists.specs.Rows.{Row}
use Rattle.rules.specs.Labels.{labels}
use Rattle.rules.specs.Permits.{Permits}
use Rattle.rules.specs.Verdicts.{Verdict}
use Rattle.rules.proofs.Minus.{with_hyphens, minus_length, minus_form, minus_rows, minus_rules}
use Rattle.fronts.specs.Fronts.{shown}
use Rattle.ascii.specs.Ascii.{ascii_form}
use Rattle.names.specs.Calls.{judged, Answers, checked, check_rows, Checks, ascii_formed, ascii_rows, AsciiForms}
use Rattle.names.specs.Calls.{AsciiForm}
use Rattle.names.specs.Calls.{Checked}

-- a call that writes, with the same struct, the same rows and the same to write
answers_alike : {R : Type 0} {make make' : Verdict → ℕ → R} {rows rows' : List Row} {xs xs' before after : List ℕ} {r : R} (t : List ℕ)
    → make ≡ make' → rows ≡ rows' → xs ≡ xs' → Answers make rows (with_hyphens t) xs before after r → Answers make' rows' t xs' before after r
answers_alike t m e f a = record { gives = rw (m, e, f, minus_form t) at a.gives }

module _ (P : Permits) (t : List ℕ) where
  pub minus_judged : judged P (with_hyphens t) ≡ judged P t
  unfolding judged shown
  minus_judged = rw (minus_rules P t, minus_form t, minus_length t)

  check_alike : (room : ℕ) → check_rows P (with_hyphens t) room ≡ check_rows P t room
  unfolding check_rows
  check_alike room = rw (minus_rows P t)

  ascii_alike : (room : ℕ) → ascii_rows P (with_hyphens t) room ≡ ascii_rows P t room
  unfolding ascii_rows
  ascii_alike room = rw (minus_rows P t, minus_form t)

  module _ {before after : List ℕ} where
    pub minus_checked : {r : Checked} → Checks P (with_hyphens t) before after r → Checks P t before after r
    minus_checked = answers_alike t (ap (λ (form : List ℕ). checked (labels form)) (minus_form t)) (check_alike (length before)) (minus_form t)

    pub minus_ascii : {r : AsciiForm} → AsciiForms P (with_hyphens t) before after r → AsciiForms P t before after r
    minus_ascii =
        let make : List ℕ → Verdict → ℕ → AsciiForm = λ form. ascii_formed P (labels form) in
        answers_alike t (ap make (minus_form t)) (ascii_alike (length before)) (ap (ascii_form P) (minus_form t))
