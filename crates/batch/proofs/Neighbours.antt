-- A line costs its neighbours nothing: an LF ends the line at hand, so what stands after it is read as if nothing stood before.
-- Assumes nothing.
use mathlib.Core.Path.{◌≡◌, refl, sym, ap, ◌∙◌}
use mathlib.Core.Bool.{Bool}
use mathlib.Core.List.{List, [], ◌∷◌, ◌++◌, append_assoc, append-nil}
use Prim.Native.Nat.{ℕ}
use lib.Dec.{eqb}
use Rattle.lists.specs.Tests.{pick}
use Rattle.lists.proofs.Laws.{by_test}
use Rattle.lines.specs.Lines.{lf, lines_from, lines}
use Rattle.batch.specs.Batch.{answers, batch}
use Rattle.batch.proofs.Cuts.{Unbroken, lines_unbroken}

-- ---- the lines of an input: empty input has none; bytes without LF are one, and with an LF after them the first

pub no_lines : lines [] ≡ []
unfolding lines lines_from
no_lines = refl

pub last_line : (b : ℕ) (p : List ℕ) → Unbroken (b ∷ p) → lines (b ∷ p) ≡ (b ∷ p) ∷ []
unfolding lines lines_from
last_line b p k = ap (lines_from []) (sym (append-nil (b ∷ p))) ∙ lines_unbroken [] (b ∷ p) k []

pub first_line : (p : List ℕ) → Unbroken p → (s : List ℕ) → lines (p ++ 0x0A ∷ s) ≡ p ∷ lines s
unfolding lf lines lines_from
first_line p k s = lines_unbroken [] p k (0x0A ∷ s)

-- ---- the batch of an input that is cut after an LF, and of one with a line between two others

cut_at : (q x y : List ℕ) → lines_from q (x ++ 0x0A ∷ y) ≡ lines_from q (x ++ 0x0A ∷ []) ++ lines y
unfolding lf lines lines_from
cut_at q [] y = refl
cut_at q (b ∷ x) y =
    by_test (λ (z : Bool). pick z (q ∷ lines_from [] (x ++ 0x0A ∷ y)) (lines_from (q ++ b ∷ []) (x ++ 0x0A ∷ y))
    ≡ pick z (q ∷ lines_from [] (x ++ 0x0A ∷ [])) (lines_from (q ++ b ∷ []) (x ++ 0x0A ∷ [])) ++ lines_from [] y)
    (eqb b 0x0A) (λ e. ap (λ (r : List (List ℕ)). q ∷ r) (cut_at [] x y)) (λ e. cut_at (q ++ b ∷ []) x y)

answers_append : (answer : List ℕ → List ℕ) (ls ms : List (List ℕ)) → answers answer (ls ++ ms) ≡ answers answer ls ++ answers answer ms
unfolding answers
answers_append answer [] ms = refl
answers_append answer (l ∷ ls) ms =
    ap (λ (r : List ℕ). answer l ++ r) (answers_append answer ls ms) ∙ sym (append_assoc (answer l) (answers answer ls) (answers answer ms))

module _ (answer : List ℕ → List ℕ) where
  pub cut_anywhere : (x y : List ℕ) → batch answer (x ++ 0x0A ∷ y) ≡ batch answer (x ++ 0x0A ∷ []) ++ batch answer y
  unfolding batch lines
  cut_anywhere x y = ap (answers answer) (cut_at [] x y) ∙ answers_append answer (lines_from [] (x ++ 0x0A ∷ [])) (lines_from [] y)

  pub neighbours : (x p y : List ℕ) → Unbroken p
      → batch answer (x ++ 0x0A ∷ (p ++ 0x0A ∷ y)) ≡ batch answer (x ++ 0x0A ∷ []) ++ (answer p ++ batch answer y)
  unfolding batch answers
  neighbours x p y k =
      cut_anywhere x (p ++ 0x0A ∷ y)
      ∙ ap (λ (ls : List (List ℕ)). answers answer (lines (x ++ 0x0A ∷ [])) ++ answers answer ls) (first_line p k y)
