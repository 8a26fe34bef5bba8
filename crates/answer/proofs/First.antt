-- The answer to the first line of a piece, on plain lists: without room or without an LF nothing is done, and otherwise the line is what
-- stands before the first LF.
-- Assumes nothing.
use mathlib.Core.Path.{◌≡◌, refl}
use mathlib.Core.List.{List}
use Prim.Native.Nat.{ℕ, ◌+◌, ◌≤◌, ◌<◌}
use native.Mathlib.Omega.{arith}
use lib.ListN.{length, take}
use borrow.Author.Tests.{le-leb}
use Rattle.lists.specs.Tests.{index_of}
use Rattle.lists.specs.Front.{Puts}
use Rattle.lists.proofs.Pieces.{nothing}
use Rattle.lists.proofs.Scan.{found, not_found}
use Rattle.lines.specs.Lines.{lf}
use Rattle.std.specs.Prelude.{None, Some}
use Rattle.answer.specs.declared.AnsweredLine.{AnsweredLine}
use Rattle.answer.specs.Answers.{most, next_told, AnswersFirst}
use Rattle.answer.specs.Usual.{Answered}

module _ (answer : List ℕ → List ℕ) (s before : List ℕ) where
  module _ {after : List ℕ} (room : most ≤ length before) where
    pub answers : (r : AnsweredLine) → Answered answer s before after r → AnswersFirst answer s before after (next_told (Some r))
    answers r a =
        record {
          done = rw (le-leb most (length before) room, found lf s (omega (arith, a.end, a.inside)));
          end = a.end;
          text = rw a.end at a.text;
        }

    module _ {e : ℕ} (h : e ≡ 0 + index_of lf s) where
      pub no_end : length s ≤ e → after ≡ before → AnswersFirst answer s before after (next_told None)
      no_end g k =
          rw k (record { done = rw (le-leb most (length before) room, not_found lf s (omega arith)); end = refl; text = nothing })

      pub ends : e < length s → {same : List ℕ} {n : ℕ} → same ≡ before → Puts (answer (take e s)) same after 0 n
          → AnswersFirst answer s before after (next_told (Some (record { end = e; length = n })))
      ends g k w = answers _ (record { end = omega arith; inside = g; text = rw k at w })
