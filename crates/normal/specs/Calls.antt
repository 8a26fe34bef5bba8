-- What the calls of this crate answer and write: document 01, 'Numbers a call may answer'.
use Rattle.std.specs.Prelude.{List, [], ◌∷◌, ◌≡◌, ℕ, eqb, ltb, length}
use Rattle.lists.specs.Front.{written}
use Rattle.lists.specs.Rows.{Row, row, first, given}
use Rattle.lists.specs.Rows.{Answer}
use Rattle.normal.specs.Normal.{normal_form}
use Rattle.refusals.specs.Refusals.{Filled}

-- the refusals of the normal form call, for a text and the room of the lent buffer
unfoldable pub rows : List ℕ → ℕ → List Row
rows text room =
    row 1 (ltb room 256) 0 ∷
    row 2 (eqb (length text) 0) 0 ∷
    row 3 (ltb 256 (length text)) 256 ∷
    []

unfoldable pub answer : List ℕ → ℕ → Answer
answer text room = first (rows text room)

-- what it writes at the buffer's start
unfoldable pub writes : List ℕ → ℕ → List ℕ
writes text room = given (answer text room) (normal_form text)

abbrev pub answered : Answer → List ℕ → Filled
answered a form = record { number = a.number; place = a.place; length = length form }

pub record Normalises (text before after : List ℕ) (r : Filled) : Type 0 where
  pub result : r ≡ answered (answer text (length before)) (writes text (length before))
  pub buffer : after ≡ written (writes text (length before)) before
