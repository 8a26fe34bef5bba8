-- The ASCII form of one label, whatever it holds, and what the call for it answers: document 01, 'Numbers a call may
-- answer' and 'Coder and decoder'.
use Rattle.std.specs.Prelude.{Bool, not, ◌&&◌, List, [], ◌∷◌, ℕ, leb, ltb, length}
use Rattle.lists.specs.Tests.{pick, any_of}
use Rattle.lists.specs.Rows.{Row, row, Gives}
use Rattle.lists.specs.Rows.{Answer}
use Rattle.punycode.specs.Punycode.{ace, encodable}
use Rattle.punycode.specs.Calls.{label_room}
use Rattle.refusals.specs.Refusals.{Filled}

-- past ASCII
unfoldable pub high : ℕ → Bool
high c = leb 0x80 c

-- encoded where it holds a code point of 80 or more, else as it is
unfoldable pub label_form : List ℕ → List ℕ
label_form l = pick (any_of high l) (ace l) l

-- 1: the buffer is too short; 13: it is to be encoded and cannot; 14: its form has over 63 octets
unfoldable pub form_rows : List ℕ → ℕ → List Row
form_rows l room =
    row 1 (ltb room label_room) 0 ∷
    row 13 (any_of high l && not (encodable l)) 0 ∷
    row 14 (ltb label_room (length (label_form l))) 0 ∷
    []

abbrev pub label_formed : Answer → ℕ → Filled
label_formed a n = record { number = a.number; place = a.place; length = n }

pub record Forms (l before after : List ℕ) (r : Filled) : Type 0 where
  pub gives : Gives label_formed (form_rows l (length before)) (label_form l) before after r
