-- A buffer that is too short is refused before what the rules refuse, here nothing and 257 blanks, by computation:
-- document 01, 'Numbers a call may answer', and document 02, K12.
use Rattle.std.specs.Prelude.{◌≡◌, refl, List, [], ◌∷◌, ◌++◌, map, ℕ, replicate}
use Rattle.lists.specs.Tests.{within}
use Rattle.lists.specs.Rows.{Row, first}
use Rattle.rules.specs.Rules.{front_rows, text_rows}
use Rattle.rules.specs.Editions.{edition_of, today}
use Rattle.names.specs.Calls.{check_rows, ascii_rows}

-- the number that is given first, for each of the two texts: with too little room, and with enough
abbrev numbers : (List ℕ → ℕ → List Row) → ℕ → ℕ → List ℕ
numbers rows little enough =
    map (λ (table : List Row). (first table).number)
    (rows [] little ∷ rows [] enough ∷ rows (replicate 257 0x20) little ∷ rows (replicate 257 0x20) enough ∷ [])

-- of the check, and of the whole ASCII form
pub room_first : numbers (check_rows today) 255 256 ++ numbers (ascii_rows today) 191 192
    ≡ (1 ∷ 2 ∷ 1 ∷ 3 ∷ []) ++ (1 ∷ 2 ∷ 1 ∷ 3 ∷ [])
unfolding check_rows ascii_rows text_rows front_rows first edition_of within
room_first = refl

-- and before 25, by a number that is no edition (document 02, K12)
pub room_before_25 : numbers (check_rows (edition_of 0)) 255 256 ++ numbers (ascii_rows (edition_of 0)) 191 192
    ≡ (1 ∷ 25 ∷ 1 ∷ 25 ∷ []) ++ (1 ∷ 25 ∷ 1 ∷ 25 ∷ [])
unfolding check_rows ascii_rows text_rows front_rows first edition_of within
room_before_25 = refl
