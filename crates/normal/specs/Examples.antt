-- Closed examples of document 01, 'Normal form', 'Numbers a call may answer' and 'Errors the rules invite', and of
-- document 02, K2, by computation.
use Rattle.std.specs.Prelude.{◌≡◌, refl, List, [], ◌∷◌, ◌++◌, map, ℕ, zero, suc, length, replicate}
use Rattle.lists.specs.Tests.{within, any_of, elem}
use Rattle.lists.specs.Rows.{first}
use Rattle.lists.specs.Rows.{Answer}
use Rattle.characters.specs.Replace.{ranges, range_in, half_kana, is_half, replace_in, replace}
use Rattle.characters.specs.Compose.{voiced, repeats, half_voiced, either_kana, composed}
use Rattle.normal.specs.Calls.{rows, answer}
use Rattle.normal.specs.Normal.{replaced_from, compose, normal_placed, normal_form, places}

-- a text, its normal form, and where each character of it began
pub record Example : Type 0 where
  pub text : List ℕ
  pub form : List ℕ
  pub begins : List ℕ

abbrev example : List ℕ → List ℕ → List ℕ → Example
example t f b = record { text = t; form = f; begins = b }

-- a list n times over
abbrev often : ℕ → List ℕ → List ℕ
often zero l = []
often (suc n) l = l ++ often n l

abbrev examples : List Example
examples =
    -- ABC; abc 3002 FF2A FF30
    example (0x41 ∷ 0x42 ∷ 0x43 ∷ []) (0x61 ∷ 0x62 ∷ 0x63 ∷ []) (0 ∷ 1 ∷ 2 ∷ []) ∷
    example (0x61 ∷ 0x62 ∷ 0x63 ∷ 0x3002 ∷ 0xFF2A ∷ 0xFF30 ∷ []) (0x61 ∷ 0x62 ∷ 0x63 ∷ 0x2E ∷ 0x6A ∷ 0x70 ∷ [])
    (0 ∷ 1 ∷ 2 ∷ 3 ∷ 4 ∷ 5 ∷ []) ∷
    -- a half-width base and mark, and what follows them
    example (0xFF76 ∷ 0xFF9E ∷ 0x2E ∷ []) (0x30AC ∷ 0x2E ∷ []) (0 ∷ 2 ∷ []) ∷
    -- not across a separator
    example (0x30AB ∷ 0x3002 ∷ 0x309B ∷ []) (0x30AB ∷ 0x2E ∷ 0x309B ∷ []) (0 ∷ 1 ∷ 2 ∷ []) ∷
    -- 30CF is not composed twice
    example (0x30CF ∷ 0x309B ∷ 0x309C ∷ []) (0x30D0 ∷ 0x309C ∷ []) (0 ∷ 2 ∷ []) ∷
    -- 3046 is not composed; a mark alone stays
    example (0x3046 ∷ 0x309B ∷ []) (0x3046 ∷ 0x309B ∷ []) (0 ∷ 1 ∷ []) ∷
    -- the minus sign is a hyphen, between a base and a mark too, and next to the other two hyphens
    example (0x30AB ∷ 0x2212 ∷ 0x309B ∷ []) (0x30AB ∷ 0x2D ∷ 0x309B ∷ []) (0 ∷ 1 ∷ 2 ∷ []) ∷
    example (0x30AB ∷ 0x309B ∷ 0x2212 ∷ 0xFF0D ∷ 0x2D ∷ []) (0x30AC ∷ 0x2D ∷ 0x2D ∷ 0x2D ∷ []) (0 ∷ 2 ∷ 3 ∷ 4 ∷ []) ∷
    example [] [] [] ∷
    []

-- what its text becomes, and what it ought to
abbrev said : Example → List ℕ × List ℕ
said e = (normal_form e.text, places e.text)

abbrev meant : Example → List ℕ × List ℕ
meant e = (e.form, e.begins)

pub tried : map said examples ≡ map meant examples
unfolding normal_form places normal_placed compose replaced_from replace replace_in is_half half_kana range_in ranges within
    composed either_kana voiced repeats half_voiced elem any_of
tried = refl

-- thirty half-width code points make fifteen characters
pub thirty_make_fifteen : length (normal_form (often 15 (0xFF76 ∷ 0xFF9E ∷ []))) ≡ 15
unfolding normal_form normal_placed compose replaced_from replace replace_in is_half half_kana range_in ranges within
    composed either_kana voiced repeats half_voiced elem any_of
thirty_make_fifteen = refl

-- a buffer that is too short is refused first: of nothing, and of 257 blanks; given room they are refused as they are
abbrev rooms : List Answer
rooms = answer [] 255 ∷ answer [] 256 ∷ answer (replicate 257 0x20) 255 ∷ answer (replicate 257 0x20) 256 ∷ []

pub room_first : map (λ (a : Answer). a.number) rooms ≡ 1 ∷ 2 ∷ 1 ∷ 3 ∷ []
unfolding answer rows first
room_first = refl
