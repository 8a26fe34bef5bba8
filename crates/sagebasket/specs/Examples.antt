-- Some answers in numbers, and what some states hold, by computation.
use Rattle.std.specs.Prelude.{Bool, true, false, [], ◌∷◌, ◌++◌, map, ◌≡◌, refl, replicate}
use Rattle.rules.specs.Places.{first_three}
use Rattle.rules.specs.Verdicts.{General, Prefecture}
use Rattle.rules.specs.declared.Kinds.{Kinds}
use Rattle.live.specs.Live.{fresh, stepped, looked_by}
use Rattle.sagebasket.specs.Outside.{class_number, kinds_number, numbers, unnamed, of_checked, of_ascii_form}
use Rattle.sagebasket.specs.Outside.{of_host_form, held, held_text}

-- the check of (3042).tokyo.jp; the ASCII form of a name with a sign and kanji; a host whose third label is refused
pub in_numbers : (of_checked (record {
  number = 0;
  place = 0;
  class = Prefecture;
  length = 10;
  labels = record { count = 3; starts = 0 ∷ 2 ∷ 8 ∷ []; lengths = 1 ∷ 5 ∷ 2 ∷ [] };
}) ≡ 0 ∷ 0 ∷ 2 ∷ 0 ∷ 10 ∷ 3 ∷ 0 ∷ 2 ∷ 8 ∷ 1 ∷ 5 ∷ 2 ∷ [])
    × (of_ascii_form (record {
      number = 0;
      place = 0;
      class = General;
      length = 15;
      kinds = record { hiragana = false; katakana = false; kanji = true; sign = true };
    }) ≡ 0 ∷ 0 ∷ 1 ∷ 12 ∷ 15 ∷ replicate 7 0)
    × (of_host_form (record { number = 7; place = 2; length = 0 }) ≡ 7 ∷ 2 ∷ replicate 10 0)
unfolding of_checked of_ascii_form of_host_form unnamed numbers class_number kinds_number first_three
in_numbers = (refl, refl, refl)

-- one bit for each kind
abbrev kinds : Bool → Bool → Bool → Bool → Kinds
kinds h k j s = record { hiragana = h; katakana = k; kanji = j; sign = s }

pub a_bit_each : map kinds_number
    (kinds true false false false ∷ kinds false true false false ∷ kinds false false true false ∷
    kinds false false false true ∷ kinds true true true true ∷ []) ≡ 1 ∷ 2 ∷ 4 ∷ 8 ∷ 15 ∷ []
unfolding kinds_number
a_bit_each = refl

-- zeros and an edition are the fresh state; one code point more; what is held then, and past 256
pub held_states : (held (replicate 257 0 ++ 3 ∷ []) ≡ fresh 3)
    × (held (0x61 ∷ (replicate 255 0 ++ 1 ∷ 3 ∷ [])) ≡ stepped (fresh 3) 0x61)
    × (held_text (held (0x61 ∷ (replicate 255 0 ++ 1 ∷ 3 ∷ []))) ≡ 0x61 ∷ [])
    × (held_text (held (0x61 ∷ (replicate 255 0 ++ 300 ∷ 3 ∷ []))) ≡ replicate 257 0)
unfolding held held_text fresh stepped looked_by
held_states = (refl, refl, refl, refl)
