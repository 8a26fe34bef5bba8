-- Where the labels of some texts stand, by computation: document 02, K7.
use Rattle.std.specs.Prelude.{◌≡◌, refl, List, [], ◌∷◌, map, ℕ}
use Rattle.lists.specs.Rows.{first}
use Rattle.lists.specs.Tests.{within, all_of, any_of, index_of, elem, same}
use Rattle.characters.specs.Characters.{alnum, hyphen, ascii_set, kinds, signs, signs_in, stretch, kind_among, kind_by}
use Rattle.characters.specs.Characters.{any_kind}
use Rattle.characters.specs.Characters.{kanji_with, kind_with}
use Rattle.characters.specs.Compose.{voiced, repeats, half_voiced, either_kana, composed}
use Rattle.characters.specs.KanjiBits.{kanji_bits}
use Rattle.characters.specs.Replace.{ranges, range_in, half_kana, is_half, replace_in, replace}
use Rattle.normal.specs.Normal.{replaced_from, compose, normal_placed, normal_form, places}
use Rattle.rules.specs.Labels.{period, into_first, labels}
use Rattle.rules.specs.Permits.{Permits, ja_char, label_char, middle, is_empty}
use Rattle.rules.specs.Places.{starts_from, first_three, label_places, no_places, places_said}
use Rattle.rules.specs.Rules.{unfit, is_middle_dot, ordinary, is_japanese, begins_with_hyphen, ends_with_hyphen, hyphen_edge}
use Rattle.rules.specs.Rules.{short, long, hyphen_pair, pretends, bare_dot, label_rows, jp, name_rows, front_rows, text_rows}
use Rattle.rules.specs.Rules.{class_of, verdict, rules}
use Rattle.rules.specs.Prefectures.{latin_prefectures, japanese_prefectures, prefectures}
use Rattle.rules.specs.Editions.{middles_in, edition_with, today_with}
use Rattle.rules.specs.declared.LabelPlaces.{LabelPlaces}
use Rattle.names.specs.Calls.{judged}

-- a text, and where its labels stand
pub record Placed : Type 0 where
  pub text : List ℕ
  pub places : LabelPlaces

abbrev placed : List ℕ → ℕ → List ℕ → List ℕ → Placed
placed text count starts lengths =
    record { text = text; places = record { count = count; starts = starts; lengths = lengths } }

abbrev none : List ℕ → Placed
none text = record { text = text; places = no_places }

unfoldable pub placed_texts : List Placed
placed_texts =
    -- ABC.JP; half-width GA, of two code points, and .jp: the start is that in the normal form
    placed (0x41 ∷ 0x42 ∷ 0x43 ∷ 0x2E ∷ 0x4A ∷ 0x50 ∷ []) 2 (0 ∷ 4 ∷ 0 ∷ []) (3 ∷ 2 ∷ 0 ∷ []) ∷
    placed (0xFF76 ∷ 0xFF9E ∷ 0x2E ∷ 0x6A ∷ 0x70 ∷ []) 2 (0 ∷ 2 ∷ 0 ∷ []) (1 ∷ 2 ∷ 0 ∷ []) ∷
    -- the same, gifu and jp, parted by 3002 and FF0E; 3042, a prefecture label of kanji and jp, parted by 2E and FF61
    placed (0xFF76 ∷ 0xFF9E ∷ 0x3002 ∷ 0x67 ∷ 0x69 ∷ 0x66 ∷ 0x75 ∷ 0xFF0E ∷ 0x6A ∷ 0x70 ∷ []) 3 (0 ∷ 2 ∷ 7 ∷ [])
    (1 ∷ 4 ∷ 2 ∷ []) ∷
    placed (0x3042 ∷ 0x2E ∷ 0x6771 ∷ 0x4EAC ∷ 0xFF61 ∷ 0x6A ∷ 0x70 ∷ []) 3 (0 ∷ 2 ∷ 5 ∷ []) (1 ∷ 2 ∷ 2 ∷ []) ∷
    -- refused: nothing, 2; a blank before .jp, 4; jp, 5; abc.jp. , 6; ab.jp, 8; abc.gifa.jp, 12
    none [] ∷
    none (0x20 ∷ 0x2E ∷ 0x6A ∷ 0x70 ∷ []) ∷
    none (0x6A ∷ 0x70 ∷ []) ∷
    none (0x61 ∷ 0x62 ∷ 0x63 ∷ 0x2E ∷ 0x6A ∷ 0x70 ∷ 0x2E ∷ []) ∷
    none (0x61 ∷ 0x62 ∷ 0x2E ∷ 0x6A ∷ 0x70 ∷ []) ∷
    none (0x61 ∷ 0x62 ∷ 0x63 ∷ 0x2E ∷ 0x67 ∷ 0x69 ∷ 0x66 ∷ 0x61 ∷ 0x2E ∷ 0x6A ∷ 0x70 ∷ []) ∷
    []

abbrev pub AsPlaced : Permits → Type 0
AsPlaced P = map (λ (p : Placed). (judged P p.text).labels) placed_texts ≡ map (λ (p : Placed). p.places) placed_texts

-- by the bits of the kanji; of the edition in force it is `placed_today` (proofs/Placing)
pub as_placed : AsPlaced (today_with kanji_bits)
unfolding within all_of any_of index_of elem same first alnum hyphen ascii_set kinds signs signs_in stretch kind_among
    kind_by any_kind kanji_with kind_with voiced repeats half_voiced either_kana composed ranges range_in half_kana is_half
    replace_in replace replaced_from compose normal_placed normal_form places period into_first labels ja_char label_char
    middle is_empty unfit is_middle_dot ordinary is_japanese begins_with_hyphen ends_with_hyphen hyphen_edge short long
    hyphen_pair pretends bare_dot label_rows jp name_rows front_rows text_rows class_of verdict rules latin_prefectures
    japanese_prefectures prefectures kanji_bits middles_in edition_with starts_from first_three label_places places_said
    judged placed_texts
as_placed = refl
