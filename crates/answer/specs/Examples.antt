-- Closed examples of document 02, K6, by computation: the kinds of some names, as the sixth field has them.
use Rattle.std.specs.Prelude.{◌≡◌, refl, List, [], ◌∷◌, ◌++◌, map, ℕ}
use Rattle.lists.specs.Rows.{first}
use Rattle.lists.specs.Tests.{within, all_of, any_of, index_of, elem, same}
use Rattle.characters.specs.Characters.{alnum, hyphen, ascii_set, kind_letter, kinds, signs, signs_in, stretch, kind_among}
use Rattle.characters.specs.Characters.{kind_by}
use Rattle.characters.specs.Characters.{any_kind, kanji_with, kind_with}
use Rattle.characters.specs.Compose.{voiced, repeats, half_voiced, either_kana, composed}
use Rattle.characters.specs.KanjiBits.{kanji_bits}
use Rattle.characters.specs.Replace.{ranges, range_in, half_kana, is_half, replace_in, replace}
use Rattle.normal.specs.Normal.{replaced_from, compose, normal_placed, normal_form, places}
use Rattle.rules.specs.Labels.{period, into_first, labels}
use Rattle.rules.specs.Permits.{Permits, ja_char, label_char, middle, is_empty}
use Rattle.rules.specs.Kinds.{same_kind, found, kinds_in}
use Rattle.rules.specs.Rules.{unfit, is_middle_dot, ordinary, is_japanese, begins_with_hyphen, ends_with_hyphen, hyphen_edge}
use Rattle.rules.specs.Rules.{short, long, hyphen_pair, pretends, bare_dot, label_rows, jp, name_rows, front_rows, text_rows}
use Rattle.rules.specs.Rules.{class_of, verdict, rules}
use Rattle.rules.specs.Prefectures.{latin_prefectures, japanese_prefectures, prefectures}
use Rattle.rules.specs.Editions.{middles_in, edition_with, today_with}
use Rattle.names.specs.Calls.{kinds_said}
use Rattle.answer.specs.Answer.{kind_letters, kind_field}

-- the sixth field of such a label and .jp, by the number that the rules give it
abbrev pub told_of : Permits → List ℕ → List ℕ
told_of P label =
    let text = label ++ 0x2E ∷ jp in
    kind_field (kinds_said P (labels (normal_form text)) (rules P text).number)

unfoldable pub tried_labels : List (List ℕ)
tried_labels =
    -- abc; 3042; 30A2; half-width GA, which is katakana once normal; 4E9C
    (0x61 ∷ 0x62 ∷ 0x63 ∷ []) ∷
    (0x3042 ∷ []) ∷
    (0x30A2 ∷ []) ∷
    (0xFF76 ∷ 0xFF9E ∷ []) ∷
    (0x4E9C ∷ []) ∷
    -- the prolonged sound mark, 4EDD; half-width KO, prolonged; 4F50 3005 6728
    (0x30FC ∷ []) ∷
    (0x4EDD ∷ []) ∷
    (0xFF7A ∷ 0xFF70 ∷ []) ∷
    (0x4F50 ∷ 0x3005 ∷ 0x6728 ∷ []) ∷
    -- a kanji, a katakana, a hiragana; all four kinds beside a letter
    (0x4E9C ∷ 0x30A2 ∷ 0x3042 ∷ []) ∷
    (0x3005 ∷ 0x4E9C ∷ 0x61 ∷ 0x30A2 ∷ 0x3042 ∷ 0x3042 ∷ []) ∷
    -- abc and a prefecture label of kanji; refused with 7, and with 10: hiragana, signs
    (0x61 ∷ 0x62 ∷ 0x63 ∷ 0x2E ∷ 0x6771 ∷ 0x4EAC ∷ []) ∷
    (0x2D ∷ 0x3042 ∷ []) ∷
    (0x30FB ∷ 0x30FC ∷ []) ∷
    []

-- -, H, K, K, J; S, S, KS, JS; HKJ, HKJS; -, -, -
unfoldable pub tried_fields : List (List ℕ)
tried_fields =
    (0x2D ∷ []) ∷ (0x48 ∷ []) ∷ (0x4B ∷ []) ∷ (0x4B ∷ []) ∷ (0x4A ∷ []) ∷
    (0x53 ∷ []) ∷ (0x53 ∷ []) ∷ (0x4B ∷ 0x53 ∷ []) ∷ (0x4A ∷ 0x53 ∷ []) ∷
    (0x48 ∷ 0x4B ∷ 0x4A ∷ []) ∷ (0x48 ∷ 0x4B ∷ 0x4A ∷ 0x53 ∷ []) ∷
    (0x2D ∷ []) ∷ (0x2D ∷ []) ∷ (0x2D ∷ []) ∷
    []

-- by the bits of the kanji; of the edition in force it is `tried_kinds_today` (proofs/Scripts)
pub tried_kinds : map (told_of (today_with kanji_bits)) tried_labels ≡ tried_fields
unfolding within all_of any_of index_of elem same first alnum hyphen ascii_set kind_letter kinds signs signs_in stretch
    kind_among kind_by any_kind kanji_with kind_with voiced repeats half_voiced either_kana composed ranges range_in half_kana
    is_half replace_in replace replaced_from compose normal_placed normal_form places period into_first labels ja_char
    label_char middle is_empty same_kind found kinds_in unfit is_middle_dot ordinary is_japanese begins_with_hyphen
    ends_with_hyphen hyphen_edge short long hyphen_pair pretends bare_dot label_rows jp name_rows front_rows text_rows class_of
    verdict rules latin_prefectures japanese_prefectures prefectures kanji_bits middles_in edition_with kinds_said
    kind_letters kind_field tried_labels tried_fields
tried_kinds = refl
