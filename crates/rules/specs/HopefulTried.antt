-- Texts that may yet become a name, and texts refused for good, as one table under one statement, computed by the bits
-- of the kanji as in Tried (of the edition in force: proofs/InForce, `tried_hopeful_today`).
use Rattle.std.specs.Prelude.{◌≡◌, refl, Bool, true, false, List, [], ◌∷◌, ◌++◌, ℕ, replicate}
use Rattle.lists.specs.Tests.{within, all_of, any_of, index_of, elem, same}
use Rattle.lists.specs.Rows.{first}
use Rattle.characters.specs.KanjiBits.{kanji_bits}
use Rattle.characters.specs.Characters.{alnum, hyphen, ascii_set, kinds, signs, signs_in, stretch, kind_among, kind_by}
use Rattle.characters.specs.Characters.{any_kind}
use Rattle.characters.specs.Characters.{kanji_with, kind_with}
use Rattle.characters.specs.Replace.{ranges, range_in, half_kana, is_half, replace_in, replace}
use Rattle.characters.specs.Compose.{voiced, repeats, half_voiced, either_kana, composed}
use Rattle.normal.specs.Normal.{replaced_from, compose, normal_placed, normal_form, places}
use Rattle.rules.specs.Labels.{period, into_first, labels}
use Rattle.rules.specs.Permits.{Permits, ja_char, label_char, middle, is_empty}
use Rattle.rules.specs.Rules.{unfit, is_middle_dot, ordinary, is_japanese, begins_with_hyphen, ends_with_hyphen}
use Rattle.rules.specs.Rules.{hyphen_edge, short, long, hyphen_pair, pretends, bare_dot, label_rows, jp}
use Rattle.rules.specs.Prefectures.{latin_prefectures, japanese_prefectures, prefectures}
use Rattle.rules.specs.Editions.{middles_in, edition_with, today_with}
use Rattle.rules.specs.Hopeful.{begins, leftmost, tries, grows, hopeful}

abbrev says : Permits → List (List ℕ) → List Bool
says P [] = []
says P (t ∷ ts) = hopeful P t ∷ says P ts

abbrev hiraganas : ℕ → List ℕ
hiraganas n = replicate n 0x3042

-- ab-- and so many letters more
abbrev paired : ℕ → List ℕ
paired n = 0x61 ∷ 0x62 ∷ 0x2D ∷ 0x2D ∷ replicate n 0x61

abbrev yes : List (List ℕ)
yes =
    -- nothing; a; ab; abc; abc. ; abc 3002 FF2A; abc.jp
    [] ∷
    (0x61 ∷ []) ∷
    (0x61 ∷ 0x62 ∷ []) ∷
    (0x61 ∷ 0x62 ∷ 0x63 ∷ []) ∷
    (0x61 ∷ 0x62 ∷ 0x63 ∷ 0x2E ∷ []) ∷
    (0x61 ∷ 0x62 ∷ 0x63 ∷ 0x3002 ∷ 0xFF2A ∷ []) ∷
    (0x61 ∷ 0x62 ∷ 0x63 ∷ 0x2E ∷ 0x6A ∷ 0x70 ∷ []) ∷
    -- abc.tok; abc.tokyo; abc.tokyo.j
    (0x61 ∷ 0x62 ∷ 0x63 ∷ 0x2E ∷ 0x74 ∷ 0x6F ∷ 0x6B ∷ []) ∷
    (0x61 ∷ 0x62 ∷ 0x63 ∷ 0x2E ∷ 0x74 ∷ 0x6F ∷ 0x6B ∷ 0x79 ∷ 0x6F ∷ []) ∷
    (0x61 ∷ 0x62 ∷ 0x63 ∷ 0x2E ∷ 0x74 ∷ 0x6F ∷ 0x6B ∷ 0x79 ∷ 0x6F ∷ 0x2E ∷ 0x6A ∷ []) ∷
    -- a- ; the middle dot alone; fourteen of them; fifteen hiragana; thirteen and a hyphen
    (0x61 ∷ 0x2D ∷ []) ∷
    (0x30FB ∷ []) ∷
    replicate 14 0x30FB ∷
    hiraganas 15 ∷
    (hiraganas 13 ++ 0x2D ∷ []) ∷
    -- document 02, K2: a and a minus sign; thirteen hiragana and one
    (0x61 ∷ 0x2212 ∷ []) ∷
    (hiraganas 13 ++ 0x2212 ∷ []) ∷
    -- sixteen code points, fifteen characters
    (hiraganas 14 ++ 0xFF76 ∷ 0xFF9E ∷ []) ∷
    -- document 02, K3: ab-- and ten letters; with a hiragana it is a Japanese label
    paired 10 ∷
    []

abbrev no : List (List ℕ)
no =
    -- - ; a blank; a mark after what is no base; a period; ab. ; the middle dot and a period
    (0x2D ∷ []) ∷
    (0x61 ∷ 0x20 ∷ []) ∷
    (0x3046 ∷ 0x309B ∷ []) ∷
    (0x2E ∷ []) ∷
    (0x61 ∷ 0x62 ∷ 0x2E ∷ []) ∷
    (0x30FB ∷ 0x2E ∷ []) ∷
    -- abc.c- ; abc.jpx; abc.jp. ; abc.toki; abc.tok.
    (0x61 ∷ 0x62 ∷ 0x63 ∷ 0x2E ∷ 0x63 ∷ 0x2D ∷ []) ∷
    (0x61 ∷ 0x62 ∷ 0x63 ∷ 0x2E ∷ 0x6A ∷ 0x70 ∷ 0x78 ∷ []) ∷
    (0x61 ∷ 0x62 ∷ 0x63 ∷ 0x2E ∷ 0x6A ∷ 0x70 ∷ 0x2E ∷ []) ∷
    (0x61 ∷ 0x62 ∷ 0x63 ∷ 0x2E ∷ 0x74 ∷ 0x6F ∷ 0x6B ∷ 0x69 ∷ []) ∷
    (0x61 ∷ 0x62 ∷ 0x63 ∷ 0x2E ∷ 0x74 ∷ 0x6F ∷ 0x6B ∷ 0x2E ∷ []) ∷
    -- sixteen hiragana; fourteen and a hyphen; fifteen middle dots; fifteen letters, a hiragana
    hiraganas 16 ∷
    (hiraganas 14 ++ 0x2D ∷ []) ∷
    replicate 15 0x30FB ∷
    (replicate 15 0x61 ++ 0x3042 ∷ []) ∷
    -- document 02, K2: a minus sign; after fourteen hiragana; abc.c and one
    (0x2212 ∷ []) ∷
    (hiraganas 14 ++ 0x2212 ∷ []) ∷
    (0x61 ∷ 0x62 ∷ 0x63 ∷ 0x2E ∷ 0x63 ∷ 0x2212 ∷ []) ∷
    -- document 02, K3: ab-- and eleven letters; ab--a.
    paired 11 ∷
    (paired 1 ++ 0x2E ∷ []) ∷
    []

-- the first may, the others may not
abbrev pub Tells : Permits → Type 0
Tells P = (says P yes ≡ replicate 19 true) × (says P no ≡ replicate 20 false)

pub tried_hopeful : Tells (today_with kanji_bits)
unfolding within all_of any_of index_of elem same first alnum hyphen ascii_set kinds signs signs_in stretch kind_among
    kind_by any_kind kanji_with kind_with ranges range_in half_kana is_half replace_in replace voiced repeats half_voiced
    either_kana composed replaced_from compose normal_placed normal_form places period into_first labels ja_char label_char
    is_empty unfit is_middle_dot ordinary is_japanese begins_with_hyphen ends_with_hyphen hyphen_edge short long hyphen_pair
    pretends bare_dot label_rows jp latin_prefectures japanese_prefectures prefectures middle middles_in edition_with begins
    leftmost tries grows hopeful
tried_hopeful = (refl, refl)
