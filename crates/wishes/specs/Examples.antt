-- What is answered of some pairs of texts, by computation: document 02, K1.
use Rattle.std.specs.Prelude.{◌≡◌, refl, List, [], ◌∷◌, map, ℕ, take, replicate}
use Rattle.lists.specs.Rows.{first}
use Rattle.lists.specs.Tests.{within, all_of, any_of, index_of, elem, same}
use Rattle.lists.specs.Rows.{Answer}
use Rattle.characters.specs.Characters.{alnum, hyphen, ascii_set, separators, separator, kinds, signs, signs_in, stretch}
use Rattle.characters.specs.Characters.{kind_among, kind_by, any_kind, kanji_with, kind_with}
use Rattle.characters.specs.Compose.{voiced, repeats, half_voiced, either_kana, composed}
use Rattle.characters.specs.KanjiBits.{kanji_bits}
use Rattle.characters.specs.Replace.{ranges, range_in, half_kana, is_half, replace_in, replace}
use Rattle.normal.specs.Normal.{replaced_from, compose, normal_placed, normal_form, places}
use Rattle.rules.specs.Labels.{period, into_first, labels}
use Rattle.rules.specs.Permits.{Permits, ja_char, label_char, middle, is_empty}
use Rattle.rules.specs.Rules.{unfit, is_middle_dot, ordinary, is_japanese, begins_with_hyphen, ends_with_hyphen, hyphen_edge}
use Rattle.rules.specs.Rules.{short, long, hyphen_pair, pretends, bare_dot, label_rows, jp, name_rows, front_rows, text_rows}
use Rattle.rules.specs.Rules.{class_of, verdict, rules}
use Rattle.rules.specs.Prefectures.{latin_prefectures, japanese_prefectures, prefectures}
use Rattle.rules.specs.Editions.{middles_in, edition_with, today_with}
use Rattle.wishes.specs.Wishes.{alone, won_by, winner, wished, part_length, winners, handed_length}
use Rattle.wishes.specs.Wishes.{Wished}

-- two texts; which won, and what is said of each; the part that is handed back
pub record Pair : Type 0 where
  pub one : List ℕ
  pub other : List ℕ
  pub said : Wished
  pub part : List ℕ

-- a number, and a place
abbrev at : ℕ → ℕ → Answer
at n p = record { number = n; place = p }

abbrev pair : List ℕ → List ℕ → ℕ → Answer → Answer → List ℕ → Pair
pair one other won a b part =
    record { one = one; other = other; said = record { won = won; first = a; second = b }; part = part }

-- accepted: ABC.JP; half-width GA and its separator; a wide A, 'a' and 3042, with the wide period; 3042, an
-- ideographic full stop, tokyo, a period, jp
abbrev capitals : List ℕ
capitals = 0x41 ∷ 0x42 ∷ 0x43 ∷ 0x2E ∷ 0x4A ∷ 0x50 ∷ []

abbrev half_width : List ℕ
half_width = 0xFF76 ∷ 0xFF9E ∷ 0xFF61 ∷ 0x6A ∷ 0x70 ∷ []

abbrev wide : List ℕ
wide = 0xFF21 ∷ 0x61 ∷ 0x3042 ∷ 0xFF0E ∷ 0x6A ∷ 0x70 ∷ []

abbrev in_tokyo : List ℕ
in_tokyo = 0x3042 ∷ 0x3002 ∷ 0x74 ∷ 0x6F ∷ 0x6B ∷ 0x79 ∷ 0x6F ∷ 0x2E ∷ 0x6A ∷ 0x70 ∷ []

-- refused: ab.jp with 8, 3046 309B .jp with 4 at its mark, abc.jp. with 6 at its third label
abbrev too_short : List ℕ
too_short = 0x61 ∷ 0x62 ∷ 0x2E ∷ 0x6A ∷ 0x70 ∷ []

abbrev lone_mark : List ℕ
lone_mark = 0x3046 ∷ 0x309B ∷ 0x2E ∷ 0x6A ∷ 0x70 ∷ []

abbrev final_period : List ℕ
final_period = 0x61 ∷ 0x62 ∷ 0x63 ∷ 0x2E ∷ 0x6A ∷ 0x70 ∷ 0x2E ∷ []

unfoldable pub pairs : List Pair
pairs =
    -- accepted, refused and empty, each with each
    pair capitals half_width 1 (at 0 0) (at 0 0) (0x41 ∷ 0x42 ∷ 0x43 ∷ []) ∷
    pair wide too_short 1 (at 0 0) (at 8 0) (0xFF21 ∷ 0x61 ∷ 0x3042 ∷ []) ∷
    pair in_tokyo [] 1 (at 0 0) (at 2 0) (0x3042 ∷ []) ∷
    pair too_short half_width 2 (at 8 0) (at 0 0) (0xFF76 ∷ 0xFF9E ∷ []) ∷
    pair lone_mark final_period 0 (at 4 1) (at 6 2) [] ∷
    pair too_short [] 0 (at 8 0) (at 2 0) [] ∷
    pair [] capitals 2 (at 2 0) (at 0 0) (0x41 ∷ 0x42 ∷ 0x43 ∷ []) ∷
    pair [] lone_mark 0 (at 2 0) (at 4 1) [] ∷
    pair [] [] 0 (at 2 0) (at 2 0) [] ∷
    -- the same text twice; 257 letters, with 3; a name that pretends, with 17 (K3)
    pair half_width half_width 1 (at 0 0) (at 0 0) (0xFF76 ∷ 0xFF9E ∷ []) ∷
    pair (replicate 257 0x61) wide 2 (at 3 256) (at 0 0) (0xFF21 ∷ 0x61 ∷ 0x3042 ∷ []) ∷
    pair (0x78 ∷ 0x6E ∷ 0x2D ∷ 0x2D ∷ capitals) in_tokyo 2 (at 17 0) (at 0 0) (0x3042 ∷ []) ∷
    []

-- what the part shows
abbrev part_of : Permits → List ℕ → List ℕ → List ℕ
part_of P one other =
    let won = winner P one other in
    take (handed_length won one other) (winners won one other)

abbrev pub AsWished : Permits → Type 0
AsWished P =
    (map (λ (p : Pair). wished P p.one p.other) pairs ≡ map (λ (p : Pair). p.said) pairs)
    × (map (λ (p : Pair). part_of P p.one p.other) pairs ≡ map (λ (p : Pair). p.part) pairs)

-- by the bits of the kanji; of the edition in force it is `wished_today` (proofs/Parts)
pub as_wished : AsWished (today_with kanji_bits)
unfolding within all_of any_of index_of elem same first alnum hyphen ascii_set separators separator kinds signs signs_in
    stretch kind_among kind_by any_kind kanji_with kind_with voiced repeats half_voiced either_kana composed ranges range_in
    half_kana is_half replace_in replace replaced_from compose normal_placed normal_form places period into_first labels
    ja_char label_char middle is_empty unfit is_middle_dot ordinary is_japanese begins_with_hyphen ends_with_hyphen hyphen_edge
    short long hyphen_pair pretends bare_dot label_rows jp name_rows front_rows text_rows class_of verdict rules
    latin_prefectures japanese_prefectures prefectures kanji_bits middles_in edition_with alone won_by winner wished
    part_length handed_length pairs
as_wished = (refl, refl)
