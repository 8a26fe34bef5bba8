-- What is answered of some texts, by computation: document 02, K9.
use Rattle.std.specs.Prelude.{true, false, ◌≡◌, refl, List, [], ◌∷◌, map, ℕ, replicate}
use Rattle.lists.specs.Rows.{first}
use Rattle.lists.specs.Tests.{within, all_of, any_of, index_of, elem, same}
use Rattle.characters.specs.Characters.{alnum, hyphen, ascii_set, kinds, signs, signs_in, stretch, kind_among, kind_by}
use Rattle.characters.specs.Characters.{any_kind}
use Rattle.characters.specs.Characters.{kanji_with, kind_with}
use Rattle.characters.specs.Compose.{voiced, repeats, half_voiced, either_kana, composed}
use Rattle.characters.specs.KanjiBits.{kanji_bits}
use Rattle.characters.specs.Replace.{ranges, range_in, half_kana, is_half, replace_in, replace}
use Rattle.normal.specs.Normal.{replaced_from, compose, normal_placed, normal_form, places}
use Rattle.rules.specs.Labels.{period, into_first, labels}
use Rattle.rules.specs.Permits.{Permits, ja_char, label_char, middle, is_empty}
use Rattle.rules.specs.Rules.{unfit, is_middle_dot, ordinary, is_japanese, begins_with_hyphen, ends_with_hyphen, hyphen_edge}
use Rattle.rules.specs.Rules.{short, long, hyphen_pair, pretends, bare_dot, label_rows, jp, name_rows, front_rows, text_rows}
use Rattle.rules.specs.Rules.{class_of, verdict, rules}
use Rattle.rules.specs.Prefectures.{latin_prefectures, japanese_prefectures, prefectures}
use Rattle.rules.specs.Editions.{middles_in, edition_with, today_with}
use Rattle.searches.specs.Searches.{read_by, searched_by, searched}
use Rattle.searches.specs.declared.Searched.{Searched}

-- a text, and what is answered
pub record Asked : Type 0 where
  pub text : List ℕ
  pub said : Searched

abbrev yes : ℕ → List ℕ → Asked
yes n text = record { text = text; said = record { yes = true; read = n } }

abbrev no : ℕ → List ℕ → Asked
no n text = record { text = text; said = record { yes = false; read = n } }

abbrev dot_jp : List ℕ
dot_jp = 0x2E ∷ 0x6A ∷ 0x70 ∷ []

unfoldable pub asked_texts : List Asked
asked_texts =
    -- ABC.JP; abc.tokyo.jp; half-width GA, of two code points; a minus sign (K2)
    yes 6 (0x41 ∷ 0x42 ∷ 0x43 ∷ 0x2E ∷ 0x4A ∷ 0x50 ∷ []) ∷
    yes 12 (0x61 ∷ 0x62 ∷ 0x63 ∷ 0x2E ∷ 0x74 ∷ 0x6F ∷ 0x6B ∷ 0x79 ∷ 0x6F ∷ dot_jp) ∷
    yes 5 (0xFF76 ∷ 0xFF9E ∷ dot_jp) ∷
    yes 6 (0x61 ∷ 0x2212 ∷ 0x62 ∷ dot_jp) ∷
    -- a kanji, and a code point among the kanji that is none
    yes 4 (0x4E9C ∷ dot_jp) ∷
    no 1 (0x4E02 ∷ dot_jp) ∷
    -- the length alone refuses
    no 0 [] ∷
    no 0 (replicate 257 0x61) ∷
    no 0 (0x21 ∷ replicate 256 0x61) ∷
    -- 4: the first code point; a mark after what is no base, which stops at the mark, and after a joined one; a mark
    -- first
    no 1 (0x21 ∷ replicate 255 0x61) ∷
    no 2 (0x3046 ∷ 0x309B ∷ dot_jp) ∷
    no 3 (0xFF76 ∷ 0xFF9E ∷ 0xFF9E ∷ dot_jp) ∷
    no 1 (0x309B ∷ 0x3046 ∷ dot_jp) ∷
    -- 4 past a joined one, and past what other rules refuse
    no 4 (0x30CF ∷ 0x309C ∷ 0x61 ∷ 0x20 ∷ dot_jp) ∷
    no 3 (0x2E ∷ 0x2E ∷ 0x21 ∷ []) ∷
    -- jp, 5; ab.jp, 8; xn--l8j.jp, 17 (K3); 256 letters, 5
    no 2 (0x6A ∷ 0x70 ∷ []) ∷
    no 5 (0x61 ∷ 0x62 ∷ dot_jp) ∷
    no 10 (0x78 ∷ 0x6E ∷ 0x2D ∷ 0x2D ∷ 0x6C ∷ 0x38 ∷ 0x6A ∷ dot_jp) ∷
    no 256 (replicate 256 0x61) ∷
    []

abbrev pub AsAsked : Permits → Type 0
AsAsked P = map (λ (a : Asked). searched P a.text) asked_texts ≡ map (λ (a : Asked). a.said) asked_texts

-- by the bits of the kanji; of the edition in force it is `asked_today` (proofs/Checking)
pub as_asked : AsAsked (today_with kanji_bits)
unfolding within all_of any_of index_of elem same first alnum hyphen ascii_set kinds signs signs_in stretch kind_among
    kind_by any_kind kanji_with kind_with voiced repeats half_voiced either_kana composed ranges range_in half_kana is_half
    replace_in replace replaced_from compose normal_placed normal_form places period into_first labels ja_char label_char
    middle is_empty unfit is_middle_dot ordinary is_japanese begins_with_hyphen ends_with_hyphen hyphen_edge short long
    hyphen_pair pretends bare_dot label_rows jp name_rows front_rows text_rows class_of verdict rules latin_prefectures
    japanese_prefectures prefectures kanji_bits middles_in edition_with read_by searched_by searched asked_texts
as_asked = refl
