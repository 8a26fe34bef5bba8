-- Pairs of names that share an ASCII form, by computation: document 02, K3 and K4. The first is accepted where row 17
-- is left out, the second by an edition one of whose prefecture labels seems encoded. With row 17, and no such
-- prefecture label, there is no such pair (proofs/OneForm).
use Rattle.std.specs.Prelude.{◌≡◌, refl, true, false, List, [], ◌∷◌, ℕ}
use Rattle.lists.specs.Tests.{within, all_of, any_of, index_of, elem, same}
use Rattle.lists.specs.Rows.{first, without}
use Rattle.characters.specs.KanjiBits.{kanji_bits}
use Rattle.characters.specs.Characters.{alnum, hyphen, ascii_set, kinds, signs, signs_in, stretch, kind_among, kind_by}
use Rattle.characters.specs.Characters.{any_kind}
use Rattle.characters.specs.Characters.{kanji_with, kind_with}
use Rattle.characters.specs.Replace.{ranges, range_in, half_kana, is_half, replace_in, replace}
use Rattle.characters.specs.Compose.{voiced, repeats, half_voiced, either_kana, composed}
use Rattle.normal.specs.Normal.{replaced_from, compose, normal_placed, normal_form, places}
use Rattle.rules.specs.Labels.{period, into_first, labels, join}
use Rattle.rules.specs.Permits.{Permits, ja_char, label_char, middle, is_empty}
use Rattle.rules.specs.Rules.{unfit, is_middle_dot, ordinary, is_japanese, begins_with_hyphen, ends_with_hyphen, hyphen_edge}
use Rattle.rules.specs.Rules.{short, long, hyphen_pair, pretends, bare_dot, label_rows, jp, name_rows, front_rows, text_rows}
use Rattle.rules.specs.Rules.{class_of, verdict, rules, rules_but, accepted}
use Rattle.rules.specs.Prefectures.{latin_prefectures, japanese_prefectures, prefectures}
use Rattle.rules.specs.Editions.{middles_in, edition_with, today_with}
use Rattle.rules.specs.Verdicts.{Class}
use Rattle.rules.specs.Verdicts.{General, Prefecture}
use Rattle.rules.specs.Verdicts.{Verdict}
use Rattle.ascii.specs.Ascii.{ascii_label, ascii_form, uncoded}
use Rattle.ascii.specs.Examples.{kana, encoded, kana_number, kana_form}
use Rattle.names.specs.Calls.{Coded}

-- two texts that these rules accept as names of class k, whose ASCII forms are given: of two normal forms, and one form
pub record Share (said : Permits → List ℕ → Verdict) (P : Permits) (k : Class) (s t : List ℕ) : Type 0 where
  pub one : said P s ≡ accepted k
  pub other : said P t ≡ accepted k
  pub one_coded : Coded P s
  pub other_coded : Coded P t
  pub apart : same (normal_form s) (normal_form t) ≡ false
  pub alike : ascii_form P (normal_form s) ≡ ascii_form P (normal_form t)

-- a label and jp; abc, a label and jp
abbrev pub general : List ℕ → List ℕ
general l = join (l ∷ jp ∷ [])

abbrev pub prefecture : List ℕ → List ℕ
prefecture m = join ((0x61 ∷ 0x62 ∷ 0x63 ∷ []) ∷ m ∷ jp ∷ [])

-- xn--l8j.jp and (3042).jp, without row 17; computed by the bits of the kanji, of the edition in force it is
-- `shared_today` (proofs/OneForm)
pub shared : Share (rules_but 17) (today_with kanji_bits) General (general encoded) (general kana)
unfolding within all_of any_of index_of elem same first without alnum hyphen ascii_set kinds signs signs_in stretch kind_among
    kind_by any_kind kanji_with kind_with ranges range_in half_kana is_half replace_in replace voiced repeats half_voiced
    either_kana composed replaced_from compose normal_placed normal_form places period into_first labels join ja_char
    label_char middle is_empty unfit is_middle_dot ordinary is_japanese begins_with_hyphen ends_with_hyphen hyphen_edge short long
    hyphen_pair pretends bare_dot label_rows jp name_rows front_rows text_rows class_of verdict rules_but middles_in edition_with
    latin_prefectures japanese_prefectures prefectures ascii_label ascii_form uncoded
shared = record {
  one = refl;
  other = refl;
  one_coded = refl;
  other_coded = rw kana_number;
  apart = refl;
  alike = rw (kana_form (today_with kanji_bits) refl);
}

-- an edition with these two as prefecture labels, and abc.xn--l8j.jp and abc. (3042).jp, with row 17
unfoldable pub twins : Permits
twins = record { known = true; kind = kind_with kanji_bits 4; middles = encoded ∷ kana ∷ []; three = true }

pub shared_middles : Share rules twins Prefecture (prefecture encoded) (prefecture kana)
unfolding within all_of any_of index_of elem same first alnum hyphen ascii_set kinds signs signs_in stretch kind_among kind_by
    any_kind kanji_with kind_with ranges range_in half_kana is_half replace_in replace voiced repeats half_voiced either_kana
    composed replaced_from compose normal_placed normal_form places period into_first labels join ja_char label_char middle
    is_empty unfit is_middle_dot ordinary is_japanese begins_with_hyphen ends_with_hyphen hyphen_edge short long hyphen_pair
    pretends bare_dot label_rows jp name_rows front_rows text_rows class_of verdict rules twins ascii_label ascii_form uncoded
shared_middles = record {
  one = refl;
  other = refl;
  one_coded = refl;
  other_coded = rw kana_number;
  apart = refl;
  alike = rw (kana_form twins refl);
}
