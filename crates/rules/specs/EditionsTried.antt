-- Texts by the rules of each edition, and of numbers that are none, by computation: document 02, K12. Each difference
-- between two editions is there, and what brings 25 stands before whatever else would apply.
use Rattle.std.specs.Prelude.{Bool, true, false, ◌≡◌, refl, List, [], ◌∷◌, ◌++◌, map, ℕ, replicate}
use Rattle.lists.specs.Tests.{within, all_of, any_of, index_of, elem, same}
use Rattle.lists.specs.Rows.{first}
use Rattle.characters.specs.KanjiBits.{kanji_bits}
use Rattle.characters.specs.Characters.{alnum, hyphen, ascii_set, kind_letter, kinds, signs, signs_in, stretch, kind_among}
use Rattle.characters.specs.Characters.{kind_by, any_kind, kanji_with, kind_with}
use Rattle.characters.specs.Replace.{ranges, range_in, half_kana, is_half, replace_in, replace}
use Rattle.characters.specs.Compose.{voiced, repeats, half_voiced, either_kana, composed}
use Rattle.normal.specs.Normal.{replaced_from, compose, normal_placed, normal_form, places}
use Rattle.rules.specs.Labels.{period, into_first, labels}
use Rattle.rules.specs.Permits.{Permits, ja_char, label_char, middle, is_empty}
use Rattle.rules.specs.Kinds.{same_kind, found, kinds_in}
use Rattle.rules.specs.Rules.{unfit, is_middle_dot, ordinary, is_japanese, begins_with_hyphen, ends_with_hyphen}
use Rattle.rules.specs.Rules.{hyphen_edge, short, long, hyphen_pair, pretends, bare_dot, label_rows, jp, name_rows}
use Rattle.rules.specs.Rules.{front_rows, text_rows, class_of, verdict, rules, accepted, refused}
use Rattle.rules.specs.Prefectures.{latin_prefectures, japanese_prefectures, prefectures}
use Rattle.rules.specs.Editions.{middles_in, edition_with}
use Rattle.rules.specs.Hopeful.{begins, leftmost, tries, grows, hopeful}
use Rattle.rules.specs.Verdicts.{General, Prefecture}
use Rattle.rules.specs.Verdicts.{Verdict}

-- the four, and numbers that are none of them: beside the four, and what eight bits would take for 4
abbrev pub asked : List ℕ
asked = 1 ∷ 2 ∷ 3 ∷ 4 ∷ 0 ∷ 5 ∷ 260 ∷ []

-- a text, what the rules say of it in each of the four, and in which it may yet become a name
pub record InEditions : Type 0 where
  pub text : List ℕ
  pub said : List Verdict
  pub hope : List Bool

abbrev told : List ℕ → List Verdict → List Bool → InEditions
told text said hope = record { text = text; said = said; hope = hope }

-- 25 and no hope by the numbers that are none
abbrev each : List ℕ → Verdict → Verdict → Verdict → Verdict → Bool → Bool → Bool → Bool → InEditions
each text a b c d h i j k =
    told text (a ∷ b ∷ c ∷ d ∷ replicate 3 (refused 25 0)) (h ∷ i ∷ j ∷ k ∷ replicate 3 false)

-- the same in all four; one thing in edition 1 and another from 2 on; three labels, which 1 and 2 refuse; what is only
-- begun
abbrev alike : List ℕ → Verdict → Bool → InEditions
alike text v h = each text v v v v h h h h

abbrev early : List ℕ → Verdict → Verdict → Bool → InEditions
early text a b h = each text a b b b h false false false

abbrev three : List ℕ → Verdict → Verdict → Bool → Bool → InEditions
three text c d j k = each text (refused 5 0) (refused 5 0) c d false false j k

abbrev begun : List ℕ → Bool → Bool → InEditions
begun text j k = let v = refused 11 0 in each text v v v v false false j k

abbrev general : Verdict
general = accepted General

abbrev dot_jp : List ℕ
dot_jp = 0x2E ∷ jp

-- .nara.jp, and .nara in kanji.jp
abbrev latin : List ℕ
latin = 0x2E ∷ 0x6E ∷ 0x61 ∷ 0x72 ∷ 0x61 ∷ dot_jp

abbrev japanese : List ℕ
japanese = 0x2E ∷ 0x5948 ∷ 0x826F ∷ dot_jp

abbrev abc : List ℕ
abc = 0x61 ∷ 0x62 ∷ 0x63 ∷ []

unfoldable pub table : List InEditions
table =
    -- nothing, 257 blanks, a blank: 25 comes before 2, 3 and 4
    told [] (replicate 4 (refused 2 0) ++ replicate 3 (refused 25 0)) (replicate 4 true ++ replicate 3 false) ∷
    alike (replicate 257 0x20) (refused 3 256) false ∷
    alike (0x61 ∷ 0x20 ∷ dot_jp) (refused 4 1) false ∷
    -- ABC.JP; ab-c with 2212 for the hyphen (K2); ab--c (K3)
    alike (0x41 ∷ 0x42 ∷ 0x43 ∷ 0x2E ∷ 0x4A ∷ 0x50 ∷ []) general true ∷
    alike (0x61 ∷ 0x62 ∷ 0x2212 ∷ 0x63 ∷ dot_jp) general true ∷
    alike (0x61 ∷ 0x62 ∷ 0x2D ∷ 0x2D ∷ 0x63 ∷ dot_jp) (refused 17 0) false ∷
    -- 3003 is Japanese in edition 1 alone, also beside a middle dot, which it helps
    early (0x3003 ∷ dot_jp) general (refused 4 0) true ∷
    early (0x30FB ∷ 0x3003 ∷ dot_jp) general (refused 4 1) true ∷
    early (replicate 16 0x3003 ++ dot_jp) (refused 9 0) (refused 4 0) false ∷
    early (0x3003 ∷ latin) (refused 5 0) (refused 4 0) false ∷
    -- three labels: 5 in 1 and 2, where 6 would apply too; Latin labels from 3 on, Japanese ones in 4
    three (abc ++ latin) (accepted Prefecture) (accepted Prefecture) true true ∷
    three (abc ++ japanese) (refused 12 0) (accepted Prefecture) false true ∷
    three latin (refused 6 0) (refused 6 0) false false ∷
    -- abc.na; abc. and a kanji
    begun (abc ++ 0x2E ∷ 0x6E ∷ 0x61 ∷ []) true true ∷
    begun (abc ++ 0x2E ∷ 0x5948 ∷ []) false true ∷
    []

-- what a family of editions says of the texts, whether they have hope, and in which 3003 is found as a sign
abbrev pub AsTried : (ℕ → Permits) → Type 0
AsTried E =
    let said : List ℕ → List Verdict = λ text. map (λ (e : ℕ). rules (E e) text) asked in
    let hope : List ℕ → List Bool = λ text. map (λ (e : ℕ). hopeful (E e) text) asked in
    let sign : ℕ → Bool = λ e. (kinds_in (E e) (0x3042 ∷ 0x3003 ∷ [])).sign in
    (map (λ (t : InEditions). said t.text) table ≡ map (λ (t : InEditions). t.said) table)
    × (map (λ (t : InEditions). hope t.text) table ≡ map (λ (t : InEditions). t.hope) table)
    × (map sign asked ≡ true ∷ replicate 6 false)

-- by the bits of the kanji; of the editions themselves it is `tried_editions` (proofs/InForce)
pub as_tried : AsTried (edition_with kanji_bits)
unfolding within all_of any_of index_of elem same first alnum hyphen ascii_set kind_letter kinds signs signs_in stretch
    kind_among kind_by any_kind kanji_with kind_with ranges range_in half_kana is_half replace_in replace voiced repeats
    half_voiced either_kana composed replaced_from compose normal_placed normal_form places period into_first labels ja_char
    label_char is_empty same_kind found kinds_in unfit is_middle_dot ordinary is_japanese begins_with_hyphen ends_with_hyphen
    hyphen_edge short long hyphen_pair pretends bare_dot label_rows jp name_rows front_rows text_rows class_of verdict rules
    latin_prefectures japanese_prefectures prefectures middle middles_in edition_with begins leftmost tries grows hopeful
    kanji_bits table
as_tried = (refl, refl, refl)
