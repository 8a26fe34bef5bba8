-- The starred names of document 01, 'Tried names', after them names that document 02 decides, and names that fix the
-- order of the rows, as one table under one statement. It is computed by the bits of the kanji, which are asked faster
-- than their list; of the edition in force it is `tried_today` (proofs/InForce).
use Rattle.std.specs.Prelude.{◌≡◌, refl, true, false, List, [], ◌∷◌, ◌++◌, map, ℕ, replicate}
use Rattle.lists.specs.Tests.{within, all_of, any_of, index_of, elem, same}
use Rattle.lists.specs.Rows.{first, without}
use Rattle.characters.specs.KanjiBits.{kanji_bits}
use Rattle.characters.specs.Characters.{alnum, hyphen, ascii_set, kinds, signs, signs_in, stretch, kind_among, kind_by}
use Rattle.characters.specs.Characters.{any_kind}
use Rattle.characters.specs.Characters.{kanji_with, kind_with}
use Rattle.characters.specs.Replace.{ranges, range_in, half_kana, is_half, replace_in, replace}
use Rattle.characters.specs.Compose.{voiced, repeats, half_voiced, either_kana, composed}
use Rattle.normal.specs.Normal.{replaced_from, compose, normal_placed, normal_form, places}
use Rattle.rules.specs.Labels.{period, into_first, labels}
use Rattle.rules.specs.Permits.{Permits, ja_char, label_char, middle, is_empty}
use Rattle.rules.specs.Rules.{unfit, is_middle_dot, ordinary, is_japanese, begins_with_hyphen, ends_with_hyphen}
use Rattle.rules.specs.Rules.{hyphen_edge, short, long, hyphen_pair, asks, pretends, bare_dot, label_rows, jp}
use Rattle.rules.specs.declared.Asks.{Asks}
use Rattle.rules.specs.Rules.{name_rows, front_rows, text_rows, class_of, verdict, rules, rules_but, accepted, refused}
use Rattle.rules.specs.Prefectures.{latin_prefectures, japanese_prefectures, prefectures}
use Rattle.rules.specs.Editions.{middles_in, edition_with, today_with}
use Rattle.rules.specs.Verdicts.{Class}
use Rattle.rules.specs.Verdicts.{Verdict}
use Rattle.rules.specs.Verdicts.{General, Prefecture}

-- a text that is accepted, with its class and its normal form; or refused, with its number and its place; or refused so
-- where without the row of that number another number and place are given: both rows apply to it; or a label at place 4
-- to which two rows apply, with what is asked of it
pub data Case : Type 0 where
  accepts : List ℕ → Class → List ℕ → Case
  refuses : List ℕ → ℕ → ℕ → Case
  before : List ℕ → ℕ → ℕ → ℕ → ℕ → Case
  label_before : Asks → List ℕ → ℕ → ℕ → Case

-- what is said of its text, and the normal form where that is asked; and what ought to be
abbrev pub said : Permits → Case → List Verdict × List ℕ
said P (accepts text k form) = (rules P text ∷ [], normal_form text)
said P (refuses text n p) = (rules P text ∷ [], [])
said P (before text n p m q) = (rules P text ∷ rules_but n P text ∷ [], [])
said P (label_before A l n m) =
    let rows = label_rows P A l 4 in (verdict (first rows) [] ∷ verdict (first (without n rows)) [] ∷ [], [])

abbrev pub meant : Case → List Verdict × List ℕ
meant (accepts text k form) = (accepted k ∷ [], form)
meant (refuses text n p) = (refused n p ∷ [], [])
meant (before text n p m q) = (refused n p ∷ refused m q ∷ [], [])
meant (label_before A l n m) = (refused n 4 ∷ refused m 4 ∷ [], [])

abbrev dot_jp : List ℕ
dot_jp = 0x2E ∷ 0x6A ∷ 0x70 ∷ []

abbrev abc_jp : List ℕ
abc_jp = 0x61 ∷ 0x62 ∷ 0x63 ∷ dot_jp

abbrev dot_com : List ℕ
dot_com = 0x2E ∷ 0x63 ∷ 0x6F ∷ 0x6D ∷ []

-- the label ab-- and what follows it
abbrev paired : List ℕ → List ℕ
paired r = 0x61 ∷ 0x62 ∷ 0x2D ∷ 0x2D ∷ r

abbrev pub table : List Case
table =
    -- ABC.JP; abc 3002 FF2A FF30
    accepts (0x41 ∷ 0x42 ∷ 0x43 ∷ 0x2E ∷ 0x4A ∷ 0x50 ∷ []) General abc_jp ∷
    accepts (0x61 ∷ 0x62 ∷ 0x63 ∷ 0x3002 ∷ 0xFF2A ∷ 0xFF30 ∷ []) General abc_jp ∷
    -- ab.jp; (3042).jp
    refuses (0x61 ∷ 0x62 ∷ dot_jp) 8 0 ∷
    accepts (0x3042 ∷ dot_jp) General (0x3042 ∷ dot_jp) ∷
    -- FF76 FF9E .jp
    accepts (0xFF76 ∷ 0xFF9E ∷ dot_jp) General (0x30AC ∷ dot_jp) ∷
    -- 3046 309B .jp
    refuses (0x3046 ∷ 0x309B ∷ dot_jp) 4 1 ∷
    -- (30FB).jp; (30FC).jp; 30FB 3005 .jp
    refuses (0x30FB ∷ dot_jp) 10 0 ∷
    accepts (0x30FC ∷ dot_jp) General (0x30FC ∷ dot_jp) ∷
    accepts (0x30FB ∷ 0x3005 ∷ dot_jp) General (0x30FB ∷ 0x3005 ∷ dot_jp) ∷
    -- -3042.jp; abc.jp. with a final period; jp
    refuses (0x2D ∷ 0x3042 ∷ dot_jp) 7 0 ∷
    refuses (0x61 ∷ 0x62 ∷ 0x63 ∷ 0x2E ∷ 0x6A ∷ 0x70 ∷ 0x2E ∷ []) 6 2 ∷
    refuses (0x6A ∷ 0x70 ∷ []) 5 0 ∷
    -- abc.tokyo.jp; abc.tokio.jp
    accepts (0x61 ∷ 0x62 ∷ 0x63 ∷ 0x2E ∷ 0x74 ∷ 0x6F ∷ 0x6B ∷ 0x79 ∷ 0x6F ∷ dot_jp) Prefecture
    (0x61 ∷ 0x62 ∷ 0x63 ∷ 0x2E ∷ 0x74 ∷ 0x6F ∷ 0x6B ∷ 0x79 ∷ 0x6F ∷ dot_jp) ∷
    refuses (0x61 ∷ 0x62 ∷ 0x63 ∷ 0x2E ∷ 0x74 ∷ 0x6F ∷ 0x6B ∷ 0x69 ∷ 0x6F ∷ dot_jp) 12 0 ∷
    -- document 02, K2. a 2212 b .jp; 3042 2212 2212 3042 .jp
    accepts (0x61 ∷ 0x2212 ∷ 0x62 ∷ dot_jp) General (0x61 ∷ 0x2D ∷ 0x62 ∷ dot_jp) ∷
    accepts (0x3042 ∷ 0x2212 ∷ 0x2212 ∷ 0x3042 ∷ dot_jp) General (0x3042 ∷ 0x2D ∷ 0x2D ∷ 0x3042 ∷ dot_jp) ∷
    -- 2212 3042 .jp; 3042 2212 .jp; (2212).jp
    refuses (0x2212 ∷ 0x3042 ∷ dot_jp) 7 0 ∷
    refuses (0x3042 ∷ 0x2212 ∷ dot_jp) 7 0 ∷
    refuses (0x2212 ∷ dot_jp) 7 0 ∷
    -- 30AB 2212 309B .jp: the mark is unfit, the minus sign is not
    refuses (0x30AB ∷ 0x2212 ∷ 0x309B ∷ dot_jp) 4 2 ∷
    -- abc.j 2212 p; abc.nara 2212 .jp
    refuses (0x61 ∷ 0x62 ∷ 0x63 ∷ 0x2E ∷ 0x6A ∷ 0x2212 ∷ 0x70 ∷ []) 11 0 ∷
    refuses (0x61 ∷ 0x62 ∷ 0x63 ∷ 0x2E ∷ 0x6E ∷ 0x61 ∷ 0x72 ∷ 0x61 ∷ 0x2212 ∷ dot_jp) 12 0 ∷
    -- document 02, K3. ab--c.jp; xn--l8j.jp; A FF42 2212 FF0D c.nara.jp
    refuses (paired (0x63 ∷ dot_jp)) 17 0 ∷
    refuses (0x78 ∷ 0x6E ∷ 0x2D ∷ 0x2D ∷ 0x6C ∷ 0x38 ∷ 0x6A ∷ dot_jp) 17 0 ∷
    refuses (0x41 ∷ 0xFF42 ∷ 0x2212 ∷ 0xFF0D ∷ 0x63 ∷ 0x2E ∷ 0x6E ∷ 0x61 ∷ 0x72 ∷ 0x61 ∷ dot_jp) 17 0 ∷
    -- a--b.jp; abc--d.jp; ab-c-d.jp: no pair there; ab--.jp
    accepts (0x61 ∷ 0x2D ∷ 0x2D ∷ 0x62 ∷ dot_jp) General (0x61 ∷ 0x2D ∷ 0x2D ∷ 0x62 ∷ dot_jp) ∷
    accepts (0x61 ∷ 0x62 ∷ 0x63 ∷ 0x2D ∷ 0x2D ∷ 0x64 ∷ dot_jp) General
    (0x61 ∷ 0x62 ∷ 0x63 ∷ 0x2D ∷ 0x2D ∷ 0x64 ∷ dot_jp) ∷
    accepts (0x61 ∷ 0x62 ∷ 0x2D ∷ 0x63 ∷ 0x2D ∷ 0x64 ∷ dot_jp) General
    (0x61 ∷ 0x62 ∷ 0x2D ∷ 0x63 ∷ 0x2D ∷ 0x64 ∷ dot_jp) ∷
    refuses (paired dot_jp) 7 0 ∷
    -- 3042 3042 --(3042).jp; ab--3042.jp: a Japanese label may have the pair
    accepts (0x3042 ∷ 0x3042 ∷ 0x2D ∷ 0x2D ∷ 0x3042 ∷ dot_jp) General
    (0x3042 ∷ 0x3042 ∷ 0x2D ∷ 0x2D ∷ 0x3042 ∷ dot_jp) ∷
    accepts (paired (0x3042 ∷ dot_jp)) General (paired (0x3042 ∷ dot_jp)) ∷
    -- abc.ab--c; abc.ab--c.jp: it is asked of the leftmost label alone
    refuses (0x61 ∷ 0x62 ∷ 0x63 ∷ 0x2E ∷ paired (0x63 ∷ [])) 11 0 ∷
    refuses (0x61 ∷ 0x62 ∷ 0x63 ∷ 0x2E ∷ paired (0x63 ∷ dot_jp)) 12 0 ∷
    -- ab--c; ab--c..jp; ab--c, a blank and .jp: what is asked before 9 is asked of such a name first
    refuses (paired (0x63 ∷ [])) 5 0 ∷
    refuses (paired (0x63 ∷ 0x2E ∷ dot_jp)) 6 1 ∷
    refuses (paired (0x63 ∷ 0x20 ∷ dot_jp)) 4 5 ∷
    -- The order of the rows. Of any two these part them, or they never apply together: 2 with 3 or 4, 8 with 9, 17 or
    -- 10, and 17 with 10. Nothing; 257 blanks; a blank; a..b.jp; -a.
    before [] 2 0 5 0 ∷
    before (replicate 257 0x20) 3 256 4 0 ∷
    before (0x20 ∷ []) 4 0 5 0 ∷
    before (0x61 ∷ 0x2E ∷ 0x2E ∷ 0x62 ∷ dot_jp) 5 0 6 1 ∷
    before (0x2D ∷ 0x61 ∷ 0x2E ∷ []) 6 1 7 0 ∷
    -- -a.jp; a hyphen, fifteen 3042 and .jp; ab.com
    before (0x2D ∷ 0x61 ∷ dot_jp) 7 0 8 0 ∷
    before (0x2D ∷ (replicate 15 0x3042 ++ dot_jp)) 7 0 9 0 ∷
    before (0x61 ∷ 0x62 ∷ dot_com) 8 0 11 0 ∷
    -- ab--, sixty letters more and .jp; sixteen middle dots and .jp
    before (paired (replicate 60 0x61 ++ dot_jp)) 9 0 17 0 ∷
    before (replicate 16 0x30FB ++ dot_jp) 9 0 10 0 ∷
    -- ab--c.com; (30FB).com; abc.tokio.com
    before (paired (0x63 ∷ dot_com)) 17 0 11 0 ∷
    before (0x30FB ∷ dot_com) 10 0 11 0 ∷
    before (0x61 ∷ 0x62 ∷ 0x63 ∷ 0x2E ∷ 0x74 ∷ 0x6F ∷ 0x6B ∷ 0x69 ∷ 0x6F ∷ dot_com) 11 0 12 0 ∷
    -- and of the rows of any label: 64 letters where 65 are asked; ab--30FB where no label may have the pair
    label_before (asks 65 false) (replicate 64 0x61) 8 9 ∷
    label_before (asks 1 true) (paired (0x30FB ∷ [])) 17 10 ∷
    []

pub tried : map (said (today_with kanji_bits)) table ≡ map meant table
unfolding within all_of any_of index_of elem same first without alnum hyphen ascii_set kinds signs signs_in stretch
    kind_among kind_by any_kind kanji_with kind_with ranges range_in half_kana is_half replace_in replace voiced repeats
    half_voiced either_kana composed replaced_from compose normal_placed normal_form places period into_first labels ja_char
    label_char is_empty unfit is_middle_dot ordinary is_japanese begins_with_hyphen ends_with_hyphen hyphen_edge short long
    hyphen_pair pretends bare_dot label_rows jp name_rows front_rows text_rows class_of verdict rules rules_but
    latin_prefectures japanese_prefectures prefectures middle middles_in edition_with
tried = refl
