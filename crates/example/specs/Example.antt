-- The batch by example, computed: document 01's input, and what the program prints for it, with the sixth field of
-- document 02, K6.
use Rattle.std.specs.Prelude.{◌≡◌, refl, List, [], ◌∷◌, ◌++◌, ℕ}
use Rattle.lists.specs.Rows.{first}
use Rattle.lists.specs.Tests.{within, all_of, any_of, index_of, elem, same}
use Rattle.characters.specs.Characters.{hyphen, ascii_set, kind_letter, kinds, signs, signs_in, stretch, kind_among, kind_by}
use Rattle.characters.specs.Characters.{kind}
use Rattle.characters.specs.Characters.{any_kind}
use Rattle.characters.specs.Compose.{voiced, repeats, half_voiced, either_kana, composed}
use Rattle.characters.specs.Kanji.{kanji}
use Rattle.characters.specs.Replace.{ranges, range_in, half_kana, is_half, replace_in, replace}
use Rattle.normal.specs.Normal.{replaced_from, compose, normal_placed, normal_form, places}
use Rattle.punycode.specs.Calls.{coder_number}
use Rattle.punycode.specs.Punycode.{digit, adapt_loop, damped, adapt, threshold, varint, add, emit}
use Rattle.punycode.specs.Punycode.{point, points, nearer, least, passes, below, delimiter, initial}
use Rattle.punycode.specs.Punycode.{extended, encode, ace, ldh, wide, allowed, encodable}
use Rattle.rules.specs.Editions.{middles_in, edition_of, today}
use Rattle.rules.specs.Labels.{period, into_first, labels, join}
use Rattle.rules.specs.Permits.{ja_char, label_char, middle, is_empty}
use Rattle.rules.specs.Kinds.{same_kind, found, kinds_in}
use Rattle.rules.specs.Prefectures.{latin_prefectures, japanese_prefectures, prefectures}
use Rattle.rules.specs.Rules.{unfit, is_middle_dot, ordinary, is_japanese, begins_with_hyphen}
use Rattle.rules.specs.Rules.{ends_with_hyphen, hyphen_edge, short, long, hyphen_pair, pretends, bare_dot}
use Rattle.rules.specs.Rules.{label_rows, jp, name_rows, front_rows, text_rows, verdict}
use Rattle.ascii.specs.Ascii.{ascii_label, ascii_form, uncoded}
use Rattle.names.specs.Calls.{ascii_rows, kinds_said}
use Rattle.utf8.specs.Utf8.{scalar, proper, decode_from}
use Rattle.lines.specs.Lines.{lf, lines_from, lines}
use Rattle.lines.specs.Fields.{tab, id_of, name_of, one_tab, id_byte, good_id}
use Rattle.answer.specs.Answer.{bad_line, decimal_by, decimal, letter, kind_letters, kind_field, answer_line}
use Rattle.answer.specs.Answer.{good_answer, answer_to}
use Rattle.batch.specs.Batch.{answers, batch}

pub input : List ℕ
input =
    (0x61 ∷ 0x31 ∷ 0x09 ∷ 0x41 ∷ 0x42 ∷ 0x43 ∷ 0x2E ∷ 0x4A ∷ 0x50 ∷ 0x0A ∷ []) ++
    (0x61 ∷ 0x32 ∷ 0x09 ∷ 0x61 ∷ 0x62 ∷ 0x2E ∷ 0x6A ∷ 0x70 ∷ 0x0A ∷ []) ++
    (0x61 ∷ 0x33 ∷ 0x09 ∷ 0xE3 ∷ 0x81 ∷ 0x82 ∷ 0x2E ∷ 0x74 ∷ 0x6F ∷ 0x6B ∷ 0x79 ∷ 0x6F ∷ 0x2E ∷ 0x6A ∷ 0x70 ∷ 0x0A ∷ [])

pub output : List ℕ
output =
    (0x61 ∷ 0x31 ∷ 0x09 ∷ 0x30 ∷ 0x09 ∷ 0x30 ∷ 0x09 ∷ 0x47 ∷ 0x09 ∷ []) ++
    (0x61 ∷ 0x62 ∷ 0x63 ∷ 0x2E ∷ 0x6A ∷ 0x70 ∷ 0x09 ∷ 0x2D ∷ 0x0A ∷ []) ++
    (0x61 ∷ 0x32 ∷ 0x09 ∷ 0x38 ∷ 0x09 ∷ 0x30 ∷ 0x09 ∷ 0x2D ∷ 0x09 ∷ 0x2D ∷ 0x09 ∷ 0x2D ∷ 0x0A ∷ []) ++
    (0x61 ∷ 0x33 ∷ 0x09 ∷ 0x30 ∷ 0x09 ∷ 0x30 ∷ 0x09 ∷ 0x50 ∷ 0x09 ∷ []) ++
    (0x78 ∷ 0x6E ∷ 0x2D ∷ 0x2D ∷ 0x6C ∷ 0x38 ∷ 0x6A ∷ 0x2E ∷ []) ++
    (0x74 ∷ 0x6F ∷ 0x6B ∷ 0x79 ∷ 0x6F ∷ 0x2E ∷ 0x6A ∷ 0x70 ∷ 0x09 ∷ 0x48 ∷ 0x0A ∷ [])

pub printed : batch (answer_to today) input ≡ output
unfolding input output first within all_of any_of index_of elem same Rattle.characters.specs.Characters.alnum hyphen
    ascii_set kind_letter kinds signs signs_in stretch kind_among kind_by kind any_kind voiced repeats half_voiced either_kana
    composed kanji ranges range_in Rattle.characters.specs.Replace.class_of half_kana is_half replace_in replace
    replaced_from compose normal_placed normal_form places coder_number digit adapt_loop damped adapt threshold varint add
    emit point points nearer least passes below delimiter initial extended encode ace
    Rattle.punycode.specs.Punycode.alnum ldh wide allowed encodable middle middles_in edition_of period into_first labels
    join ja_char label_char is_empty latin_prefectures japanese_prefectures prefectures unfit is_middle_dot ordinary is_japanese
    begins_with_hyphen ends_with_hyphen hyphen_edge short long hyphen_pair pretends bare_dot label_rows jp name_rows front_rows
    text_rows Rattle.rules.specs.Rules.class_of verdict ascii_label ascii_form uncoded ascii_rows tab id_of name_of one_tab
    id_byte good_id bad_line decimal_by decimal letter same_kind found kinds_in kinds_said kind_letters kind_field answer_line
    good_answer answer_to lf lines_from lines answers batch scalar proper decode_from
printed = refl
