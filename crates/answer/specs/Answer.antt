-- The answer to a line, as bytes: document 01, 'The batch'. It depends on that line's bytes alone.
use Rattle.std.specs.Prelude.{Bool, not, ◌||◌, List, [], ◌∷◌, ◌++◌, ℕ, zero, suc, ◌+◌, ◌-◌, ◌*◌, ◌/◌, ◌%◌, eqb, ltb, length}
use Rattle.lists.specs.Tests.{pick}
use Rattle.lists.specs.Rows.{first}
use Rattle.characters.specs.Characters.{kind_letter}
use Rattle.characters.specs.Kinds.{Kind}
use Rattle.characters.specs.Kinds.{Hiragana, Katakana, Kanji, Sign}
use Rattle.normal.specs.Normal.{normal_form}
use Rattle.rules.specs.Labels.{labels}
use Rattle.rules.specs.Permits.{Permits, is_empty}
use Rattle.rules.specs.Kinds.{no_kinds}
use Rattle.rules.specs.Rules.{verdict}
use Rattle.rules.specs.declared.Kinds.{Kinds}
use Rattle.rules.specs.Verdicts.{Class}
use Rattle.rules.specs.Verdicts.{None, General, Prefecture}
use Rattle.ascii.specs.Ascii.{ascii_form}
use Rattle.names.specs.Calls.{ascii_rows, kinds_said}
use Rattle.utf8.specs.Utf8.{decoded}
use Rattle.lines.specs.Fields.{id_of, name_of, one_tab, good_id}

-- refusal 16: more than 1,024 bytes; not exactly one tab; an id not 1 to 32 letters, digits or hyphens; a name that is
-- not well-formed UTF-8
unfoldable pub bad_line : List ℕ → Bool
bad_line line =
    ltb 1024 (length line)
    || (not (one_tab line)
    || (not (good_id (id_of line))
    || not (decoded (name_of line)).ok))

-- ---- the answer line: id, number, place, class, ASCII form, and document 02's kinds (K6), tab-parted, LF

-- a number in decimal digits; f bounds how many
unfoldable pub decimal_by : ℕ → ℕ → List ℕ
decimal_by zero n = []
decimal_by (suc f) n =
    let more = decimal_by f (n / 10) ++ ((0x30 + n % 10) ∷ []) in
    pick (ltb n 10) ((0x30 + n) ∷ []) more

unfoldable pub decimal : ℕ → List ℕ
decimal n = decimal_by 3 n

-- what digits say, after v: read so, the digits of an answer say its number and its place (proofs/Digits)
unfoldable pub reading : ℕ → List ℕ → ℕ
reading v [] = v
reading v (d ∷ ds) = reading (v * 10 + (d - 0x30)) ds

-- G, P or -
unfoldable pub letter : Class → ℕ
letter General = 0x47
letter Prefecture = 0x50
letter None = 0x2D

-- a kind's letter where the kind is found
abbrev pub letter_if : Bool → Kind → List ℕ
letter_if found k = pick found (kind_letter k ∷ []) []

-- H, K, J and S for the kinds that are found, in that order
unfoldable pub kind_letters : Kinds → List ℕ
kind_letters ks =
    letter_if ks.hiragana Hiragana ++ letter_if ks.katakana Katakana
    ++ letter_if ks.kanji Kanji ++ letter_if ks.sign Sign

-- or -
unfoldable pub kind_field : Kinds → List ℕ
kind_field ks = pick (is_empty (kind_letters ks)) (0x2D ∷ []) (kind_letters ks)

unfoldable pub answer_line : List ℕ → ℕ → ℕ → Class → List ℕ → Kinds → List ℕ
answer_line id number place class form ks =
    id ++ (0x09 ∷ []) ++ decimal number ++ (0x09 ∷ []) ++ decimal place ++ (0x09 ∷ [])
    ++ (letter class ∷ []) ++ (0x09 ∷ []) ++ form ++ (0x09 ∷ []) ++ kind_field ks ++ (0x0A ∷ [])

-- class, form and kinds are - with a refusal
unfoldable pub refused_answer : List ℕ → ℕ → ℕ → List ℕ
refused_answer id number place = answer_line id number place None (0x2D ∷ []) no_kinds

-- with 16 the id is -
unfoldable pub bad_answer : List ℕ
bad_answer = refused_answer (0x2D ∷ []) 16 0

-- number and place are those of the whole ASCII form, given room; class, form and kinds are - unless the number is 0
unfoldable pub good_answer : Permits → List ℕ → List ℕ → List ℕ
good_answer P id text =
    let a = first (ascii_rows P text 192) in
    let ls = labels (normal_form text) in
    let v = verdict a ls in
    let form = pick (eqb a.number 0) (ascii_form P (normal_form text)) (0x2D ∷ []) in
    answer_line id v.number v.place v.class form (kinds_said P ls v.number)

-- the name that a line holds, as a text
abbrev pub text_of : List ℕ → List ℕ
text_of line = (decoded (name_of line)).codes

unfoldable pub answer_to : Permits → List ℕ → List ℕ
answer_to P line = pick (bad_line line) bad_answer (good_answer P (id_of line) (text_of line))
