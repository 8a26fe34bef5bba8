-- Hosts with what is said of them, and hosts that fix the order of the rows, as one table under one statement: document
-- 02, K10. It is computed by the bits of the kanji, which are asked faster than their list; of the edition in force it
-- is `hosts_tried_today` (proofs/InForce).
use Rattle.std.specs.Prelude.{◌≡◌, refl, List, [], ◌∷◌, ◌++◌, map, ℕ, zero, suc, replicate}
use Rattle.lists.specs.Tests.{within, all_of, any_of, index_of, elem}
use Rattle.lists.specs.Rows.{Row, accepted, first, without}
use Rattle.lists.specs.Rows.{Answer}
use Rattle.characters.specs.KanjiBits.{kanji_bits}
use Rattle.characters.specs.Characters.{alnum, hyphen, ascii_set, kinds, signs, signs_in, stretch, kind_among, kind_by}
use Rattle.characters.specs.Characters.{any_kind}
use Rattle.characters.specs.Characters.{kanji_with, kind_with}
use Rattle.characters.specs.Replace.{ranges, range_in, half_kana, is_half, replace_in, replace}
use Rattle.characters.specs.Compose.{voiced, repeats, half_voiced, either_kana, composed}
use Rattle.normal.specs.Normal.{replaced_from, compose, normal_placed, normal_form, places}
use Rattle.punycode.specs.Punycode.{digit, adapt_loop, damped, adapt, threshold, varint, add, emit, point, points}
use Rattle.punycode.specs.Punycode.{nearer, least, passes, below, delimiter, initial, extended, encode, ace}
use Rattle.punycode.specs.Punycode.{ldh, wide, allowed, encodable}
use Rattle.punycode.specs.Punycode as Puny
use Rattle.punycode.specs.Calls.{coder_number}
use Rattle.rules.specs.Labels.{period, into_first, labels, join}
use Rattle.rules.specs.Permits.{Permits, ja_char, label_char, is_empty}
use Rattle.rules.specs.Rules.{unfit, is_middle_dot, ordinary, is_japanese, begins_with_hyphen, ends_with_hyphen, hyphen_edge}
use Rattle.rules.specs.Rules.{short, long, hyphen_pair, pretends, bare_dot, label_rows, front_rows}
use Rattle.rules.specs.Hosts.{each_rows, host_rows, host_text_rows}
use Rattle.rules.specs.Editions.{middles_in, edition_with, today_with}
use Rattle.ascii.specs.Ascii.{ascii_label, ascii_form, uncoded}
use Rattle.hosts.specs.Hosts.{coded_rows, rows, host_rules, call_rows}

-- a text that is accepted, with its ASCII form; or refused, with what is said in turn: first of the text, next of it
-- without the rows of the first's number, and so on, since all of these rows apply to it; or the same of the call that
-- is lent a buffer of so many octets
pub data Case : Type 0 where
  accepts : List ℕ → List ℕ → Case
  refuses : List ℕ → List Answer → Case
  call_refuses : ℕ → List ℕ → List Answer → Case

-- what a table says in turn, where it ought to say these
unfoldable pub in_turn : List Row → List Answer → List Answer
in_turn rs [] = []
in_turn rs (x ∷ xs) = first rs ∷ in_turn (without x.number rs) xs

-- what is said of its text, and the ASCII form where that is asked; and what ought to be
abbrev pub said : Permits → Case → List Answer × List ℕ
said P (accepts text form) = (host_rules P text ∷ [], ascii_form P (normal_form text))
said P (refuses text turn) = (in_turn (rows P text) turn, [])
said P (call_refuses room text turn) = (in_turn (call_rows P text room) turn, [])

abbrev pub meant : Case → List Answer × List ℕ
meant (accepts text form) = (accepted ∷ [], form)
meant (refuses text turn) = (turn, [])
meant (call_refuses room text turn) = (turn, [])

-- a text that is its own ASCII form
abbrev keeps : List ℕ → Case
keeps text = accepts text text

-- a number and its place
abbrev no : ℕ → ℕ → Answer
no n p = record { number = n; place = p }

-- ---- labels

-- n letters a; n of 3042, and the encoding of n + 1 of them, which has n + 7 octets
abbrev letters : ℕ → List ℕ
letters n = replicate n 0x61

abbrev kana : ℕ → List ℕ
kana n = replicate n 0x3042

abbrev kana_coded : ℕ → List ℕ
kana_coded n = 0x78 ∷ 0x6E ∷ 0x2D ∷ 0x2D ∷ 0x6C ∷ 0x38 ∷ 0x6A ∷ letters n

abbrev a : List ℕ
a = letters 1

abbrev b : List ℕ
b = 0x62 ∷ []

abbrev c : List ℕ
c = 0x63 ∷ []

abbrev jp : List ℕ
jp = 0x6A ∷ 0x70 ∷ []

-- 7, 17 and 10: -c; ab--c; 30FB
abbrev edged : List ℕ
edged = 0x2D ∷ c

abbrev paired : List ℕ
paired = 0x61 ∷ 0x62 ∷ 0x2D ∷ 0x2D ∷ c

abbrev dot : List ℕ
dot = 0x30FB ∷ []

-- 9 and 14: a Japanese character and 59 letters; the encoding has 69 octets
abbrev wordy : ℕ → List ℕ
wordy x = x ∷ letters 59

-- n of FF76 FF9E
unfoldable pub half_ga : ℕ → List ℕ
half_ga zero = []
half_ga (suc n) = 0xFF76 ∷ 0xFF9E ∷ half_ga n

-- ---- the table

abbrev pub table : List Case
table =
    -- a.b.c; 1.2.3.4; (3042).3042.jp; a.b.3042
    keeps (join (a ∷ b ∷ c ∷ [])) ∷
    keeps (0x31 ∷ 0x2E ∷ 0x32 ∷ 0x2E ∷ 0x33 ∷ 0x2E ∷ 0x34 ∷ []) ∷
    accepts (join (kana 1 ∷ kana 1 ∷ jp ∷ [])) (join (kana_coded 0 ∷ kana_coded 0 ∷ jp ∷ [])) ∷
    accepts (join (a ∷ b ∷ kana 1 ∷ [])) (join (a ∷ b ∷ kana_coded 0 ∷ [])) ∷
    -- A FF42 2212 c 3002 FF76 FF9E FF61 FF2A P: ab-c.xn--mck.jp
    accepts (0x41 ∷ 0xFF42 ∷ 0x2212 ∷ 0x63 ∷ 0x3002 ∷ 0xFF76 ∷ 0xFF9E ∷ 0xFF61 ∷ 0xFF2A ∷ 0x50 ∷ [])
    (0x61 ∷ 0x62 ∷ 0x2D ∷ 0x63 ∷ 0x2E ∷ 0x78 ∷ 0x6E ∷ 0x2D ∷ 0x2D ∷ 0x6D ∷ 0x63 ∷ 0x6B ∷ 0x2E ∷ jp) ∷
    -- a.b; a.b.c. with a last period; a.b.-c
    refuses (join (a ∷ b ∷ [])) (no 5 0 ∷ accepted ∷ []) ∷
    refuses (join (a ∷ b ∷ c ∷ [] ∷ [])) (no 6 3 ∷ []) ∷
    refuses (join (a ∷ b ∷ edged ∷ [])) (no 7 2 ∷ accepted ∷ []) ∷
    -- a.3042 3042 --(3042).c: the pair in a Japanese label; a.b.xn--l8j
    refuses (join (a ∷ (0x3042 ∷ 0x3042 ∷ 0x2D ∷ 0x2D ∷ 0x3042 ∷ []) ∷ c ∷ [])) (no 17 1 ∷ accepted ∷ []) ∷
    refuses (join (a ∷ b ∷ kana_coded 0 ∷ [])) (no 17 2 ∷ accepted ∷ []) ∷
    -- 63 and 64 letters; fifteen and sixteen of 3042; 30FB alone
    keeps (join (a ∷ letters 63 ∷ c ∷ [])) ∷
    refuses (join (a ∷ letters 64 ∷ c ∷ [])) (no 9 1 ∷ accepted ∷ []) ∷
    accepts (join (a ∷ b ∷ kana 15 ∷ [])) (join (a ∷ b ∷ kana_coded 14 ∷ [])) ∷
    refuses (join (a ∷ b ∷ kana 16 ∷ [])) (no 9 2 ∷ accepted ∷ []) ∷
    refuses (join (a ∷ dot ∷ c ∷ [])) (no 10 1 ∷ accepted ∷ []) ∷
    -- nine labels of fifteen FF76 FF9E: 278 code points, though the normal form, of 143, would do
    refuses (join (replicate 9 (half_ga 15))) (no 3 256 ∷ accepted ∷ []) ∷
    accepts (normal_form (join (replicate 9 (half_ga 15))))
    (join (replicate 9 (0x78 ∷ 0x6E ∷ 0x2D ∷ 0x2D ∷ 0x6D ∷ 0x63 ∷ 0x6B ∷ letters 14))) ∷
    -- 253 and 254 octets: by three labels of 63 letters and one of 61 or 62, and by eleven of fifteen 3042 and one of
    -- five or six; 127 labels of a letter, and 128
    keeps (join (letters 63 ∷ letters 63 ∷ letters 63 ∷ letters 61 ∷ [])) ∷
    refuses (join (letters 63 ∷ letters 63 ∷ letters 63 ∷ letters 62 ∷ [])) (no 19 0 ∷ accepted ∷ []) ∷
    accepts (join (kana 5 ∷ replicate 11 (kana 15))) (join (kana_coded 4 ∷ replicate 11 (kana_coded 14))) ∷
    refuses (join (kana 6 ∷ replicate 11 (kana 15))) (no 19 0 ∷ accepted ∷ []) ∷
    keeps (join (replicate 127 a)) ∷
    refuses (join (replicate 128 a)) (no 19 0 ∷ accepted ∷ []) ∷
    -- The order of the rows. Nothing, with 254 octets of room and with 255: 8 is behind 6, so that it never comes
    call_refuses 254 [] (no 1 0 ∷ no 2 0 ∷ no 5 0 ∷ no 6 0 ∷ no 8 0 ∷ accepted ∷ []) ∷
    call_refuses 255 [] (no 2 0 ∷ []) ∷
    -- 257 code points, -30FB --, a blank, letters and a last period: every row but 2 applies, those of a label in its
    -- order, 7, 9, 17 and 10; 8 is of the empty label
    call_refuses 254 (0x2D ∷ 0x30FB ∷ 0x2D ∷ 0x2D ∷ 0x20 ∷ (letters 251 ++ 0x2E ∷ []))
    (no 1 0 ∷ no 3 256 ∷ no 4 4 ∷ no 5 0 ∷ no 6 1 ∷ no 7 0 ∷ no 9 0 ∷ no 17 0 ∷ no 10 0 ∷ no 8 1 ∷ no 14 0 ∷ no 19 0 ∷
    accepted ∷ []) ∷
    -- -c.b. with a last period: an empty label anywhere comes before what is asked of a label
    refuses (join (edged ∷ b ∷ [] ∷ [])) (no 6 2 ∷ no 7 0 ∷ []) ∷
    -- then the leftmost label wins over the lower number: (30FB).ab--c.64 letters.-c; and of one number the first label
    refuses (join (dot ∷ paired ∷ letters 64 ∷ edged ∷ [])) (no 10 0 ∷ no 17 1 ∷ no 9 2 ∷ no 7 3 ∷ accepted ∷ []) ∷
    refuses (join (dot ∷ edged ∷ c ∷ [])) (no 10 0 ∷ no 7 1 ∷ []) ∷
    refuses (join (paired ∷ edged ∷ c ∷ [])) (no 17 0 ∷ no 7 1 ∷ []) ∷
    refuses (join (letters 64 ∷ b ∷ edged ∷ [])) (no 9 0 ∷ no 7 2 ∷ []) ∷
    refuses (join (a ∷ edged ∷ edged ∷ [])) (no 7 1 ∷ accepted ∷ []) ∷
    -- 14 after the rows of every label, of the first label that brings it, and before 19; each such label is long
    refuses (join (a ∷ wordy 0x30FB ∷ c ∷ [])) (no 9 1 ∷ no 10 1 ∷ no 14 1 ∷ accepted ∷ []) ∷
    refuses (join (wordy 0x3042 ∷ b ∷ dot ∷ [])) (no 9 0 ∷ no 10 2 ∷ no 14 0 ∷ accepted ∷ []) ∷
    refuses (join (a ∷ wordy 0x3042 ∷ wordy 0x3042 ∷ c ∷ [])) (no 9 1 ∷ no 14 1 ∷ accepted ∷ []) ∷
    refuses (join (letters 63 ∷ letters 63 ∷ letters 63 ∷ wordy 0x3042 ∷ []))
    (no 9 3 ∷ no 14 3 ∷ no 19 0 ∷ accepted ∷ []) ∷
    []

pub tried : map (said (today_with kanji_bits)) table ≡ map meant table
unfolding within all_of any_of index_of elem first without alnum hyphen ascii_set kinds signs signs_in stretch kind_among
    kind_by any_kind kanji_with kind_with ranges range_in half_kana is_half replace_in replace voiced repeats half_voiced
    either_kana composed replaced_from compose normal_placed normal_form places digit adapt_loop damped adapt threshold
    varint add emit point points nearer least passes below delimiter initial extended encode ace Puny.alnum ldh wide
    allowed encodable coder_number period into_first labels join ja_char label_char is_empty unfit is_middle_dot ordinary
    is_japanese begins_with_hyphen ends_with_hyphen hyphen_edge short long hyphen_pair pretends bare_dot label_rows front_rows
    each_rows host_rows host_text_rows middles_in edition_with ascii_label ascii_form uncoded coded_rows rows host_rules
    call_rows in_turn half_ga
tried = refl
