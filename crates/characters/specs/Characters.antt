-- Which code point is what: document 01, 'Characters'. A code point is any 32-bit number. Where editions of the rules
-- differ (document 02, K12) an edition is told by its number; one that is none of 1 to 4 is taken for 4 here.
use Rattle.std.specs.Prelude.{Bool, true, false, ◌&&◌, ◌||◌, List, [], ◌∷◌, ℕ, ◌-◌, ◌/◌, ◌%◌, ◌^◌, eqb, get_or}
use Rattle.lists.specs.Tests.{pick, within, any_of, elem}
use Rattle.characters.specs.Kanji.{kanji}
use Rattle.characters.specs.Kinds.{Kind}
use Rattle.characters.specs.Kinds.{Hiragana, Katakana, Kanji, Sign, None}

-- ASCII set: letters, digits, hyphen 2D. Letters are in lower case, as the normal form has them
unfoldable pub alnum : ℕ → Bool
alnum c = within 0x30 0x39 c || within 0x61 0x7A c

unfoldable pub hyphen : ℕ → Bool
hyphen c = eqb c 0x2D

unfoldable pub ascii_set : ℕ → Bool
ascii_set c = alnum c || hyphen c

-- the four separators, in the application text: exactly what a period replaces (proofs/Separators)
unfoldable pub separators : List ℕ
separators = 0x2E ∷ 0xFF0E ∷ 0x3002 ∷ 0xFF61 ∷ []

unfoldable pub separator : ℕ → Bool
separator c = elem c separators

-- ---- Japanese characters, and the kind of each: document 02, K6

-- document 02's letter of each kind: H, K, J, S, and - for none
unfoldable pub kind_letter : Kind → ℕ
kind_letter Hiragana = 0x48
kind_letter Katakana = 0x4B
kind_letter Kanji = 0x4A
kind_letter Sign = 0x53
kind_letter None = 0x2D

-- the four kinds, in its order
unfoldable pub kinds : List Kind
kinds = Hiragana ∷ Katakana ∷ Kanji ∷ Sign ∷ []

-- ten signs of row 1
unfoldable pub signs : List ℕ
signs = 0x30FB ∷ 0x30FD ∷ 0x30FE ∷ 0x309D ∷ 0x309E ∷ 0x4EDD ∷ 0x3005 ∷ 0x3006 ∷ 0x3007 ∷ 0x30FC ∷ []

-- those of an edition: in edition 1 3003 is one too, from edition 2 on it is not (document 02, K12)
unfoldable pub signs_in : ℕ → List ℕ
signs_in edition = pick (eqb edition 1) (0x3003 ∷ signs) signs

-- the stretch of each kind: 3041 to 3093, 30A1 to 30F6, the kanji, the signs of row 1; over which code points are
-- kanji, and the edition
unfoldable pub stretch : (ℕ → Bool) → ℕ → Kind → ℕ → Bool
stretch isKanji edition Hiragana c = within 0x3041 0x3093 c
stretch isKanji edition Katakana c = within 0x30A1 0x30F6 c
stretch isKanji edition Kanji c = isKanji c
stretch isKanji edition Sign c = elem c (signs_in edition)
stretch isKanji edition None c = false

-- the first of these kinds whose stretch holds c, and none where there is no such kind
unfoldable pub kind_among : (ℕ → Bool) → ℕ → List Kind → ℕ → Kind
kind_among isKanji edition [] c = None
kind_among isKanji edition (k ∷ ks) c = pick (stretch isKanji edition k c) k (kind_among isKanji edition ks c)

unfoldable pub kind_by : (ℕ → Bool) → ℕ → ℕ → Kind
kind_by isKanji edition c = kind_among isKanji edition kinds c

-- the kind of a code point in an edition; no stretch holds what another holds (proofs/OneKind), so the order is of no
-- matter
unfoldable pub kind : ℕ → ℕ → Kind
kind edition c = kind_by (λ x. elem x kanji) edition c

-- any but none
unfoldable pub any_kind : Kind → Bool
any_kind Hiragana = true
any_kind Katakana = true
any_kind Kanji = true
any_kind Sign = true
any_kind None = false

-- the Japanese characters of an edition, as document 01 lists those of edition 4, today's: the characters of the four
-- stretches. They are those of any kind but none (proofs/OneKind)
unfoldable pub japanese_by : (ℕ → Bool) → ℕ → ℕ → Bool
japanese_by isKanji edition c = any_of (λ (k : Kind). stretch isKanji edition k c) kinds

unfoldable pub japanese : ℕ → ℕ → Bool
japanese edition c = japanese_by (λ x. elem x kanji) edition c

-- bit k of a word, counted from the lowest, is set
abbrev pub bit_set : ℕ → ℕ → Bool
bit_set w k = eqb (w / 2 ^ k % 2) 1

-- a table that is lent for the kanji: one bit for each code point from 4E00 to 9FA0, 32 to a word; where the table is
-- too short it has none
unfoldable pub kanji_with : List ℕ → ℕ → Bool
kanji_with table c = within 0x4E00 0x9FA0 c && bit_set (get_or table ((c - 0x4E00) / 32) 0) ((c - 0x4E00) % 32)

-- the kind of a code point by such a table; by the bits of the kanji themselves it is `kind` (proofs/Lent)
unfoldable pub kind_with : List ℕ → ℕ → ℕ → Kind
kind_with table edition c = kind_by (kanji_with table) edition c
