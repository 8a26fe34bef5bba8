-- UTF-8 (RFC 3629, section 3), as encoding and as decoding, on lists. `decoded` takes exactly the encodings of lists of
-- scalar values, each to its list (proofs/Encoding).
use Rattle.std.specs.Prelude.{ℕ, zero, suc, ◌+◌, ◌-◌, ◌*◌, ◌/◌, ◌%◌, Bool, true, false, ◌&&◌, ◌||◌, List, [], ◌∷◌, ◌++◌, eqb, leb, ltb}
use Rattle.lists.specs.Tests.{pick, within}

-- a Unicode scalar value: 0 to D7FF, E000 to 10FFFF ('characters from the U+0000..U+10FFFF range .. are encoded', and
-- 'the definition of UTF-8 prohibits encoding character numbers between U+D800 and U+DFFF')
unfoldable pub scalar : ℕ → Bool
scalar c = ltb c 0xD800 || within 0xE000 0x10FFFF c

-- ---- encoding: the table of RFC 3629, a row each; the x's of a row are the value's bits, highest first, six to each
-- octet that follows
--
--     0000 0000-0000 007F   0xxxxxxx
--     0000 0080-0000 07FF   110xxxxx 10xxxxxx
--     0000 0800-0000 FFFF   1110xxxx 10xxxxxx 10xxxxxx
--     0001 0000-0010 FFFF   11110xxx 10xxxxxx 10xxxxxx 10xxxxxx

unfoldable pub encode : ℕ → List ℕ
encode c =
    pick (ltb c 0x80) (c ∷ [])
    (pick (ltb c 0x800) ((0xC0 + c / 64) ∷ (0x80 + c % 64) ∷ [])
    (pick (ltb c 0x10000) ((0xE0 + c / 64 / 64) ∷ (0x80 + c / 64 % 64) ∷ (0x80 + c % 64) ∷ [])
    ((0xF0 + c / 64 / 64 / 64) ∷ (0x80 + c / 64 / 64 % 64) ∷ (0x80 + c / 64 % 64) ∷ (0x80 + c % 64) ∷ [])))

unfoldable pub encodes : List ℕ → List ℕ
encodes [] = []
encodes (c ∷ cs) = encode c ++ encodes cs

-- ---- decoding

-- what is decoded: the code points before the first fault, and whether there is none
pub record Text : Type 0 where
  pub codes : List ℕ
  pub ok : Bool

abbrev pub put : ℕ → Text → Text
put c t = record { codes = c ∷ t.codes; ok = t.ok }

abbrev pub fault : Text
fault = record { codes = []; ok = false }

-- what a first byte of 80 or more says by the table's second column: how many follow (0: it begins no row, as 10xxxxxx
-- and 11111xxx do not); by its first column, the least value of that row; and its own x's
abbrev pub need_of : ℕ → ℕ
need_of b = pick (ltb b 0xC0) 0 (pick (ltb b 0xE0) 1 (pick (ltb b 0xF0) 2 (pick (ltb b 0xF8) 3 0)))

abbrev pub least_of : ℕ → ℕ
least_of b = pick (ltb b 0xE0) 0x80 (pick (ltb b 0xF0) 0x800 0x10000)

abbrev pub bits_of : ℕ → ℕ
bits_of b = pick (ltb b 0xE0) (b - 0xC0) (pick (ltb b 0xF0) (b - 0xE0) (b - 0xF0))

-- a value that has all its bytes is a proper one: no overlong form (it is in the row that its first byte named, or
-- above), and a scalar value
unfoldable pub proper : ℕ → ℕ → Bool
proper least v = leb least v && scalar v

-- `need` bytes 10xxxxxx are yet to follow of a value that has `acc` so far
unfoldable pub decode_from : ℕ → ℕ → ℕ → List ℕ → Text
decode_from zero least acc [] = record { codes = []; ok = true }
decode_from (suc k) least acc [] = fault
decode_from zero least acc (b ∷ s) =
    pick (ltb b 0x80) (put b (decode_from 0 0 0 s))
    (pick (eqb (need_of b) 0) fault (decode_from (need_of b) (least_of b) (bits_of b) s))
decode_from (suc zero) least acc (b ∷ s) =
    pick (within 0x80 0xBF b)
    (pick (proper least (acc * 64 + (b - 0x80))) (put (acc * 64 + (b - 0x80)) (decode_from 0 0 0 s)) fault)
    fault
decode_from (suc (suc k)) least acc (b ∷ s) =
    pick (within 0x80 0xBF b) (decode_from (suc k) least (acc * 64 + (b - 0x80)) s) fault

abbrev pub decoded : List ℕ → Text
decoded s = decode_from 0 0 0 s
