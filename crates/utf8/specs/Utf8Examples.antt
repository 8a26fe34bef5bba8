-- UTF-8 by example, computed: RFC 3629's own samples, the edges of its table, and bytes that are not well-formed.
use Rattle.std.specs.Prelude.{◌≡◌, refl, true, false, List, [], ◌∷◌, ◌++◌, map, ℕ}
use Rattle.lists.specs.Tests.{within, any_of}
use Rattle.utf8.specs.Utf8.{scalar, encode, encodes, proper, decode_from, decoded}

-- code points, and the bytes that are their encoding
pub record Sample : Type 0 where
  pub codes : List ℕ
  pub bytes : List ℕ

abbrev sample : List ℕ → List ℕ → Sample
sample cs bs = record { codes = cs; bytes = bs }

pub samples : List Sample
samples =
    -- section 7: 'A', not identical to, alpha, '.'; the Korean and the Japanese for their languages; a byte order mark
    -- and 233B4
    sample (0x41 ∷ 0x2262 ∷ 0x391 ∷ 0x2E ∷ []) (0x41 ∷ 0xE2 ∷ 0x89 ∷ 0xA2 ∷ 0xCE ∷ 0x91 ∷ 0x2E ∷ []) ∷
    sample (0xD55C ∷ 0xAD6D ∷ 0xC5B4 ∷ []) (0xED ∷ 0x95 ∷ 0x9C ∷ 0xEA ∷ 0xB5 ∷ 0xAD ∷ 0xEC ∷ 0x96 ∷ 0xB4 ∷ []) ∷
    sample (0x65E5 ∷ 0x672C ∷ 0x8A9E ∷ []) (0xE6 ∷ 0x97 ∷ 0xA5 ∷ 0xE6 ∷ 0x9C ∷ 0xAC ∷ 0xE8 ∷ 0xAA ∷ 0x9E ∷ []) ∷
    sample (0xFEFF ∷ 0x233B4 ∷ []) (0xEF ∷ 0xBB ∷ 0xBF ∷ 0xF0 ∷ 0xA3 ∷ 0x8E ∷ 0xB4 ∷ []) ∷
    -- the first and the last of each row of the table, and the scalar values next to the surrogates
    sample (0x00 ∷ 0x7F ∷ []) (0x00 ∷ 0x7F ∷ []) ∷
    sample (0x80 ∷ 0x7FF ∷ []) (0xC2 ∷ 0x80 ∷ 0xDF ∷ 0xBF ∷ []) ∷
    sample (0x800 ∷ 0xD7FF ∷ []) (0xE0 ∷ 0xA0 ∷ 0x80 ∷ 0xED ∷ 0x9F ∷ 0xBF ∷ []) ∷
    sample (0xE000 ∷ 0xFFFF ∷ []) (0xEE ∷ 0x80 ∷ 0x80 ∷ 0xEF ∷ 0xBF ∷ 0xBF ∷ []) ∷
    sample (0x10000 ∷ 0x10FFFF ∷ []) (0xF0 ∷ 0x90 ∷ 0x80 ∷ 0x80 ∷ 0xF4 ∷ 0x8F ∷ 0xBF ∷ 0xBF ∷ []) ∷
    sample [] [] ∷
    []

pub samples_are_read : map (λ (s : Sample). decoded s.bytes) samples
    ≡ map (λ (s : Sample). record { codes = s.codes; ok = true }) samples
unfolding samples decode_from within proper scalar
samples_are_read = refl

pub samples_are_encoded : map (λ (s : Sample). encodes s.codes) samples ≡ map (λ (s : Sample). s.bytes) samples
unfolding samples encodes encode
samples_are_encoded = refl

-- overlong forms: of 0, '/' and 7F in two bytes, of 7FF in three, of FFFF in four
pub overlong : List (List ℕ)
overlong =
    (0xC0 ∷ 0x80 ∷ []) ∷
    (0xC0 ∷ 0xAF ∷ []) ∷
    (0xC1 ∷ 0xBF ∷ []) ∷
    (0xE0 ∷ 0x9F ∷ 0xBF ∷ []) ∷
    (0xF0 ∷ 0x8F ∷ 0xBF ∷ 0xBF ∷ []) ∷
    []

-- D800, DFFF, and 233B4 as two surrogates
pub surrogates : List (List ℕ)
surrogates =
    (0xED ∷ 0xA0 ∷ 0x80 ∷ []) ∷
    (0xED ∷ 0xBF ∷ 0xBF ∷ []) ∷
    (0xED ∷ 0xA1 ∷ 0x8C ∷ 0xED ∷ 0xBE ∷ 0xB4 ∷ []) ∷
    []

-- 110000, 1FFFFF, and first bytes of no row
pub too_high : List (List ℕ)
too_high =
    (0xF4 ∷ 0x90 ∷ 0x80 ∷ 0x80 ∷ []) ∷
    (0xF7 ∷ 0xBF ∷ 0xBF ∷ 0xBF ∷ []) ∷
    (0xF8 ∷ 0x88 ∷ 0x80 ∷ 0x80 ∷ 0x80 ∷ []) ∷
    (0xFE ∷ []) ∷
    (0xFF ∷ []) ∷
    []

-- bytes 10xxxxxx that no first byte asked for, and first bytes that miss one: at the end, or where another byte stands
pub uneven : List (List ℕ)
uneven =
    (0x80 ∷ []) ∷
    (0xBF ∷ []) ∷
    (0x61 ∷ 0x80 ∷ []) ∷
    (0xC2 ∷ 0x80 ∷ 0x80 ∷ []) ∷
    (0xC2 ∷ []) ∷
    (0xE3 ∷ 0x81 ∷ []) ∷
    (0xF0 ∷ 0x90 ∷ 0x80 ∷ []) ∷
    (0xE3 ∷ 0x81 ∷ 0x61 ∷ []) ∷
    (0xE3 ∷ 0x61 ∷ 0x82 ∷ []) ∷
    (0xC2 ∷ 0xC2 ∷ []) ∷
    []

pub none_is_read : any_of (λ (bytes : List ℕ). (decoded bytes).ok) (overlong ++ surrogates ++ too_high ++ uneven) ≡ false
unfolding overlong surrogates too_high uneven any_of decode_from within proper scalar
none_is_read = refl
