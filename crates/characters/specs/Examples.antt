-- Closed examples of document 01, 'Normal form', and of document 02, K2, K6 and K12, by computation.
use Rattle.std.specs.Prelude.{◌≡◌, refl, ℕ}
use mathlib.Core.List.{[], ◌∷◌, ◌++◌, map, replicate}
use Rattle.lists.specs.Tests.{within, any_of, elem}
use Rattle.characters.specs.Kanji.{kanji}
use Rattle.characters.specs.Characters.{kind_letter, kinds, signs, signs_in, stretch, kind_among, kind_by, kind}
use Rattle.characters.specs.Replace.{ranges, range_in, half_kana, is_half, replace_in, replace}
use Rattle.characters.specs.Compose.{voiced, repeats, half_voiced, either_kana, composed}

-- A, Z; the wide A and z; the wide 7; the wide hyphen, the minus sign; the four separators; the first and the last
-- half-width kana
pub replacing :
    map replace
    (0x41 ∷ 0x5A ∷ 0xFF21 ∷ 0xFF5A ∷ 0xFF17 ∷ 0xFF0D ∷ 0x2212 ∷ 0x2E ∷ 0xFF0E ∷ 0x3002 ∷ 0xFF61 ∷ 0xFF65 ∷ 0xFF9F ∷ [])
    ≡ 0x61 ∷ 0x7A ∷ 0x61 ∷ 0x7A ∷ 0x37 ∷ 0x2D ∷ 0x2D ∷ 0x2E ∷ 0x2E ∷ 0x2E ∷ 0x2E ∷ 0x30FB ∷ 0x309C ∷ []
unfolding ranges range_in half_kana is_half replace_in replace within
replacing = refl

-- what stands beside a range stays, and so do other dashes, 2010 and 2015
pub staying :
    map replace
    (0x40 ∷ 0x5B ∷ 0x60 ∷ 0x7B ∷ 0x2211 ∷ 0x2213 ∷ 0xFF64 ∷ 0xFFA0 ∷ 0x3042 ∷ 0xFFFFFFFF ∷ 0x2010 ∷ 0x2015 ∷ [])
    ≡ 0x40 ∷ 0x5B ∷ 0x60 ∷ 0x7B ∷ 0x2211 ∷ 0x2213 ∷ 0xFF64 ∷ 0xFFA0 ∷ 0x3042 ∷ 0xFFFFFFFF ∷ 0x2010 ∷ 0x2015 ∷ []
unfolding ranges range_in half_kana is_half replace_in replace within
staying = refl

-- 30AB, its hiragana, both repeat signs and 30A6 with mark 309B
pub voicing : map (λ (b : ℕ). composed b 0x309B) (0x30AB ∷ 0x304B ∷ 0x309D ∷ 0x30FD ∷ 0x30A6 ∷ [])
    ≡ 0x30AC ∷ 0x304C ∷ 0x309E ∷ 0x30FE ∷ 0x30F4 ∷ []
unfolding voiced repeats half_voiced either_kana composed elem any_of
voicing = refl

-- 30CF and its hiragana with mark 309C
pub half_voicing : map (λ (b : ℕ). composed b 0x309C) (0x30CF ∷ 0x306F ∷ []) ≡ 0x30D1 ∷ 0x3071 ∷ []
unfolding voiced repeats half_voiced either_kana composed elem any_of
half_voicing = refl

-- 3046 is not composed, nor is what is composed already, nor 30AB with the other mark
pub apart : composed 0x3046 0x309B ∷ composed 0x30D0 0x309C ∷ composed 0x30AC 0x309B ∷ composed 0x30AB 0x309C ∷ []
    ≡ 0 ∷ 0 ∷ 0 ∷ 0 ∷ []
unfolding voiced repeats half_voiced either_kana composed elem any_of
apart = refl

-- ---- the kinds: document 02, K6, in edition 4

-- by their letters: the ends of each stretch; 4EDD, which lies among the kanji; the prolonged sound mark, the middle
-- dot and two repeat signs, which lie beside the kana; 3007
pub kinds_of :
    map (λ (c : ℕ). kind_letter (kind 4 c))
    (0x3041 ∷ 0x3093 ∷ 0x30A1 ∷ 0x30F6 ∷ 0x4E00 ∷ 0x9FA0 ∷ 0x4EDD ∷ 0x30FC ∷ 0x30FB ∷ 0x309D ∷ 0x30FD ∷ 0x3007 ∷ [])
    ≡ 0x48 ∷ 0x48 ∷ 0x4B ∷ 0x4B ∷ 0x4A ∷ 0x4A ∷ 0x53 ∷ 0x53 ∷ 0x53 ∷ 0x53 ∷ 0x53 ∷ 0x53 ∷ []
unfolding kind_letter kinds signs signs_in stretch kind_among kind_by kind kanji within any_of elem
kinds_of = refl

-- what is beside a stretch, 3003, a letter and a half-width kana have none
pub no_kinds_of : map (λ (c : ℕ). kind_letter (kind 4 c)) (0x3040 ∷ 0x3094 ∷ 0x30A0 ∷ 0x30F7 ∷ 0x3003 ∷ 0x61 ∷ 0xFF71 ∷ [])
    ≡ 0x2D ∷ 0x2D ∷ 0x2D ∷ 0x2D ∷ 0x2D ∷ 0x2D ∷ 0x2D ∷ []
unfolding kind_letter kinds signs signs_in stretch kind_among kind_by kind kanji within any_of elem
no_kinds_of = refl

-- what the half-width kana FF65 to FF9F become: the middle dot is a sign, ten are katakana, the prolonged sound mark is
-- a sign, 45 are katakana, and the two marks have no kind
pub half_kinds_of : map (λ (c : ℕ). kind_letter (kind 4 c)) half_kana
    ≡ 0x53 ∷ (replicate 10 0x4B ++ 0x53 ∷ (replicate 45 0x4B ++ 0x2D ∷ 0x2D ∷ []))
unfolding kind_letter kinds signs signs_in stretch kind_among kind_by kind kanji half_kana within any_of elem
half_kinds_of = refl

-- 3003 in editions 0 to 5: a sign in edition 1 alone (document 02, K12)
pub ditto_of : map (λ (edition : ℕ). kind_letter (kind edition 0x3003)) (0 ∷ 1 ∷ 2 ∷ 3 ∷ 4 ∷ 5 ∷ [])
    ≡ 0x2D ∷ 0x53 ∷ 0x2D ∷ 0x2D ∷ 0x2D ∷ 0x2D ∷ []
unfolding kind_letter kinds signs signs_in stretch kind_among kind_by kind kanji within any_of elem
ditto_of = refl
