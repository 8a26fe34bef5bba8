-- What replaces a code point: document 01, 'Normal form'; 2212 is of document 02, K2. Its replacement class is decided
-- by ranges.
use Rattle.std.specs.Prelude.{Bool, true, false, List, [], ◌∷◌, ℕ, ◌+◌, ◌-◌, get_or}
use Rattle.lists.specs.Tests.{pick, within}
use Rattle.characters.specs.declared.Replacement.{Replacement}
use Rattle.characters.specs.declared.Replacement.TheVariants.{Letter, Digit, Hyphen, Separator}
use Rattle.characters.specs.declared.Replacement.TheVariants.{HalfKana, Mark, Other}

-- the code points from .. to, their replacement class, and what the first of them becomes; the others follow in order
pub record Range : Type 0 where
  pub from : ℕ
  pub to : ℕ
  pub class : Replacement
  pub start : ℕ

abbrev pub range : ℕ → ℕ → Replacement → ℕ → Range
range a b k s = record { from = a; to = b; class = k; start = s }

unfoldable pub ranges : List Range
ranges =
    range 0x41 0x5A Letter 0x61 ∷
    range 0x61 0x7A Letter 0x61 ∷
    range 0xFF21 0xFF3A Letter 0x61 ∷
    range 0xFF41 0xFF5A Letter 0x61 ∷
    range 0x30 0x39 Digit 0x30 ∷
    range 0xFF10 0xFF19 Digit 0x30 ∷
    range 0x2D 0x2D Hyphen 0x2D ∷
    range 0xFF0D 0xFF0D Hyphen 0x2D ∷
    range 0x2212 0x2212 Hyphen 0x2D ∷
    range 0x2E 0x2E Separator 0x2E ∷
    range 0xFF0E 0xFF0E Separator 0x2E ∷
    range 0x3002 0x3002 Separator 0x2E ∷
    range 0xFF61 0xFF61 Separator 0x2E ∷
    range 0xFF65 0xFF9F HalfKana 0x30FB ∷
    range 0x309B 0x309C Mark 0x309B ∷
    []

-- the range that holds c; all else is a range of its own that stays
unfoldable pub range_in : List Range → ℕ → Range
range_in [] c = range c c Other c
range_in (r ∷ rs) c = pick (within r.from r.to c) r (range_in rs c)

unfoldable pub class_of : ℕ → Replacement
class_of c = (range_in ranges c).class

-- FF65..FF9F become, in order
unfoldable pub half_kana : List ℕ
half_kana =
    0x30FB ∷ 0x30F2 ∷ 0x30A1 ∷ 0x30A3 ∷ 0x30A5 ∷ 0x30A7 ∷ 0x30A9 ∷ 0x30E3 ∷ 0x30E5 ∷ 0x30E7 ∷
    0x30C3 ∷ 0x30FC ∷ 0x30A2 ∷ 0x30A4 ∷ 0x30A6 ∷ 0x30A8 ∷ 0x30AA ∷ 0x30AB ∷ 0x30AD ∷ 0x30AF ∷
    0x30B1 ∷ 0x30B3 ∷ 0x30B5 ∷ 0x30B7 ∷ 0x30B9 ∷ 0x30BB ∷ 0x30BD ∷ 0x30BF ∷ 0x30C1 ∷ 0x30C4 ∷
    0x30C6 ∷ 0x30C8 ∷ 0x30CA ∷ 0x30CB ∷ 0x30CC ∷ 0x30CD ∷ 0x30CE ∷ 0x30CF ∷ 0x30D2 ∷ 0x30D5 ∷
    0x30D8 ∷ 0x30DB ∷ 0x30DE ∷ 0x30DF ∷ 0x30E0 ∷ 0x30E1 ∷ 0x30E2 ∷ 0x30E4 ∷ 0x30E6 ∷ 0x30E8 ∷
    0x30E9 ∷ 0x30EA ∷ 0x30EB ∷ 0x30EC ∷ 0x30ED ∷ 0x30EF ∷ 0x30F3 ∷ 0x309B ∷ 0x309C ∷
    []

unfoldable pub is_half : Replacement → Bool
is_half HalfKana = true
is_half Letter = false
is_half Digit = false
is_half Hyphen = false
is_half Separator = false
is_half Mark = false
is_half Other = false

-- what replaces a code point of a range
unfoldable pub replace_in : Range → ℕ → ℕ
replace_in r c = pick (is_half r.class) (get_or half_kana (c - r.from) 0) (r.start + (c - r.from))

unfoldable pub replace : ℕ → ℕ
replace c = replace_in (range_in ranges c) c
