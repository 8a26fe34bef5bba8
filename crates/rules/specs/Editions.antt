-- The editions of the rules, by their numbers: document 02, K12. Each is one value of what an edition permits.
-- 1 is that of 10 July 2003, 2 of 30 August 2005, 3 of 16 July 2012, 4 of 3 November 2014, which is in force (document
-- 01). What the four say of 3003 stands in `characters` (specs/Characters: signs_in).
use Rattle.std.specs.Prelude.{Bool, true, false, not, List, [], ◌≡◌, refl, ℕ, eqb}
use Rattle.lists.specs.Tests.{pick, within}
use Rattle.characters.specs.Characters.{kind, kind_with}
use Rattle.characters.specs.Kinds.{Kind}
use Rattle.characters.specs.declared.Edition.{Edition}
use Rattle.rules.specs.Permits.{Permits}
use Rattle.rules.specs.Prefectures.{latin_prefectures, prefectures}

-- there is an edition of this number
abbrev pub is_edition : ℕ → Bool
is_edition e = within 1 4 e

-- it has prefecture names, whose three labels it lets be: editions 1 and 2 have none
abbrev pub has_prefectures : ℕ → Bool
has_prefectures e = not (within 1 2 e)

-- its prefecture labels: in edition 3 the 47 Latin ones, in 4 all 94
unfoldable pub middles_in : ℕ → List (List ℕ)
middles_in e = pick (has_prefectures e) (pick (eqb e 3) latin_prefectures prefectures) []

-- what it permits, by the kind of each code point in each edition. Of a number that is none of the four all but `known`
-- is as in edition 4, and never asked of a text
abbrev pub edition_by : (ℕ → ℕ → Kind) → ℕ → Permits
edition_by kinds e =
    record { known = is_edition e; kind = kinds e; middles = middles_in e; three = has_prefectures e }

unfoldable pub edition_of : ℕ → Permits
edition_of e = edition_by kind e

-- the same, of a table of kanji that is lent; of the bits of the kanji it is `edition_of` (proofs/Editions)
unfoldable pub edition_with : List ℕ → ℕ → Permits
edition_with table e = edition_by (kind_with table) e

-- what is permitted by an edition whose table of kanji is lent with its number
abbrev pub permits : Edition → Permits
permits e = edition_with e.kanji.now e.number

-- the one in force
abbrev pub today : Permits
today = edition_of 4

abbrev pub today_with : List ℕ → Permits
today_with table = edition_with table 4

-- the four values, written out
pub four : (edition_of 1 ≡ record { known = true; kind = kind 1; middles = []; three = false })
    × (edition_of 2 ≡ record { known = true; kind = kind 2; middles = []; three = false })
    × (edition_of 3 ≡ record { known = true; kind = kind 3; middles = latin_prefectures; three = true })
    × (edition_of 4 ≡ record { known = true; kind = kind 4; middles = prefectures; three = true })
unfolding within middles_in edition_of
four = (refl, refl, refl, refl)
