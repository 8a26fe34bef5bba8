-- Whether a text may yet become a name by the rules of document 01 (specs/Rules): what is meant, and how it is found.
-- The two are the same (proofs/Hopeful). Reserved and taken names are not asked about: document 01, 'The work and its
-- edges', leaves them outside.
use Rattle.std.specs.Prelude.{Bool, true, false, not, ◌&&◌, ◌||◌, List, [], ◌∷◌, ◌++◌, ◌≡◌, ℕ, eqb, length, take}
use Rattle.lists.specs.Tests.{within, all_of, any_of, same}
use Rattle.lists.specs.Rows.{first}
use Rattle.characters.specs.Characters.{ascii_set}
use Rattle.characters.specs.Compose.{composed}
use Rattle.normal.specs.Normal.{normal_form}
use Rattle.rules.specs.Labels.{labels}
use Rattle.rules.specs.Permits.{Permits, ja_char, middle, Laws}
use Rattle.rules.specs.Rules.{unfit, of_name, label_rows, jp, rules}

-- ---- what is meant

-- some continuation of the text, the empty one included, is accepted
abbrev pub MayBecome : Permits → List ℕ → Type 0
MayBecome P text = (s : List ℕ) × ((rules P (text ++ s)).number ≡ 0)

-- ---- how it is found: by trial, of the labels of the normal form, the last of them unfinished

-- l begins w, or is w
unfoldable pub begins : List ℕ → List ℕ → Bool
begins l w = same l (take (length l) w)

-- none of 7 to 10 and 17 applies to it as a leftmost label
unfoldable pub leftmost : Permits → List ℕ → Bool
leftmost P l = eqb (first (label_rows P of_name l 0)).number 0

-- the hiragana that is tried
abbrev pub filler : ℕ
filler = 0x3042

-- what is tried after an unfinished leftmost label: nothing, one hiragana, one letter; no more is ever needed
unfoldable pub tries : List (List ℕ)
tries = [] ∷ (filler ∷ []) ∷ (0x61 ∷ []) ∷ []

-- one label: with what is tried it is a leftmost label; two: a leftmost label, and the beginning of "jp" or of a
-- prefecture label; three: a leftmost label, a prefecture label, and the beginning of "jp"
unfoldable pub grows : Permits → List (List ℕ) → Bool
grows P [] = false
grows P (l ∷ []) = any_of (λ (r : List ℕ). leftmost P (l ++ r)) tries
grows P (l ∷ m ∷ []) = leftmost P l && (begins m jp || any_of (begins m) P.middles)
grows P (l ∷ m ∷ z ∷ []) = leftmost P l && (middle P m && begins z jp)
grows P (l ∷ m ∷ z ∷ y ∷ ls) = false

-- there is such an edition, no unfit character, and labels that may grow
unfoldable pub hopeful : Permits → List ℕ → Bool
hopeful P text =
    let form = normal_form text in
    P.known && (not (any_of (unfit P) form) && grows P (labels form))

-- ---- what the theorem asks of an edition, beside the laws

-- of the ASCII set, or from 4E00 to 9FA0: nothing that is replaced, and nothing that a base and a mark become
unfoldable pub settled : ℕ → Bool
settled c = ascii_set c || within 0x4E00 0x9FA0 c

pub record HopeLaws (P : Permits) : Type 0 where
  pub laws : Laws P
  -- each prefecture label is of such characters
  pub middle_settled : all_of (all_of settled) P.middles ≡ true
  -- the hiragana that is tried, and whatever a mark joins, are Japanese
  pub tried : ja_char P filler ≡ true
  pub bases : (b m : ℕ) → (composed b m ≡ 0 → ⊥) → ja_char P b ≡ true
