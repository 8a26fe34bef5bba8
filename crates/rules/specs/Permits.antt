-- What an edition of the rules permits: grammar, rules and theorems are stated over it, and an edition is one value.
use Rattle.std.specs.Prelude.{Bool, true, false, not, ◌||◌, List, [], ◌∷◌, ◌≡◌, ℕ, leb, length}
use Rattle.lists.specs.Tests.{within, all_of, any_of, same}
use Rattle.characters.specs.Characters.{ascii_set, any_kind}
use Rattle.characters.specs.Kinds.{Kind}

pub record Permits : Type 0 where
  -- whether there is such an edition (document 02, K12): by one that there is not every text is refused, with 25
  pub known : Bool
  -- which code points are Japanese characters, and of which kind each is (document 02, K6)
  pub kind : ℕ → Kind
  -- its prefecture labels
  pub middles : List (List ℕ)
  -- whether a name may have three labels
  pub three : Bool

-- a Japanese character of the edition (document 01, 'Characters'): of any kind but none; asked here alone
unfoldable pub ja_char : Permits → ℕ → Bool
ja_char P c = any_kind (P.kind c)

-- what a label may hold
unfoldable pub label_char : Permits → ℕ → Bool
label_char P c = ja_char P c || ascii_set c

-- one of its prefecture labels
unfoldable pub middle : Permits → List ℕ → Bool
middle P l = any_of (same l) P.middles

unfoldable pub is_empty : List ℕ → Bool
is_empty [] = true
is_empty (x ∷ xs) = false

-- where the Japanese characters stand: none is of the ASCII set or a period, and each is a scalar value
abbrev pub InStretch : Permits → Type 0
InStretch P = (c : ℕ) → ja_char P c ≡ true → within 0x3003 0x9FA0 c ≡ true

-- each prefecture label has at most 15 characters
abbrev pub ShortMiddles : Permits → Type 0
ShortMiddles P = all_of (λ (l : List ℕ). leb (length l) 15) P.middles ≡ true

-- what the theorems ask of an edition
pub record Laws (P : Permits) : Type 0 where
  pub there_is : P.known ≡ true
  pub stretch : InStretch P
  -- each prefecture label holds only what a label may hold, is not empty, and is short: so that no derivable name is
  -- lost to the limit of 256 code points, and so that each can be encoded
  pub middle_chars : all_of (all_of (label_char P)) P.middles ≡ true
  pub middle_filled : all_of (λ (l : List ℕ). not (is_empty l)) P.middles ≡ true
  pub middle_short : ShortMiddles P
  -- where there is one, a name may have three labels
  pub middle_three : (l : List ℕ) → middle P l ≡ true → P.three ≡ true
