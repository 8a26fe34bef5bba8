-- Labels that stand one after the other in one table, and where each starts: what the private functions of the search
-- answer.
use Rattle.std.specs.Prelude.{Bool, true, ◌&&◌, List, [], ◌∷◌, ◌≡◌, ℕ, ◌-◌, eqb, leb, take, drop}
use Rattle.lists.specs.Tests.{pick}
use Rattle.rules.specs.Editions.{has_prefectures}

-- whatever a test answers of a part, f says of it
abbrev pub Computes : (List ℕ → Bool → Type 0) → (List ℕ → Bool) → Type 0
Computes answers f = (part : List ℕ) (b : Bool) → answers part b → b ≡ f part

-- a table cut where each part starts, the last start being the end of the last part
unfoldable pub parts : List ℕ → List ℕ → List (List ℕ)
parts table [] = []
parts table (a ∷ []) = []
parts table (a ∷ b ∷ ss) = take (b - a) (drop a table) ∷ parts table (b ∷ ss)

-- the starts do not fall, and none is past n
unfoldable pub starts_rise : ℕ → List ℕ → Bool
starts_rise n [] = true
starts_rise n (a ∷ []) = leb a n
starts_rise n (a ∷ b ∷ ss) = leb a b && starts_rise n (b ∷ ss)

-- how many of the starts are those of an edition's labels, with the end of the last
unfoldable pub starts_in : ℕ → ℕ
starts_in edition = pick (has_prefectures edition) (pick (eqb edition 3) 48 95) 0
