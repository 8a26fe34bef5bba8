-- Labels are the stretches between periods of the normal form: document 01, 'The name'.
use Rattle.std.specs.Prelude.{Bool, List, [], ◌∷◌, ◌++◌, ℕ, eqb}
use Rattle.lists.specs.Tests.{pick}

unfoldable pub period : ℕ → Bool
period c = eqb c 0x2E

-- a character put before the first label
unfoldable pub into_first : ℕ → List (List ℕ) → List (List ℕ)
into_first x [] = (x ∷ []) ∷ []
into_first x (l ∷ ls) = (x ∷ l) ∷ ls

unfoldable pub labels : List ℕ → List (List ℕ)
labels [] = [] ∷ []
labels (x ∷ xs) = pick (period x) ([] ∷ labels xs) (into_first x (labels xs))

-- labels joined by periods
unfoldable pub join : List (List ℕ) → List ℕ
join [] = []
join (l ∷ []) = l
join (l ∷ m ∷ ls) = l ++ 0x2E ∷ join (m ∷ ls)
