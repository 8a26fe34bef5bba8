-- Tests on numbers and on lists, which every crate's definitions share.
use Rattle.std.specs.Prelude.{Bool, true, false, ◌&&◌, ◌||◌, List, [], ◌∷◌, ℕ, suc, eqb, leb, ltb}

-- a where the test holds, else b
abbrev pub pick : {A : Type 0} → Bool → A → A → A
pick true a b = a
pick false a b = b

-- a ≤ c ≤ b
unfoldable pub within : ℕ → ℕ → ℕ → Bool
within a b c = leb a c && leb c b

-- the test holds of every entry, of some entry
unfoldable pub all_of : {A : Type 0} → (A → Bool) → List A → Bool
all_of f [] = true
all_of f (x ∷ xs) = f x && all_of f xs

unfoldable pub any_of : {A : Type 0} → (A → Bool) → List A → Bool
any_of f [] = false
any_of f (x ∷ xs) = f x || any_of f xs

-- the index of the first entry of which the test holds, or the length
unfoldable pub index_of : {A : Type 0} → (A → Bool) → List A → ℕ
index_of f [] = 0
index_of f (x ∷ xs) = pick (f x) 0 (suc (index_of f xs))

-- c is an entry of xs
unfoldable pub elem : ℕ → List ℕ → Bool
elem c xs = any_of (eqb c) xs

-- the two lists are the same
unfoldable pub same : List ℕ → List ℕ → Bool
same [] [] = true
same [] (y ∷ ys) = false
same (x ∷ xs) [] = false
same (x ∷ xs) (y ∷ ys) = eqb x y && same xs ys

-- each entry is above the one before it, the first above p
unfoldable pub above : ℕ → List ℕ → Bool
above p [] = true
above p (x ∷ xs) = ltb p x && above x xs

-- strictly rising
unfoldable pub rising : List ℕ → Bool
rising [] = true
rising (x ∷ xs) = above x xs
