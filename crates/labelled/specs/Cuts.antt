-- The labels of a form: how many there are, and where the first and the second of them end: document 01, 'The name'.
use Rattle.std.specs.Prelude.{true, List, [], ◌∷◌, ◌≡◌, ◌⊎◌, ℕ, ◌+◌, ◌-◌, ◌<◌, ltb, length, take, drop}
use Rattle.lists.specs.Tests.{pick, index_of}
use Rattle.rules.specs.Labels.{period, labels}
use Rattle.labelled.specs.declared.Cut.{Cut}
use Rattle.labelled.specs.declared.Cut.TheVariants.{One, Two, Three, More}
use Rattle.rules.specs.Editions.{has_prefectures}

-- ---- what the call answers

-- where the label ends that begins at a place: at the first period from there on, or at the form's end
abbrev pub end_from : List ℕ → ℕ → ℕ
end_from form from = from + index_of period (drop from form)

-- how many labels a form has, 4 for more than three; and where the first and the second of them end, the form's end
-- where there is no second
pub record Ends : Type 0 where
  pub count : ℕ
  pub first : ℕ
  pub second : ℕ

abbrev pub ended : ℕ → ℕ → ℕ → Ends
ended n a b = record { count = n; first = a; second = b }

-- a count of 4 stands for more than three
unfoldable pub ends : List ℕ → Ends
ends form =
    let n = length form in
    let a = end_from form 0 in
    let b = end_from form (a + 1) in
    let d = end_from form (b + 1) in
    pick (ltb a n) (pick (ltb b n) (pick (ltb d n) (ended 4 a b) (ended 3 a b)) (ended 2 a b)) (ended 1 a n)

-- what the call says of a form of n characters; that these are the labels of the rules is `ends_at` (proofs/Cutting)
abbrev pub cut_told : ℕ → Cut → Ends
cut_told n One = ended 1 n n
cut_told n (Two a) = ended 2 a n
cut_told n (Three a b) = ended 3 a b
cut_told n (More a b) = ended 4 a b

-- ---- what it says of the labels

-- the labels that end at the period at a and at the form's end
abbrev pub two_at : List ℕ → ℕ → List (List ℕ)
two_at form a = take a form ∷ take (length form - (a + 1)) (drop (a + 1) form) ∷ []

-- at the periods at a and at b and at the form's end
abbrev pub three_at : List ℕ → ℕ → ℕ → List (List ℕ)
three_at form a b =
    take a form ∷
    take (b - (a + 1)) (drop (a + 1) form) ∷
    take (length form - (b + 1)) (drop (b + 1) form) ∷
    []

-- what a cut says of a form: which labels it has, or that there are more than three
abbrev pub EndsAt : List ℕ → Cut → Type 0
EndsAt form One = labels form ≡ form ∷ []
EndsAt form (Two a) = (a < length form) × (labels form ≡ two_at form a)
EndsAt form (Three a b) = (a < b) × (b < length form) × (labels form ≡ three_at form a b)
EndsAt form (More a b) = 3 < length (labels form)

-- so many labels a name may have, by the edition
abbrev pub MayBe : ℕ → ℕ → Type 0
MayBe edition n = (n ≡ 2) ⊎ ((n ≡ 3) × (has_prefectures edition ≡ true))
