-- Where each label stands in the normal form: document 02, K7.
use Rattle.std.specs.Prelude.{List, [], ◌∷◌, map, ◌≡◌, ℕ, ◌+◌, eqb, length, take, drop, get_or}
use Rattle.lists.specs.Tests.{pick}
use Rattle.rules.specs.Labels.{labels, join}
use Rattle.rules.specs.Verdicts.{Class}
use Rattle.rules.specs.Verdicts.{None, General, Prefecture}
use Rattle.rules.specs.declared.LabelPlaces.{LabelPlaces}

-- the starts of labels that are joined by periods, the first of them at a place: the next label starts past this one
-- and a period
unfoldable pub starts_from : ℕ → List (List ℕ) → List ℕ
starts_from at [] = []
starts_from at (l ∷ ls) = at ∷ starts_from (at + length l + 1) ls

-- the first three entries, 0 where there are fewer
unfoldable pub first_three : List ℕ → List ℕ
first_three xs = get_or xs 0 0 ∷ get_or xs 1 0 ∷ get_or xs 2 0 ∷ []

-- the count of labels and, for each of up to three, its start and length; those that belong to no label are 0
unfoldable pub label_places : List (List ℕ) → LabelPlaces
label_places ls = record {
  count = length ls;
  starts = first_three (starts_from 0 ls);
  lengths = first_three (map length ls);
}

-- the places of no label: the count is 0, and so is all else
abbrev pub no_places : LabelPlaces
no_places = record { count = 0; starts = 0 ∷ 0 ∷ 0 ∷ []; lengths = 0 ∷ 0 ∷ 0 ∷ [] }

-- what is said of these labels with a number: their places with 0, and none on a refusal
unfoldable pub places_said : List (List ℕ) → ℕ → LabelPlaces
places_said ls number = pick (eqb number 0) (label_places ls) no_places

-- how many labels a name of a class has (document 01, 'The name'); with none there is no name
unfoldable pub label_count : Class → ℕ
label_count None = 0
label_count General = 2
label_count Prefecture = 3

-- ---- the labels that a printer cuts out

-- the piece of a form for each start and length
unfoldable pub cuts : List ℕ → List ℕ → List ℕ → List (List ℕ)
cuts form [] lengths = []
cuts form (s ∷ starts) [] = []
cuts form (s ∷ starts) (n ∷ lengths) = take n (drop s form) ∷ cuts form starts lengths

-- as many as are counted
unfoldable pub cut_out : List ℕ → LabelPlaces → List (List ℕ)
cut_out form p = take p.count (cuts form p.starts p.lengths)

-- cut out of what is shown, the first n entries of a buffer, they are the labels of the rules, each as long as is told,
-- and joined by periods they give back the normal form
pub record CutsBack (form buffer : List ℕ) (n : ℕ) (p : LabelPlaces) : Type 0 where
  pub labels_are : cut_out (take n buffer) p ≡ labels form
  pub as_long : take p.count p.lengths ≡ map length (labels form)
  pub joined : join (cut_out (take n buffer) p) ≡ form
