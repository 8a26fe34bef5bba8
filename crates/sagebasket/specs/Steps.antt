-- What the functions below the calls ask and answer.
use Rattle.std.specs.Prelude.{true, false, List, ◌≡◌, ℕ, ◌≤◌, Option, MatchOption, length, take, get_or}
use Rattle.rules.specs.declared.LabelPlaces.{LabelPlaces}
use Rattle.utf8.specs.Decodes.{codes_of}
use Rattle.utf8.specs.Utf8.{decoded}

-- place, length and labels are numbers of 32 bits, and far less
abbrev pub SmallThree : List ℕ → Type 0
SmallThree xs = (get_or xs 0 0 ≤ 257) × (get_or xs 1 0 ≤ 257) × (get_or xs 2 0 ≤ 257)

pub record SmallPlaces (p : LabelPlaces) : Type 0 where
  pub count : p.count ≤ 257
  pub starts : SmallThree p.starts
  pub lengths : SmallThree p.lengths

pub record Small (at many : ℕ) (labels : LabelPlaces) : Type 0 where
  pub place : at ≤ 257
  pub length : many ≤ 257
  pub stands : SmallPlaces labels

-- whether octets are UTF-8, and then how many of their code points, at most 257, stand at the start of the text
abbrev pub Reads : List ℕ → List ℕ → Option ℕ → Type 0
Reads octets text r =
    MatchOption r ((decoded octets).ok ≡ false)
    (λ n. ((decoded octets).ok ≡ true) × (n ≤ length text) × (take n text ≡ take 257 (codes_of octets)))
