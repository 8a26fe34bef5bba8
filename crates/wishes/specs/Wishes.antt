-- First and second wish: document 02, K1. Over any edition; the calls ask the one in force.
use Rattle.std.specs.Prelude.{Option, Some, None, List, ◌≡◌, ℕ, eqb, take}
use Rattle.std.specs.Borrow.{Bor}
use Rattle.lists.specs.Tests.{pick, index_of}
use Rattle.lists.specs.Rows.{Answer}
use Rattle.characters.specs.Characters.{separator}
use Rattle.rules.specs.Permits.{Permits}
use Rattle.rules.specs.Rules.{rules}
use Rattle.refusals.specs.Refusals.{told}
use Rattle.wishes.specs.declared.Wish.{Wish}
use Rattle.wishes.specs.declared.Wish.TheVariants.{First, Second}
use Rattle.wishes.specs.declared.Wishes.{Wishes}

-- ---- which wish won

-- number and place of the check of a text that stands alone with room enough, which are the rules'
unfoldable pub alone : Permits → List ℕ → Answer
alone P text =
    let v = rules P text in
    record { number = v.number; place = v.place }

-- by the numbers of the two checks: the wish that is accepted first, 1 or 2, or 0 for neither
unfoldable pub won_by : ℕ → ℕ → ℕ
won_by a b = pick (eqb a 0) 1 (pick (eqb b 0) 2 0)

unfoldable pub winner : Permits → List ℕ → List ℕ → ℕ
winner P first second = won_by (alone P first).number (alone P second).number

pub record Wished : Type 0 where
  pub won : ℕ
  pub first : Answer
  pub second : Answer

abbrev pub won_told : Option Wish → ℕ
won_told None = 0
won_told (Some First) = 1
won_told (Some Second) = 2

abbrev pub wishes_told : Wishes → Wished
wishes_told w = record { won = won_told w.won; first = told w.first; second = told w.second }

unfoldable pub wished : Permits → List ℕ → List ℕ → Wished
wished P first second =
    record { won = winner P first second; first = alone P first; second = alone P second }

-- ---- the part before the first separator, out of the wish that won

-- how many code points of a text stand before its first separator, as it was typed; all where it has none
unfoldable pub part_length : List ℕ → ℕ
part_length text = index_of separator text

-- of what belongs to each wish, what belongs to the one that won; where neither did, to the first
abbrev pub winners : {A : Type 0} → ℕ → A → A → A
winners won first second = pick (eqb won 2) second first

-- how long the part is; it is empty where neither won
unfoldable pub handed_length : ℕ → List ℕ → List ℕ → ℕ
handed_length won first second = pick (eqb won 0) 0 (part_length (winners won first second))

-- a part of a slice that is no copy: it begins where the slice begins, and shows its first n code points
pub record Begins (whole : Bor (List ℕ)) (n : ℕ) (part : Bor (List ℕ)) : Type 0 where
  pub begins : part.ref_ptr ≡ whole.ref_ptr
  pub shows : part.now ≡ take n whole.now

-- the part that is handed back is such a part of the winner's slice
abbrev pub Hands : Permits → Bor (List ℕ) → Bor (List ℕ) → Bor (List ℕ) → Type 0
Hands P first second part =
    let won = winner P first.now second.now in
    Begins (winners won first second) (handed_length won first.now second.now) part
