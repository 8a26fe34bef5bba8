-- The numbers that a call may answer: a table of rows in the order of documents 01 and 02, the first that applies is
-- given.
use Rattle.std.specs.Prelude.{Bool, false, List, [], ◌∷◌, ◌≡◌, ℕ, eqb, length}
use Rattle.lists.specs.Tests.{pick}
use Rattle.lists.specs.Front.{written}

-- a refusal: its number, when it applies, and its place
pub record Row : Type 0 where
  pub number : ℕ
  pub applies : Bool
  pub place : ℕ

abbrev pub row : ℕ → Bool → ℕ → Row
row n b p = record { number = n; applies = b; place = p }

-- what a table answers: a number, 0 where nothing is refused, and its place
pub record Answer : Type 0 where
  pub number : ℕ
  pub place : ℕ

-- 0 is accepted
abbrev pub accepted : Answer
accepted = record { number = 0; place = 0 }

-- what a row answers where it applies
abbrev pub says : Row → Answer
says r = record { number = r.number; place = r.place }

-- the first row that applies, or accepted
unfoldable pub first : List Row → Answer
first [] = accepted
first (r ∷ rs) = pick r.applies (says r) (first rs)

-- the table without the rows of a number
unfoldable pub without : ℕ → List Row → List Row
without n [] = []
without n (r ∷ rs) = pick (eqb r.number n) (without n rs) (r ∷ without n rs)

-- no row of the table applies
abbrev pub Clear : List Row → Type 0
Clear [] = Unit {0}
Clear (r ∷ rs) = (r.applies ≡ false) × Clear rs

-- what stands at the buffer's start then: xs where accepted, nothing where refused
unfoldable pub given : Answer → List ℕ → List ℕ
given a xs = pick (eqb a.number 0) xs []

-- what a call that writes answers, from its rows and what it would write; `make` makes the call's struct of the answer
-- and of the length of what is written
pub record Gives {R : Type 0} (make : Answer → ℕ → R) (rows : List Row) (xs before after : List ℕ) (r : R) : Type 0 where
  pub result : r ≡ make (first rows) (length (given (first rows) xs))
  pub buffer : after ≡ written (given (first rows) xs) before
