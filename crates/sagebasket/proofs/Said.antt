-- What a call below says is told: its numbers stand in the lent answer, and its number is returned; yes or no is a number.
-- Assumes nothing.
use mathlib.Core.Path.{◌≡◌, refl, sym, ap, ◌∙◌}
use mathlib.Core.Bool.{Bool, true, false}
use mathlib.Core.List.{List}
use Prim.Native.Nat.{ℕ}
use lib.ListN.{get_or}
use Rattle.std.specs.Int.{from_bool}
use Rattle.sagebasket.specs.Outside.{flag, Tells, Shows}

pub flag_is : (b : Bool) → from_bool b ≡ flag b
unfolding flag
flag_is true = refl
flag_is false = refl

pub tells : {R : Type 0} {inNumbers : R → List ℕ} {Meets : R → Type 0} {answer : List ℕ} {n : ℕ} (r : R) → Meets r
    → (answer ≡ inNumbers r) × (n ≡ get_or (inNumbers r) 0 0) → Tells inNumbers Meets answer n
tells r m t = record { result = r; meets = m; told = t.0; number = t.1 ∙ sym (ap (λ (xs : List ℕ). get_or xs 0 0) t.0) }

-- a look shows a form and the numbers of what is said, r, which is j by the rules
pub shows : {J : Type 0} (inNumbers : J → List ℕ) {j r : J} {text form answer : List ℕ} {n : ℕ} → r ≡ j → form ≡ text
    → (answer ≡ inNumbers r) × (n ≡ get_or (inNumbers r) 0 0) → Shows (inNumbers j) text form answer n
shows inNumbers e f t = record { shown = f; told = t.0 ∙ ap inNumbers e; number = t.1 ∙ sym (ap (λ (xs : List ℕ). get_or xs 0 0) t.0) }
