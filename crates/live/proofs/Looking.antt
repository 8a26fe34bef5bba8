-- What a look shows, by whether the array holds as many as were typed, for any rules.
-- Assumes nothing.
use mathlib.Core.Path.{◌≡◌, ap, ◌∙◌}
use mathlib.Core.List.{List}
use mathlib.Core.Logic.{◌⊎◌, ⊎_elim}
use Prim.Native.Nat.{ℕ, ◌+◌, ◌-◌, ◌≤◌, ◌<◌}
use native.Mathlib.Omega.{arith}
use lib.ListN.{length, take}
use borrow.Author.Tests.{lt-ltb, le-ltb}
use Rattle.std.specs.List.{slice_range}
use Rattle.live.specs.Live.{looked_by}
use Rattle.live.specs.declared.Live.{Live}

module _ {A : Type 0} (says : List ℕ → A) (past : A) (l : Live) (size : length l.text ≡ 256) where
  pub over : (l.count < 0) ⊎ (length l.text < l.count) → past ≡ looked_by says past l
  unfolding looked_by
  over h = let k : 256 < l.count = ⊎_elim (λ g. omega arith) (λ g. omega arith) h in rw (lt-ltb 256 l.count k)

  -- the part lent is the text held
  pub within : {part : List ℕ} → (0 ≤ l.count) × (l.count ≤ length l.text) × (part ≡ slice_range l.text 0 l.count) × (length part + 0 ≡ l.count)
      → says part ≡ looked_by says past l
  unfolding looked_by
  within h =
      let e : l.count - 0 ≡ l.count = omega arith in
      ap says h.2 ∙ rw (le-ltb 256 l.count (omega (arith, h.1))) (ap (λ (n : ℕ). says (take n l.text)) e)
