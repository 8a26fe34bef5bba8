-- A statement that decides a result leaves room for one only.
-- Assumes nothing.
use mathlib.Core.Path.{◌≡◌}
use mathlib.Core.List.{List}
use Prim.Native.Nat.{ℕ}
use Rattle.lists.proofs.Unique.{decided}
use Rattle.std.specs.Prelude.{Result}
use Rattle.refusals.specs.Refusals.{Filled, filled}
use Rattle.refusals.specs.declared.Refused.{Refused}
use Rattle.refusals.proofs.Once.{filled_once}
use Rattle.normal.specs.Calls.{Normalises}

-- of the normal form call: the result, and every entry of the buffer
pub unique : {text before after after' : List ℕ} {r s : Filled} → Normalises text before after r → Normalises text before after' s
    → (r ≡ s) × (after ≡ after')
unique p q = (decided p.result q.result, decided p.buffer q.buffer)

-- and so of what the call itself answers
pub unique_result : {text before after after' : List ℕ} {r s : Result ℕ Refused} → Normalises text before after (filled r)
    → Normalises text before after' (filled s) → (r ≡ s) × (after ≡ after')
unique_result {r = r} {s = s} p q = let u = unique p q in (filled_once r s u.0, u.1)
