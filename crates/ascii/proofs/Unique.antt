-- The statement of the call for one label leaves room for one result only: it gives the result and every entry of the buffer.
-- Assumes nothing.
use mathlib.Core.Path.{◌≡◌}
use mathlib.Core.List.{List}
use Prim.Native.Nat.{ℕ}
use Rattle.lists.proofs.Unique.{gives_once}
use Rattle.ascii.specs.Labels.{Forms}
use Rattle.refusals.specs.Refusals.{Filled}

pub unique : {l before after after' : List ℕ} {r s : Filled} → Forms l before after r → Forms l before after' s → (r ≡ s) × (after ≡ after')
unique p q = gives_once p.gives q.gives
