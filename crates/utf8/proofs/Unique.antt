-- A contract decides all: two results that satisfy it are the same, and so are the two buffers.
-- Assumes nothing.
use mathlib.Core.Path.{◌≡◌, refl, sym, ap}
use mathlib.Core.Bool.{false≢true}
use mathlib.Core.List.{List}
use Rattle.std.specs.Prelude.{Option, None, Some}
use Rattle.lists.proofs.Unique.{decided}
use Prim.Native.Nat.{ℕ}
use Rattle.utf8.specs.Decodes.{Decoded, decoded_told, Decodes}

pub decodes_once : (bytes before a b : List ℕ) (r s : Decoded) → Decodes bytes before a r → Decodes bytes before b s → (r ≡ s) × (a ≡ b)
decodes_once bytes before a b r s x y = (decided x.result y.result, decided x.buffer y.buffer)

-- what is told of a result decides it
pub told_once : (r s : Option ℕ) → decoded_told r ≡ decoded_told s → r ≡ s
told_once None None e = refl
told_once None (Some m) e = absurd (false≢true (ap (λ (x : Decoded). x.ok) e))
told_once (Some n) None e = absurd (false≢true (sym (ap (λ (x : Decoded). x.ok) e)))
told_once (Some n) (Some m) e = ap Some (ap (λ (x : Decoded). x.count) e)

-- .. so two calls with one text answer the same
pub results_once : (bytes before a b : List ℕ) (r s : Option ℕ)
    → Decodes bytes before a (decoded_told r) → Decodes bytes before b (decoded_told s) → (r ≡ s) × (a ≡ b)
results_once bytes before a b r s x y =
    let e = decodes_once bytes before a b (decoded_told r) (decoded_told s) x y in
    (told_once r s e.0, e.1)
