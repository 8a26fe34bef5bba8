-- The index that a search of the library finds, or the length where it finds none; and what is left of a slice from an index on, nothing where
-- that is past the end.
-- Assumes nothing.
use mathlib.Core.Path.{◌≡◌, refl, sym, ap, ◌∙◌}
use mathlib.Core.Bool.{Bool, true, false, cond}
use mathlib.Core.List.{List, [], ◌∷◌}
use mathlib.Core.Logic.{⊎_elim}
use Prim.Native.Nat.{ℕ, suc, ◌-◌, ◌≤◌, ◌<◌}
use native.Mathlib.Omega.{arith}
use lib.Dec.{ltb}
use lib.ListN.{length, drop, drop_of_length-le, length-drop}
use lib.Seq.{take_all}
use denote.Ref.{Bor}
use borrow.Author.Tests.{ltb-false}
use Rattle.std.proofs.Common.{Option, Some, None}
use Rattle.std.specs.Option.{unwrap_or}
use Rattle.std.specs.List.{position_or_len}
use Rattle.std.specs.Slice.{IsGetRangeResult}
use Rattle.lists.specs.Tests.{pick, index_of}
use Rattle.lists.proofs.Chains.{position_is}

index_within : {A : Type 0} (f : A → Bool) (xs : List A) → index_of f xs ≤ length xs
unfolding index_of
index_within f [] = omega arith
index_within f (x ∷ xs) = go (f x) (index_within f xs)
  where
    go : (b : Bool) → index_of f xs ≤ length xs → pick b 0 (suc (index_of f xs)) ≤ suc (length xs)
    go true h = omega arith
    go false h = omega arith

pub index_or_length : {A : Type 0} (f : A → Bool) (xs : List A) {p : Option ℕ} {r : ℕ}
    → p ≡ cond (ltb (position_or_len f xs) (length xs)) (Some (position_or_len f xs)) None → r ≡ unwrap_or p (length xs) → r ≡ index_of f xs
index_or_length f xs {r = r} e u = u ∙ ap (λ (o : Option ℕ). unwrap_or o (length xs)) e ∙ rw (position_is f xs) (go (index_of f xs) (index_within f xs))
  where
    go : (k : ℕ) → k ≤ length xs → unwrap_or (cond (ltb k (length xs)) (Some k) None) (length xs) ≡ k
    go k h = choose (ltb k (length xs)) refl
      where
        choose : (b : Bool) → ltb k (length xs) ≡ b → unwrap_or (cond b (Some k) None) (length xs) ≡ k
        choose true q = refl
        choose false q = omega (arith, ltb-false k (length xs) q)

pub left_from : (xs : List ℕ) (a : ℕ) (o : Option (Bor (List ℕ))) (none : Bor (List ℕ)) {r : Bor (List ℕ)} → IsGetRangeResult xs a (length xs) o → r ≡ unwrap_or o none → none.now ≡ []
    → r.now ≡ drop a xs
left_from xs a None none h u e =
    let past : length xs < a = ⊎_elim (λ p. p) (λ p. absurd (omega arith)) h.0 in
    ap (λ (b : Bor (List ℕ)). b.now) u ∙ e ∙ sym (drop_of_length-le xs (omega arith))
left_from xs a (Some x) none h u e =
    ap (λ (b : Bor (List ℕ)). b.now) u ∙ h.0.2 ∙ take_all (length xs - a) (drop a xs) (omega (arith, length-drop a xs))
