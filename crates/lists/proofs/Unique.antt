-- A contract that is an equation decides the result: two results that meet it are equal. So does what a call that writes answers, and with it
-- every entry of the buffer.
-- Assumes nothing.
use mathlib.Core.Path.{◌≡◌, sym, ◌∙◌}
use mathlib.Core.List.{List}
use Prim.Native.Nat.{ℕ}
use Rattle.lists.specs.Rows.{Row, Gives}
use Rattle.lists.specs.Rows.{Answer}

pub decided : {A : Type 0} {said r s : A} → r ≡ said → s ≡ said → r ≡ s
decided p q = p ∙ sym q

pub gives_once : {R : Type 0} {make : Answer → ℕ → R} {rows : List Row} {xs before after after' : List ℕ} {r s : R}
    → Gives make rows xs before after r → Gives make rows xs before after' s → (r ≡ s) × (after ≡ after')
gives_once p q = (decided p.result q.result, decided p.buffer q.buffer)
