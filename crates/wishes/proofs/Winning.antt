-- Which wish won, beside the contracts of the two checks: each text is judged as if it stood alone, so the answer is made of the two
-- answers of the check, given room. Of any edition; the calls ask the one in force.
-- Assumes nothing.
use mathlib.Core.Path.{◌≡◌, refl, sym, ap, ◌∙◌}
use mathlib.Core.List.{List}
use mathlib.Core.Logic.{◌↔◌}
use Prim.Native.Nat.{ℕ, ◌≤◌}
use native.Mathlib.Omega.{arith}
use lib.ListN.{length}
use Rattle.std.specs.Prelude.{Option, Some, None}
use Rattle.lists.specs.Rows.{Answer}
use Rattle.refusals.proofs.Once.{told_once}
use Rattle.rules.specs.Permits.{Permits}
use Rattle.names.specs.Calls.{Checks}
use Rattle.names.specs.Calls.{Checked}
use Rattle.wishes.specs.Wishes.{Wished, won_told, wishes_told, alone, won_by, winner, wished}
use Rattle.wishes.specs.declared.Wish.{Wish}
use Rattle.wishes.specs.declared.Wish.TheVariants.{First, Second}
use Rattle.wishes.specs.declared.Wishes.{Wishes}
use Rattle.wishes.proofs.Choosing.{told, checked_says, first_won, second_won, neither_won, WonBy, by_first, by_second, by_neither, won_by_lem}

-- ---- by the numbers of the checks

module _ (a b : ℕ) where
  first_exactly : (won_by a b ≡ 1) ↔ (a ≡ 0)
  first_exactly = (go (won_by_lem a b), λ e. sym (first_won a b e))
    where
      go : {w : ℕ} → WonBy a b w → w ≡ 1 → a ≡ 0
      go (by_first e) p = e
      go (by_second n e) p = absurd (omega arith)
      go (by_neither n m) p = absurd (omega arith)

  second_exactly : (won_by a b ≡ 2) ↔ ((a ≡ 0 → ⊥) × (b ≡ 0))
  second_exactly = (go (won_by_lem a b), λ e. sym (second_won a b e.0 e.1))
    where
      go : {w : ℕ} → WonBy a b w → w ≡ 2 → (a ≡ 0 → ⊥) × (b ≡ 0)
      go (by_first e) p = absurd (omega arith)
      go (by_second n e) p = (n, e)
      go (by_neither n m) p = absurd (omega arith)

  neither_exactly : (won_by a b ≡ 0) ↔ ((a ≡ 0 → ⊥) × (b ≡ 0 → ⊥))
  neither_exactly = (go (won_by_lem a b), λ e. sym (neither_won a b e.0 e.1))
    where
      go : {w : ℕ} → WonBy a b w → w ≡ 0 → (a ≡ 0 → ⊥) × (b ≡ 0 → ⊥)
      go (by_first e) p = absurd (omega arith)
      go (by_second n e) p = absurd (omega arith)
      go (by_neither n m) p = (n, m)

-- ---- beside the two checks, each given room

module _ (P : Permits) {text other before after lent left : List ℕ} {c d : Checked} (C : Checks P text before after c) (room : 256 ≤ length before)
    (D : Checks P other lent left d) (also-room : 256 ≤ length lent) {r : Wished} (W : r ≡ wished P text other) where
  pub first_told : r.first ≡ told c
  unfolding wished
  first_told = ap (λ (w : Wished). w.first) W ∙ sym (checked_says P C room)

  pub second_told : r.second ≡ told d
  unfolding wished
  second_told = ap (λ (w : Wished). w.second) W ∙ sym (checked_says P D also-room)

  won_is : r.won ≡ won_by c.number d.number
  unfolding wished winner
  won_is =
      ap (λ (w : Wished). w.won) W ∙ ap (λ (a : Answer). won_by a.number (alone P other).number) (sym (checked_says P C room))
      ∙ ap (λ (a : Answer). won_by c.number a.number) (sym (checked_says P D also-room))

  pub won_first : (r.won ≡ 1) ↔ (c.number ≡ 0)
  won_first = rw won_is (first_exactly c.number d.number)

  pub won_second : (r.won ≡ 2) ↔ ((c.number ≡ 0 → ⊥) × (d.number ≡ 0))
  won_second = rw won_is (second_exactly c.number d.number)

  pub won_neither : (r.won ≡ 0) ↔ ((c.number ≡ 0 → ⊥) × (d.number ≡ 0 → ⊥))
  won_neither = rw won_is (neither_exactly c.number d.number)

-- ---- what is told of the wishes decides them

won_once : (v w : Option Wish) → won_told v ≡ won_told w → v ≡ w
won_once None None e = refl
won_once None (Some First) e = absurd (omega arith)
won_once None (Some Second) e = absurd (omega arith)
won_once (Some First) None e = absurd (omega arith)
won_once (Some First) (Some First) e = refl
won_once (Some First) (Some Second) e = absurd (omega arith)
won_once (Some Second) None e = absurd (omega arith)
won_once (Some Second) (Some First) e = absurd (omega arith)
won_once (Some Second) (Some Second) e = refl

pub wishes_once : (v w : Wishes) → wishes_told v ≡ wishes_told w → v ≡ w
wishes_once v w e =
    let n = won_once v.won w.won (ap (λ (x : Wished). x.won) e) in
    let a = told_once v.first w.first (ap (λ (x : Wished). x.first) e) in
    let b = told_once v.second w.second (ap (λ (x : Wished). x.second) e) in
    λ i. record { won = n i; first = a i; second = b i }
