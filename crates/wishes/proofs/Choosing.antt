-- Which wish won, by the numbers of the two checks, and so which slice the part is of: each case of the choice is one equation.
-- Assumes nothing.
use mathlib.Core.Path.{◌≡◌, refl, sym, ap, ◌∙◌}
use mathlib.Core.Bool.{Bool, true, false, true≢false}
use mathlib.Core.List.{List}
use Prim.Native.Nat.{ℕ, ◌≤◌}
use lib.ListN.{length}
use lib.Dec.{eqb}
use borrow.Author.Tests.{eq-eqb, ne_eqb, eqb-true, eqb-false}
use denote.Ref.{Bor}
use Rattle.lists.specs.Tests.{pick}
use Rattle.lists.specs.Rows.{Answer}
use Rattle.std.specs.Prelude.{Result, Ok, Err, is_ok}
use Rattle.refusals.specs.Refusals as refusals
use Rattle.refusals.specs.declared.Refused.{Refused}
use Rattle.refusals.proofs.Once.{number_not_0}
use Rattle.rules.specs.Permits.{Permits}
use Rattle.rules.specs.Verdicts.{Verdict}
use Rattle.names.specs.Calls.{Checks}
use Rattle.names.specs.Calls.{Checked}
use Rattle.names.proofs.Demands.{check_says}
use Rattle.wishes.specs.Wishes.{alone, won_by, winner, wished, part_length, winners, handed_length, Begins, Hands}
use Rattle.wishes.specs.Wishes.{Wished}

-- number and place of a check
abbrev pub told : Checked → Answer
told c = record { number = c.number; place = c.place }

-- of one that is given room they are the rules'
pub checked_says : (P : Permits) {text before after : List ℕ} {c : Checked} → Checks P text before after c → 256 ≤ length before
    → told c ≡ alone P text
unfolding alone
checked_says P C room = ap (λ (v : Verdict). record { number = v.number; place = v.place }) (check_says P C room)

-- ---- by the numbers, of which 0 tells that a check accepts

pub ok_number : (r : Result (Unit {0}) Refused) → is_ok r ≡ true → (refusals.told r).number ≡ 0
ok_number (Ok x) e = refl
ok_number (Err x) e = absurd (true≢false (sym e))

pub err_number : (r : Result (Unit {0}) Refused) → is_ok r ≡ false → (refusals.told r).number ≡ 0 → ⊥
err_number (Ok x) e = absurd (true≢false e)
err_number (Err x) e = number_not_0 x.why

module _ (a b : ℕ) where
  pub first_won : a ≡ 0 → 1 ≡ won_by a b
  unfolding won_by
  first_won e = rw (eq-eqb a 0 e)

  pub second_won : (a ≡ 0 → ⊥) → b ≡ 0 → 2 ≡ won_by a b
  unfolding won_by
  second_won n e = rw (ne_eqb a 0 n, eq-eqb b 0 e)

  pub neither_won : (a ≡ 0 → ⊥) → (b ≡ 0 → ⊥) → 0 ≡ won_by a b
  unfolding won_by
  neither_won n m = rw (ne_eqb a 0 n, ne_eqb b 0 m)

-- the three cases
pub data WonBy (a b : ℕ) : ℕ → Type 0 where
  by_first : a ≡ 0 → WonBy a b 1
  by_second : (a ≡ 0 → ⊥) → b ≡ 0 → WonBy a b 2
  by_neither : (a ≡ 0 → ⊥) → (b ≡ 0 → ⊥) → WonBy a b 0

pub won_by_lem : (a b : ℕ) → WonBy a b (won_by a b)
unfolding won_by
won_by_lem a b = go (eqb a 0) refl (eqb b 0) refl
  where
    go : (x : Bool) → eqb a 0 ≡ x → (y : Bool) → eqb b 0 ≡ y → WonBy a b (pick x 1 (pick y 2 0))
    go true p y q = by_first (eqb-true a 0 p)
    go false p true q = by_second (eqb-false a 0 p) (eqb-true b 0 q)
    go false p false q = by_neither (eqb-false a 0 p) (eqb-false b 0 q)

-- both checks told
pub wished_is : (P : Permits) (first second : List ℕ) {a b : Answer} {w : ℕ} → a ≡ alone P first → b ≡ alone P second
    → w ≡ won_by a.number b.number → ◌≡◌ {A = Wished} (record { won = w; first = a; second = b }) (wished P first second)
unfolding wished winner
wished_is P first second p q e =
    λ i. record { won = (e ∙ (λ j. won_by (p j).number (q j).number)) i; first = p i; second = q i }

-- ---- the part

module _ (P : Permits) (first second part : Bor (List ℕ)) where
  -- as the winner is known
  hands : (w : ℕ) → w ≡ winner P first.now second.now
      → Begins (winners w first second) (handed_length w first.now second.now) part → Hands P first second part
  hands w e b = rw e at b

  module _ {a : Answer} (e : a ≡ alone P first.now) where
    number_of : a.number ≡ (alone P first.now).number
    number_of = ap (λ (x : Answer). x.number) e

    pub first_hands : {n : ℕ} → a.number ≡ 0 → n ≡ part_length first.now → Begins first n part → Hands P first second part
    unfolding winner handed_length
    first_hands z l b = hands 1 (first_won _ _ (sym number_of ∙ z)) (rw l at b)

    module _ (refused : a.number ≡ 0 → ⊥) {b : Answer} (f : b ≡ alone P second.now) where
      other_number : b.number ≡ (alone P second.now).number
      other_number = ap (λ (x : Answer). x.number) f

      pub second_hands : {n : ℕ} → b.number ≡ 0 → n ≡ part_length second.now → Begins second n part → Hands P first second part
      unfolding winner handed_length
      second_hands z l s = hands 2 (second_won _ _ (λ y. refused (number_of ∙ y)) (sym other_number ∙ z)) (rw l at s)

      pub neither_hands : (b.number ≡ 0 → ⊥) → Begins first 0 part → Hands P first second part
      unfolding winner handed_length
      neither_hands z s = hands 0 (neither_won _ _ (λ y. refused (number_of ∙ y)) (λ y. z (other_number ∙ y))) s
