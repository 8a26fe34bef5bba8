-- What is told of a result decides the result: each refusal has a number of its own, and none has 0.
-- Assumes nothing.
use mathlib.Core.Path.{◌≡◌, refl, sym, ap, ◌∙◌}
use mathlib.Core.Bool.{false, true≢false}
use Prim.Native.Nat.{ℕ}
use lib.Dec.{eqb}
use Rattle.std.specs.Prelude.{Result, Ok, Err}
use Rattle.lists.specs.Tests.{pick}
use Rattle.lists.specs.Rows.{Answer}
use Rattle.refusals.specs.Refusals.{number_of, told, Filled, filled}
use Rattle.refusals.specs.declared.Refusal.{Refusal}
use Rattle.refusals.specs.declared.Refusal.TheVariants.{NoRoom, NoText, TooLong, Unfit, LabelCount, EmptyLabel, HyphenEdge, LabelTooShort, LabelTooLong, BareDot, NotJp, NotPrefecture, NotEncodable, Over63, NotEncoded, BadLine, Pretending, Over253, NoEdition}
use Rattle.refusals.specs.declared.Refused.{Refused}

-- the refusal of a number
refusal_of : ℕ → Refusal
refusal_of n =
    pick (eqb n 1) NoRoom (
    pick (eqb n 2) NoText (
    pick (eqb n 3) TooLong (
    pick (eqb n 4) Unfit (
    pick (eqb n 5) LabelCount (
    pick (eqb n 6) EmptyLabel (
    pick (eqb n 7) HyphenEdge (
    pick (eqb n 8) LabelTooShort (
    pick (eqb n 9) LabelTooLong (
    pick (eqb n 10) BareDot (
    pick (eqb n 11) NotJp (
    pick (eqb n 12) NotPrefecture (
    pick (eqb n 13) NotEncodable (
    pick (eqb n 14) Over63 (
    pick (eqb n 15) NotEncoded (
    pick (eqb n 16) BadLine (
    pick (eqb n 17) Pretending (
    pick (eqb n 19) Over253 (NoEdition))))))))))))))))))

back : (r : Refusal) → refusal_of (number_of r) ≡ r
unfolding refusal_of
back NoRoom = refl
back NoText = refl
back TooLong = refl
back Unfit = refl
back LabelCount = refl
back EmptyLabel = refl
back HyphenEdge = refl
back LabelTooShort = refl
back LabelTooLong = refl
back BareDot = refl
back NotJp = refl
back NotPrefecture = refl
back NotEncodable = refl
back Over63 = refl
back NotEncoded = refl
back BadLine = refl
back Pretending = refl
back Over253 = refl
back NoEdition = refl

numbered : (r : Refusal) → eqb (number_of r) 0 ≡ false
numbered NoRoom = refl
numbered NoText = refl
numbered TooLong = refl
numbered Unfit = refl
numbered LabelCount = refl
numbered EmptyLabel = refl
numbered HyphenEdge = refl
numbered LabelTooShort = refl
numbered LabelTooLong = refl
numbered BareDot = refl
numbered NotJp = refl
numbered NotPrefecture = refl
numbered NotEncodable = refl
numbered Over63 = refl
numbered NotEncoded = refl
numbered BadLine = refl
numbered Pretending = refl
numbered Over253 = refl
numbered NoEdition = refl

-- no two refusals have one number, and none is told as accepted
pub number_once : (a b : Refusal) → number_of a ≡ number_of b → a ≡ b
number_once a b e = sym (back a) ∙ ap refusal_of e ∙ back b

pub number_not_0 : (a : Refusal) → number_of a ≡ 0 → ⊥
number_not_0 a e = true≢false (ap (λ (n : ℕ). eqb n 0) (sym e) ∙ numbered a)

pub refused_once : (a b : Refused) → number_of a.why ≡ number_of b.why → a.place ≡ b.place → a ≡ b
refused_once a b e p = ap (λ (w : Refusal). record { why = w; place = a.place }) (number_once a.why b.why e) ∙ ap (λ (n : ℕ). record { why = b.why; place = n }) p

pub told_once : (r s : Result (Unit {0}) Refused) → told r ≡ told s → r ≡ s
told_once (Ok x) (Ok y) e = refl
told_once (Ok x) (Err b) e = absurd (number_not_0 b.why (sym (ap (λ (a : Answer). a.number) e)))
told_once (Err a) (Ok y) e = absurd (number_not_0 a.why (ap (λ (a : Answer). a.number) e))
told_once (Err a) (Err b) e = ap Err (refused_once a b (ap (λ (a : Answer). a.number) e) (ap (λ (a : Answer). a.place) e))

pub filled_once : (r s : Result ℕ Refused) → filled r ≡ filled s → r ≡ s
filled_once (Ok n) (Ok m) e = ap Ok (ap (λ (f : Filled). f.length) e)
filled_once (Ok n) (Err b) e = absurd (number_not_0 b.why (sym (ap (λ (f : Filled). f.number) e)))
filled_once (Err a) (Ok m) e = absurd (number_not_0 a.why (ap (λ (f : Filled). f.number) e))
filled_once (Err a) (Err b) e = ap Err (refused_once a b (ap (λ (f : Filled). f.number) e) (ap (λ (f : Filled). f.place) e))
