-- What is told of a result decides the result: of the rules of labels, of where labels end, of what a label holds.
-- Assumes nothing.
use mathlib.Core.Path.{◌≡◌, refl, sym, ap}
use mathlib.Core.Bool.{true≢false}
use Prim.Native.Nat.{ℕ}
use native.Mathlib.Omega.{arith}
use Rattle.std.specs.Prelude.{Option, None as nothing, Some, Result, Ok, Err}
use Rattle.refusals.specs.declared.Refused.{Refused}
use Rattle.refusals.proofs.Once.{number_not_0, refused_once}
use Rattle.rules.specs.declared.Class as one
use Rattle.rules.specs.declared.Kinds.{Kinds}
use Rattle.rules.specs.Verdicts.{Verdict, class_told, verdict_told}
use Rattle.labels.specs.Held.{Held, held_told}
use Rattle.labelled.specs.Cuts.{Ends, cut_told}
use Rattle.labelled.specs.declared.Cut.{Cut}
use Rattle.labelled.specs.declared.Cut.TheVariants.{One, Two, Three, More}

pub class_once : (j k : one.Class) → class_told j ≡ class_told k → j ≡ k
class_once one.TheVariants.General one.TheVariants.General e = refl
class_once one.TheVariants.General one.TheVariants.Prefecture e = cc
class_once one.TheVariants.Prefecture one.TheVariants.General e = cc
class_once one.TheVariants.Prefecture one.TheVariants.Prefecture e = refl

pub verdict_once : (r s : Result one.Class Refused) → verdict_told r ≡ verdict_told s → r ≡ s
verdict_once (Ok j) (Ok k) e = ap Ok (class_once j k (ap (λ (v : Verdict). v.class) e))
verdict_once (Ok j) (Err b) e = absurd (number_not_0 b.why (sym (ap (λ (v : Verdict). v.number) e)))
verdict_once (Err a) (Ok k) e = absurd (number_not_0 a.why (ap (λ (v : Verdict). v.number) e))
verdict_once (Err a) (Err b) e = ap Err (refused_once a b (ap (λ (v : Verdict). v.number) e) (ap (λ (v : Verdict). v.place) e))

pub cut_once : (n : ℕ) (j k : Cut) → cut_told n j ≡ cut_told n k → j ≡ k
cut_once n One One e = refl
cut_once n (Two a) (Two c) e = ap Two (ap (λ (r : Ends). r.first) e)
cut_once n (Three a b) (Three c d) e = let p : a ≡ c = ap (λ (r : Ends). r.first) e in let q : b ≡ d = ap (λ (r : Ends). r.second) e in λ i. Three (p i) (q i)
cut_once n (More a b) (More c d) e = let p : a ≡ c = ap (λ (r : Ends). r.first) e in let q : b ≡ d = ap (λ (r : Ends). r.second) e in λ i. More (p i) (q i)
cut_once n One (Two c) e = absurd (omega (arith, ap (λ (r : Ends). r.count) e))
cut_once n One (Three c d) e = absurd (omega (arith, ap (λ (r : Ends). r.count) e))
cut_once n One (More c d) e = absurd (omega (arith, ap (λ (r : Ends). r.count) e))
cut_once n (Two a) One e = absurd (omega (arith, ap (λ (r : Ends). r.count) e))
cut_once n (Two a) (Three c d) e = absurd (omega (arith, ap (λ (r : Ends). r.count) e))
cut_once n (Two a) (More c d) e = absurd (omega (arith, ap (λ (r : Ends). r.count) e))
cut_once n (Three a b) One e = absurd (omega (arith, ap (λ (r : Ends). r.count) e))
cut_once n (Three a b) (Two c) e = absurd (omega (arith, ap (λ (r : Ends). r.count) e))
cut_once n (Three a b) (More c d) e = absurd (omega (arith, ap (λ (r : Ends). r.count) e))
cut_once n (More a b) One e = absurd (omega (arith, ap (λ (r : Ends). r.count) e))
cut_once n (More a b) (Two c) e = absurd (omega (arith, ap (λ (r : Ends). r.count) e))
cut_once n (More a b) (Three c d) e = absurd (omega (arith, ap (λ (r : Ends). r.count) e))

pub held_once : (r s : Option Kinds) → held_told r ≡ held_told s → r ≡ s
held_once nothing nothing e = refl
held_once nothing (Some k) e = absurd (true≢false (sym (ap (λ (h : Held). h.fit) e)))
held_once (Some k) nothing e = absurd (true≢false (ap (λ (h : Held). h.fit) e))
held_once (Some j) (Some k) e = ap Some (ap (λ (h : Held). h.kinds) e)
