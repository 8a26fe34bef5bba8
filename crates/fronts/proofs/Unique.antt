-- A statement that decides a result leaves room for one only: it gives the result and every entry of the buffer. What is told of a result
-- decides it.
-- Assumes nothing.
use mathlib.Core.Path.{◌≡◌, refl, sym, ap, ◌∙◌}
use mathlib.Core.Bool.{true≢false}
use mathlib.Core.List.{List}
use Prim.Native.Nat.{ℕ}
use Rattle.std.specs.Prelude.{Option, Some, None, Result, Ok, Err}
use Rattle.lists.proofs.Unique.{decided}
use Rattle.refusals.specs.declared.Refused.{Refused}
use Rattle.refusals.proofs.Once.{number_not_0, refused_once}
use Rattle.rules.specs.Permits.{Permits}
use Rattle.fronts.specs.declared.Front.{Front}
use Rattle.fronts.specs.Fronts.{Fronted, form_told, front_told, Fronts}

pub unique : {P : Permits} {text before after after' : List ℕ} {r s : Fronted} → Fronts P text before after r → Fronts P text before after' s
    → (r ≡ s) × (after ≡ after')
unique p q = (decided p.result q.result, decided p.buffer q.buffer)

place_once : (n m : ℕ) (p q : Option ℕ) → form_told n p ≡ form_told m q → p ≡ q
place_once n m None None e = refl
place_once n m None (Some q) e = absurd (true≢false (sym (ap (λ (f : Fronted). f.unfit) e)))
place_once n m (Some p) None e = absurd (true≢false (ap (λ (f : Fronted). f.unfit) e))
place_once n m (Some p) (Some q) e = ap (λ (f : Fronted). Some f.at) e

length_is : (n : ℕ) (p : Option ℕ) → (form_told n p).length ≡ n
length_is n None = refl
length_is n (Some p) = refl

number_is : (n : ℕ) (p : Option ℕ) → (form_told n p).number ≡ 0
number_is n None = refl
number_is n (Some p) = refl

pub front_once : (r s : Result Front Refused) → front_told r ≡ front_told s → r ≡ s
front_once (Ok f) (Ok g) e =
    let l : f.length ≡ g.length = sym (length_is f.length f.unfit) ∙ ap (λ (f : Fronted). f.length) e ∙ length_is g.length g.unfit in
    let u : f.unfit ≡ g.unfit = place_once f.length g.length f.unfit g.unfit e in
    ap (λ (n : ℕ). Ok (record { length = n; unfit = f.unfit })) l ∙ ap (λ (p : Option ℕ). Ok (record { length = g.length; unfit = p })) u
front_once (Ok f) (Err b) e = absurd (number_not_0 b.why (ap (λ (f : Fronted). f.number) (sym e) ∙ number_is f.length f.unfit))
front_once (Err a) (Ok g) e = absurd (number_not_0 a.why (ap (λ (f : Fronted). f.number) e ∙ number_is g.length g.unfit))
front_once (Err a) (Err b) e = ap Err (refused_once a b (ap (λ (f : Fronted). f.number) e) (ap (λ (f : Fronted). f.place) e))

pub unique_result : {P : Permits} {text before after after' : List ℕ} {r s : Result Front Refused} → Fronts P text before after (front_told r)
    → Fronts P text before after' (front_told s) → (r ≡ s) × (after ≡ after')
unique_result {r = r} {s = s} p q = let u = unique p q in (front_once r s u.0, u.1)
