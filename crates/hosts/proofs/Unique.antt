-- The statement of the call for a host's ASCII form leaves room for one result only: it gives the result and every entry of the buffer. Of the
-- judge it is an equation, and what is told of a judgement decides it.
-- Assumes nothing.
use mathlib.Core.Path.{◌≡◌, ap}
use mathlib.Core.List.{List}
use Prim.Native.Nat.{ℕ}
use Rattle.std.specs.Prelude.{Result}
use Rattle.lists.proofs.Unique.{gives_once}
use Rattle.rules.specs.Permits.{Permits}
use Rattle.fronts.specs.declared.Judgement.{Judgement}
use Rattle.hosts.specs.Hosts.{HostForms, HostJudged, host_told}
use Rattle.refusals.specs.Refusals.{Filled, filled}
use Rattle.refusals.specs.declared.Refused.{Refused}
use Rattle.refusals.proofs.Once.{told_once, filled_once}

pub unique : {P : Permits} {text before after after' : List ℕ} {r s : Filled} → HostForms P text before after r → HostForms P text before after' s
    → (r ≡ s) × (after ≡ after')
unique p q = gives_once p.gives q.gives

pub unique_result : {P : Permits} {text before after after' : List ℕ} {r s : Result ℕ Refused} → HostForms P text before after (filled r)
    → HostForms P text before after' (filled s) → (r ≡ s) × (after ≡ after')
unique_result {r = r} {s = s} p q = let u = unique p q in (filled_once r s u.0, u.1)

pub host_once : (j k : Judgement (Unit {0})) → host_told j ≡ host_told k → j ≡ k
host_once j k e =
    let s : j.said ≡ k.said = told_once j.said k.said (ap (λ (h : HostJudged). record { number = h.number; place = h.place }) e) in
    λ i. record { said = s i; form = (e i).form; length = (e i).length }
