-- A call's statement leaves room for one result only. Of the judge it is an equation `r ≡ spec`; of the check and the ASCII form, which
-- share one statement, it gives the result and every entry of the buffer. What is told of a result decides it.
-- Assumes nothing.
use mathlib.Core.Path.{◌≡◌, sym, ap}
use mathlib.Core.List.{List}
use Prim.Native.Nat.{ℕ}
use Rattle.std.specs.Prelude.{Result, Ok, Err}
use Rattle.lists.specs.Rows.{Row}
use Rattle.lists.proofs.Unique.{gives_once}
use Rattle.refusals.specs.declared.Refused.{Refused}
use Rattle.refusals.proofs.Once.{number_not_0, refused_once}
use Rattle.rules.specs.Verdicts.{Verdict}
use Rattle.labelled.proofs.Unique.{class_once}
use Rattle.fronts.specs.declared.Judgement.{Judgement}
use Rattle.names.specs.declared.Accepted.{Accepted}
use Rattle.names.specs.declared.AsciiName.{AsciiName}
use Rattle.names.specs.declared.Formed.{Formed}
use Rattle.names.specs.Calls.{Judged, shown_told, judge_told, Answers, Checked, check_told, AsciiForm, ascii_told}

pub unique : {R : Type 0} {make : Verdict → ℕ → R} {rows : List Row} {text xs before after after' : List ℕ} {r s : R}
    → Answers make rows text xs before after r → Answers make rows text xs before after' s → (r ≡ s) × (after ≡ after')
unique p q = gives_once p.gives q.gives

-- ---- of what is told

said_once : (r s : Result Accepted Refused) (f g : List ℕ) (n m : ℕ) → shown_told r f n ≡ shown_told s g m → (r ≡ s) × (f ≡ g) × (n ≡ m)
said_once (Ok a) (Ok b) f g n m e =
    let k = class_once a.class b.class (ap (λ (j : Judged). j.class) e) in
    let l : a.labels ≡ b.labels = ap (λ (j : Judged). j.labels) e in
    (λ i. Ok (record { class = k i; labels = l i }), ap (λ (j : Judged). j.form) e, ap (λ (j : Judged). j.length) e)
said_once (Ok a) (Err y) f g n m e = absurd (number_not_0 y.why (sym (ap (λ (j : Judged). j.number) e)))
said_once (Err x) (Ok b) f g n m e = absurd (number_not_0 x.why (ap (λ (j : Judged). j.number) e))
said_once (Err x) (Err y) f g n m e =
    (ap Err (refused_once x y (ap (λ (j : Judged). j.number) e) (ap (λ (j : Judged). j.place) e)), ap (λ (j : Judged). j.form) e, ap (λ (j : Judged). j.length) e)

pub judge_once : (j k : Judgement Accepted) → judge_told j ≡ judge_told k → j ≡ k
judge_once j k e = let p = said_once j.said k.said j.form k.form j.length k.length e in λ i. record { said = p.0 i; form = p.1 i; length = p.2 i }

pub check_once : (r s : Result Formed Refused) → check_told r ≡ check_told s → r ≡ s
check_once (Ok f) (Ok g) e =
    let k = class_once f.class g.class (ap (λ (c : Checked). c.class) e) in
    let l : f.labels ≡ g.labels = ap (λ (c : Checked). c.labels) e in
    let n : f.length ≡ g.length = ap (λ (c : Checked). c.length) e in λ i. Ok (record { class = k i; labels = l i; length = n i })
check_once (Ok f) (Err b) e = absurd (number_not_0 b.why (sym (ap (λ (c : Checked). c.number) e)))
check_once (Err a) (Ok g) e = absurd (number_not_0 a.why (ap (λ (c : Checked). c.number) e))
check_once (Err a) (Err b) e = ap Err (refused_once a b (ap (λ (c : Checked). c.number) e) (ap (λ (c : Checked). c.place) e))

pub ascii_once : (r s : Result AsciiName Refused) → ascii_told r ≡ ascii_told s → r ≡ s
ascii_once (Ok f) (Ok g) e =
    let k = class_once f.class g.class (ap (λ (c : AsciiForm). c.class) e) in
    let l : f.kinds ≡ g.kinds = ap (λ (c : AsciiForm). c.kinds) e in
    let n : f.length ≡ g.length = ap (λ (c : AsciiForm). c.length) e in λ i. Ok (record { class = k i; kinds = l i; length = n i })
ascii_once (Ok f) (Err b) e = absurd (number_not_0 b.why (sym (ap (λ (c : AsciiForm). c.number) e)))
ascii_once (Err a) (Ok g) e = absurd (number_not_0 a.why (ap (λ (c : AsciiForm). c.number) e))
ascii_once (Err a) (Err b) e = ap Err (refused_once a b (ap (λ (c : AsciiForm). c.number) e) (ap (λ (c : AsciiForm). c.place) e))

-- ---- of results

module _ {rows : List Row} {text xs before after after' : List ℕ} where
  pub unique_check : {make : Verdict → ℕ → Checked} {r s : Result Formed Refused} → Answers make rows text xs before after (check_told r)
      → Answers make rows text xs before after' (check_told s) → (r ≡ s) × (after ≡ after')
  unique_check {r = r} {s = s} p q = let u = unique p q in (check_once r s u.0, u.1)

  pub unique_ascii : {make : Verdict → ℕ → AsciiForm} {r s : Result AsciiName Refused} → Answers make rows text xs before after (ascii_told r)
      → Answers make rows text xs before after' (ascii_told s) → (r ≡ s) × (after ≡ after')
  unique_ascii {r = r} {s = s} p q = let u = unique p q in (ascii_once r s u.0, u.1)
