-- A contract decides all: two results that satisfy it are the same, and so are the two buffers.
-- Assumes nothing.
use mathlib.Core.Path.{◌≡◌, refl, sym, ap, ◌∙◌}
use mathlib.Core.Bool.{Bool, false≢true}
use mathlib.Core.List.{List, []}
use Prim.Native.Nat.{ℕ}
use Rattle.std.specs.Prelude.{Option, None, Some}
use lib.ListN.{take}
use Rattle.lists.specs.Tests.{pick, index_of}
use Rattle.lists.proofs.Pieces.{puts_once}
use Rattle.lines.specs.Lines.{lf}
use Rattle.answer.specs.declared.AnsweredLine.{AnsweredLine}
use Rattle.answer.specs.Answers.{Wrote, wrote_told, Writes, Next, next_told, AnswersFirst}

pub writes_once : (xs before a b : List ℕ) (r s : Wrote) → Writes xs before a r → Writes xs before b s → (r ≡ s) × (a ≡ b)
writes_once xs before a b r s x y =
    let d = x.done ∙ sym y.done in
    let t = puts_once refl x.text y.text in
    let n : r.length ≡ s.length = t.1 in
    (λ i. record { done = d i; length = n i }, t.0)

pub next_once : (answer : List ℕ → List ℕ) (s before a b : List ℕ) (r q : Next) → AnswersFirst answer s before a r → AnswersFirst answer s before b q
    → (r ≡ q) × (a ≡ b)
next_once answer s before a b r q x y =
    let d : r.done ≡ q.done = x.done ∙ sym y.done in
    let e : r.end ≡ q.end = x.end ∙ ap (λ (t : Bool). pick t (index_of lf s) 0) d ∙ sym y.end in
    let t = puts_once (ap (λ (t : Bool). pick t (answer (take (index_of lf s) s)) []) d) x.text y.text in
    let n : r.length ≡ q.length = t.1 in
    (λ i. record { done = d i; end = e i; length = n i }, t.0)

-- what is told of a result decides it
wrote_told_once : (r s : Option ℕ) → wrote_told r ≡ wrote_told s → r ≡ s
wrote_told_once None None e = refl
wrote_told_once None (Some m) e = absurd (false≢true (ap (λ (x : Wrote). x.done) e))
wrote_told_once (Some n) None e = absurd (false≢true (sym (ap (λ (x : Wrote). x.done) e)))
wrote_told_once (Some n) (Some m) e = ap Some (ap (λ (x : Wrote). x.length) e)

next_told_once : (r s : Option AnsweredLine) → next_told r ≡ next_told s → r ≡ s
next_told_once None None e = refl
next_told_once None (Some m) e = absurd (false≢true (ap (λ (x : Next). x.done) e))
next_told_once (Some l) None e = absurd (false≢true (sym (ap (λ (x : Next). x.done) e)))
next_told_once (Some l) (Some m) e = ap Some (ap (λ (x : Next). record { end = x.end; length = x.length }) e)

-- .. so two calls for one line, or for the first line of one piece, answer the same
pub answers_once : (xs before a b : List ℕ) (r s : Option ℕ) → Writes xs before a (wrote_told r) → Writes xs before b (wrote_told s) → (r ≡ s) × (a ≡ b)
answers_once xs before a b r s x y =
    let e = writes_once xs before a b (wrote_told r) (wrote_told s) x y in
    (wrote_told_once r s e.0, e.1)

pub first_answers_once : (answer : List ℕ → List ℕ) (s before a b : List ℕ) (r q : Option AnsweredLine)
    → AnswersFirst answer s before a (next_told r) → AnswersFirst answer s before b (next_told q) → (r ≡ q) × (a ≡ b)
first_answers_once answer s before a b r q x y =
    let e = next_once answer s before a b (next_told r) (next_told q) x y in
    (next_told_once r q e.0, e.1)
