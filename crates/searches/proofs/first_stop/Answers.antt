use mathlib.Core.Path.{◌≡◌, sym, ap, ◌∙◌}
use mathlib.Core.Bool.{not}
use mathlib.Core.List.{List}
use Prim.Native.Nat.{ℕ, ◌-◌, ◌+◌, ◌≤◌}
use native.Mathlib.Omega.{arith}
use lib.ListN.{length, take, drop, length-drop}
use borrow.Author.Tests.{eqb-true, eqb-false, not-true, not-false}
use Rattle.std.proofs.Common.{rules, tests}
use Rattle.searches.specs.Steps.{inside}
use Rattle.searches.proofs.Walking.{lent_marks, base, joins_last, walk_joins, walk_stops, walk_on, walk_ends}
use Rattle.searches.proofs.Stops.{before_end, at_end, left}
use Rattle.searches.proofs.first_stop.Goals as goal

-- what is left of the text from `from` on
abbrev rest : List ℕ → ℕ → List ℕ
rest t from = take (length t - from) (drop from t)

as_long : (t : List ℕ) (from : ℕ) → from ≤ length t → from + length (rest t from) ≡ length t
as_long t from h = ap (λ (l : List ℕ). from + length l) (left t from) ∙ omega (arith, length-drop from t)

pub loop-i-init : goal.loop-i-init
unfolding base
loop-i-init c =
    let a = c.args in
    let e : a.from + 0 ≡ a.from = omega arith in
    rw (e, left a.text.now a.from)

pub returns-then-is_none : goal.returns-then-is_none
returns-then-is_none c =
    let l = c.loop-i in
    let t = c.args.text.now in
    let j = joins_last l.last c.and_then-last.result c.replaced-c.result (search (rules, tests)) in
    let z = eqb-true (base c.and_then-last.result) 0 (not-false _ (sym j.1 ∙ c.is_none.ensures ∙ ap not c.if-is_none.true)) in
    before_end _ _ (omega (arith, as_long t c.args.from c.requires))
    ∙ ap (inside (length t)) (sym (l.invariant ∙ walk_stops _ (rest t c.args.from) _ _ _ (omega arith) c.replaced-c.ensures c.is_unfit_with.ensures j.0 c.if-not-is_unfit_with.false z))

pub loop-i-preserved-then-not-is_unfit_with : goal.loop-i-preserved-then-not-is_unfit_with
unfolding base
loop-i-preserved-then-not-is_unfit_with c =
    c.loop-i.invariant ∙ walk_on _ (rest c.args.text.now c.args.from) _ _ _ (omega arith) c.replaced-c.ensures c.is_unfit_with.ensures (lent_marks _ _) c.if-not-is_unfit_with.true (omega arith)

pub loop-i-preserved : goal.loop-i-preserved
loop-i-preserved c =
    let j = joins_last c.loop-i.last c.and_then-last.result c.replaced-c.result (search (rules, tests)) in
    let n = eqb-false (base c.and_then-last.result) 0 (not-true _ (sym j.1 ∙ c.is_none.ensures ∙ ap not c.if-is_none.false)) in
    c.loop-i.invariant ∙ walk_joins _ (rest c.args.text.now c.args.from) _ _ _ (omega arith) c.replaced-c.ensures c.is_unfit_with.ensures j.0 n (omega arith)

pub returns : goal.returns
returns c =
    let t = c.args.text.now in
    at_end _ _ (omega (arith, as_long t c.args.from c.requires))
    ∙ ap (inside (length t)) (sym (c.loop-i.invariant ∙ walk_ends _ (rest t c.args.from) _ _ _ (omega arith)))
