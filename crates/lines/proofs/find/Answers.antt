-- `find` meets its contract: what the library's search answers is the first place from `from` on; past the end nothing is left to search.
-- Assumes nothing.
use mathlib.Core.Path.{◌≡◌, ap, ◌∙◌}
use mathlib.Core.Bool.{Bool}
use Prim.Native.Nat.{ℕ, ◌+◌, ◌-◌, ◌≤◌}
use native.Mathlib.Omega.{arith}
use borrow.Author.Rules.{rules}
use borrow.Author.Tests.{tests}
use lib.Dec.{eqb}
use Rattle.std.proofs.lemmas.Iterator.{YieldsList-from_slice}
use Rattle.std.proofs.lemmas.Iterator.Search.{position_from_yields_List}
use lib.ListN.{length, drop, length-drop, drop_of_length-le}
use lib.Seq.{take_all}
use Rattle.lists.specs.Tests.{index_of}
use Rattle.lines.proofs.LineFields.{first_or_end}
use Rattle.lines.proofs.find.Goals as goal

abbrev is : ℕ → ℕ → Bool
is b x = eqb x b

pub returns-in-Some : goal.returns-in-Some
returns-in-Some c =
    let s = c.args.s.now in
    let xs = c.in-Some.rest.now in
    let p = position_from_yields_List (is c.args.b) _ _ _ c.position.ensures.ran (YieldsList-from_slice xs cc) (λ x b q k. search (rules, tests)) in
    let d : xs ≡ drop c.args.from s = c.in-Some.ensures.lookup.0.2 ∙ take_all (length s - c.args.from) (drop c.args.from s) (omega (arith, length-drop c.args.from s)) in
    ap (λ n. c.args.from + n) (c.unwrap_or.ensures ∙ first_or_end (is c.args.b) xs _ p ∙ ap (index_of (is c.args.b)) d)

pub returns-in-None : goal.returns-in-None
unfolding index_of
returns-in-None c =
    let s = c.args.s.now in
    let h : length s ≤ c.args.from = omega (arith, c.in-None.ensures.lookup.0) in
    let e : index_of (is c.args.b) (drop c.args.from s) ≡ 0 = rw (drop_of_length-le s h) in
    omega (arith, e)
