-- `part_length` meets its contract: a separator is what a period replaces.
-- Assumes nothing.
use mathlib.Core.Path.{◌≡◌, refl, sym, ap, ◌∙◌}
use mathlib.Core.Bool.{Bool, true, false, cond}
use Prim.Native.Nat.{ℕ, ◌≤◌}
use native.Mathlib.Omega.{arith}
use lib.Dec.{eqb, ltb}
use lib.ListN.{length}
use borrow.Author.Tests.{ltb-false}
use Rattle.std.proofs.Common.{Option, Some, None, rules, tests}
use Rattle.std.specs.Option.{unwrap_or}
use Rattle.std.proofs.lemmas.Iterator.{YieldsList-from_slice}
use Rattle.std.proofs.lemmas.Iterator.Search.{position_from_yields_List}
use Rattle.lists.proofs.Chains.{position_is}
use Rattle.lists.proofs.Laws.{index_bound}
use Rattle.characters.specs.Characters.{separator}
use Rattle.characters.specs.Replace.{replace}
use Rattle.characters.proofs.Separators.{separator_is}
use Rattle.wishes.specs.Wishes.{part_length}
use Rattle.wishes.proofs.part_length.Goals as goal

-- the index that is found, or the length
or_length : (k n : ℕ) → k ≤ n → unwrap_or (cond (ltb k n) (Some k) None) n ≡ k
or_length k n h = go (ltb k n) refl
  where
    go : (b : Bool) → ltb k n ≡ b → unwrap_or (cond b (Some k) None) n ≡ k
    go true q = refl
    go false q = omega (arith, ltb-false k n q)

separates : (x r : ℕ) → r ≡ replace x → eqb r 0x2E ≡ separator x
separates x r e = rw e (sym (separator_is x))

pub returns : goal.returns
unfolding part_length
returns c =
    let t = c.args.text.now in
    let p = position_from_yields_List separator _ _ c.position.result c.position.ensures.ran (YieldsList-from_slice _ c.iter.ensures.rest) (λ x b q k. search (rules, tests, separates)) in
    c.unwrap_or.ensures ∙ ap (λ (o : Option ℕ). unwrap_or o (length t)) p ∙ or_length _ _ (rw (position_is separator t) (index_bound separator t))
    ∙ position_is separator t
