-- `few_labels` meets its contract: the parts are the labels, and no more than three are counted.
-- Assumes nothing.
use mathlib.Core.Path.{◌≡◌, refl, sym, ap, ◌∙◌}
use mathlib.Core.List.{List, [], ◌∷◌}
use Prim.Native.Nat.{ℕ}
use native.Mathlib.Omega.{arith}
use lib.Dec.{ltb}
use lib.ListN.{length, take}
use borrow.Author.Tests.{le-ltb}
use Rattle.std.proofs.Common.{rules, tests}
use Rattle.std.proofs.lemmas.Iterator.{YieldsList-from_take}
use Rattle.std.specs.Iterator.Adapters.{take_source}
use Rattle.std.proofs.lemmas.Iterator.Splits.{YieldsList-from_slice_split}
use Rattle.std.proofs.lemmas.Iterator.Consumers.{count_from_yields_List}
use Rattle.rules.specs.Labels.{period}
use Rattle.hosts.proofs.Splitting.{split_is}
use Rattle.hosts.proofs.labelled.few_labels.Goals as goal

-- of three and more three are counted
three_counted : (ls : List (List ℕ)) → ltb (length (take 3 ls)) 3 ≡ ltb (length ls) 3
three_counted [] = refl
three_counted (a ∷ []) = refl
three_counted (a ∷ b ∷ []) = refl
three_counted (a ∷ b ∷ c ∷ ls) = sym (le-ltb (length (a ∷ b ∷ c ∷ ls)) 3 (omega arith))

pub returns : goal.returns
returns c =
    ap (λ (n : ℕ). ltb n 3)
    (count_from_yields_List _ _ c.count.ensures.ran (YieldsList-from_take {s = c.take.result} 3
    (YieldsList-from_slice_split {s = take_source c.take.result} _ period c.args.form.now (search (rules, tests)) (search (rules, tests)) (search (rules, tests)) (λ x b q k. search (rules, tests))) (search (rules, tests)))
    ∙ ap (λ (ls : List (List ℕ)). length (take 3 ls)) (split_is c.args.form.now))
    ∙ three_counted _
