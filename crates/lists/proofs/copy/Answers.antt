-- `copy` meets its contract: what was copied stands before what it left.
-- Assumes nothing.
use mathlib.Core.Path.{ap, ◌∙◌}
use mathlib.Core.List.{◌++◌, List}
use Prim.Native.Nat.{ℕ}
use lib.ListN.{drop}
use Rattle.lists.proofs.Fronts.{copied}
use Rattle.lists.proofs.copy.Goals as goal

pub returns : goal.returns
returns c = ap (λ (l : List ℕ). l ++ drop c.min-n.result c.args.to.now) c.copy_from_slice.ensures.after ∙ copied _ _ _ c.min-n.ensures
