-- `fill` meets its contract: at each turn what is written and what is pending make the normal form.
-- Assumes nothing.
use mathlib.Core.List.{◌∷◌}
use Rattle.normal.specs.Normal.{normal_form}
use Rattle.normal.proofs.Pending.{Kept}
use Rattle.normal.proofs.fill.Given as goal

abbrev pub invariant-loop-raw : goal.invariant-loop-raw
invariant-loop-raw l = Kept (normal_form (l.fn.first ∷ l.rest)) l.rest l.initial.out l.out l.last l.n l.raw-index
