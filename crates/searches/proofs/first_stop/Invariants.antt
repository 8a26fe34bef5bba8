-- `first_stop` meets its contract: at each turn what is left of the text, and the character before it, decide where the walk stops.
-- Assumes nothing.
use mathlib.Core.Path.{◌≡◌}
use Prim.Native.Nat.{◌+◌}
use lib.ListN.{drop}
use Rattle.rules.specs.Editions.{permits}
use Rattle.searches.specs.Steps.{stop_from}
use Rattle.searches.proofs.Walking.{base}
use Rattle.searches.proofs.first_stop.Given as goal

abbrev pub invariant-loop-i : goal.invariant-loop-i
invariant-loop-i l = stop_from (permits l.edition) 0 l.from (drop l.from l.text) ≡ stop_from (permits l.edition) (base l.last) (l.from + l.i) (drop l.i l.code-items)
