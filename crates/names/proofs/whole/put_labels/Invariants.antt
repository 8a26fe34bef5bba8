-- `put_labels` meets its contract: at each turn what is put with what is left to put is the whole form.
-- Assumes nothing.
use Prim.Native.Nat.{◌-◌}
use lib.ListN.{length}
use Rattle.rules.specs.Editions.{permits}
use Rattle.names.proofs.Joining.{Naming}
use Rattle.names.proofs.whole.put_labels.Given as goal

abbrev pub invariant-loop-at : goal.invariant-loop-at
invariant-loop-at l = Naming (permits l.edition) l.form l.initial.out l.out l.from l.at

abbrev pub decreases-loop-at : goal.decreases-loop-at
decreases-loop-at l = length l.form - l.from
