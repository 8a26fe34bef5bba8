-- `put_labels` meets its contract: at each turn what is put with what is left to put is the whole form.
-- Assumes nothing.
use lib.ListN.{length}
use Rattle.rules.specs.Editions.{permits}
use Rattle.hosts.proofs.Putting.{Hosting}
use Rattle.hosts.proofs.forms.put_labels.Given as goal

abbrev pub invariant-loop-i : goal.invariant-loop-i
invariant-loop-i l = Hosting (permits l.edition) l.form l.initial.out l.out (length l.yielded) l.at
