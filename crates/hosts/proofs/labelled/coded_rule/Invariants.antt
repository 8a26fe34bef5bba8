-- `coded_rule` meets its contract: at each turn what is counted with what is left is the whole, and the coder took the labels before.
-- Assumes nothing.
use lib.ListN.{length}
use Rattle.rules.specs.Editions.{permits}
use Rattle.hosts.proofs.Counting.{Counting}
use Rattle.hosts.proofs.labelled.coded_rule.Given as goal

abbrev pub invariant-loop-i : goal.invariant-loop-i
invariant-loop-i l = Counting (permits l.edition) l.form (length l.yielded) l.total
