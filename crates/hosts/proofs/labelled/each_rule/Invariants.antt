-- `each_rule` meets its contract: at each turn what all labels are answered is what those from the i-th on are.
-- Assumes nothing.
use mathlib.Core.Path.{◌≡◌}
use lib.ListN.{length, drop}
use Rattle.lists.specs.Rows.{first}
use Rattle.rules.specs.Labels.{labels}
use Rattle.rules.specs.Hosts.{each_rows}
use Rattle.rules.specs.Editions.{permits}
use Rattle.hosts.proofs.labelled.each_rule.Given as goal

abbrev pub invariant-loop-i : goal.invariant-loop-i
invariant-loop-i l =
    first (each_rows (permits l.edition) 0 (labels l.form)) ≡ first (each_rows (permits l.edition) (length l.yielded) (drop (length l.yielded) (labels l.form)))
