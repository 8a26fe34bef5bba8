-- `total_rule` meets its contract: the row is asked as it stands.
-- Assumes nothing.
use mathlib.Core.Path.{sym}
use mathlib.Core.List.{[]}
use borrow.Author.Tests.{lt-ltb, le-ltb}
use Rattle.lists.proofs.Tables.{hit, passed_over}
use Rattle.lists.specs.Rows.{first}
use Rattle.hosts.proofs.labelled.total_rule.Goals as goal

pub returns-then-total-gt-MOST : goal.returns-then-total-gt-MOST
returns-then-total-gt-MOST c = rw c.at.ensures (sym (hit 19 _ 0 [] (lt-ltb _ _ c.if-total-gt-MOST.true)))

pub returns : goal.returns
unfolding first
returns c = sym (passed_over 19 _ 0 [] (le-ltb _ _ c.if-total-gt-MOST.false))
