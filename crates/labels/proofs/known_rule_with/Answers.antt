-- `known_rule_with` meets its contract: the rows 7 to 10 and 17 in their order.
-- Assumes nothing.
use Rattle.labels.proofs.OfLabel.{rule_7, rule_8, rule_9, rule_17, rule_10, rule_0}
use Rattle.labels.proofs.known_rule_with.Goals as goal

pub returns-then-has_edge : goal.returns-then-has_edge
returns-then-has_edge c = rw c.at.ensures (rule_7 _ _ _ _ _ c.has_edge.ensures c.if-has_edge.true)

pub returns-then-is_short : goal.returns-then-is_short
returns-then-is_short c = rw c.at-then-is_short.ensures (rule_8 _ _ _ _ _ c.has_edge.ensures c.if-has_edge.false c.is_short.ensures c.if-is_short.true)

pub returns-then-is_long : goal.returns-then-is_long
returns-then-is_long c = rw c.at-then-is_long.ensures (rule_9 _ _ _ _ _ c.has_edge.ensures c.if-has_edge.false c.is_short.ensures c.if-is_short.false c.is_long.ensures c.if-is_long.true)

pub returns-then-is_pretending : goal.returns-then-is_pretending
returns-then-is_pretending c = rw c.at-then-is_pretending.ensures (rule_17 _ _ _ _ _ c.has_edge.ensures c.if-has_edge.false c.is_short.ensures c.if-is_short.false c.is_long.ensures c.if-is_long.false c.is_pretending.ensures c.if-is_pretending.true)

pub returns-then-has_bare_dot : goal.returns-then-has_bare_dot
returns-then-has_bare_dot c = rw c.at-then-has_bare_dot.ensures (rule_10 _ _ _ _ _ c.has_edge.ensures c.if-has_edge.false c.is_short.ensures c.if-is_short.false c.is_long.ensures c.if-is_long.false c.is_pretending.ensures c.if-is_pretending.false c.has_bare_dot.ensures c.if-has_bare_dot.true)

pub returns : goal.returns
returns c = rule_0 _ _ _ _ _ c.has_edge.ensures c.if-has_edge.false c.is_short.ensures c.if-is_short.false c.is_long.ensures c.if-is_long.false c.is_pretending.ensures c.if-is_pretending.false c.has_bare_dot.ensures c.if-has_bare_dot.false
