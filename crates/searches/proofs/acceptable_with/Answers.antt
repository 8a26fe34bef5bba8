-- `acceptable_with` meets its contract: a text that is not read is refused for its length, and of another the walk from its start tells the stop.
-- Assumes nothing.
use mathlib.Core.Path.{sym, ap, ◌∙◌}
use Rattle.searches.specs.Steps.{inside}
use Rattle.searches.proofs.Walking.{lent_joins, stops_is}
use Rattle.searches.proofs.Searching.{lent_there, unread_so}
use Rattle.searches.proofs.acceptable_with.Goals as goal

pub answered-requires : goal.answered-requires
answered-requires c = record {
  there_is = lent_there _;
  read = sym c.is_read.ensures ∙ c.if-not-is_read.false;
  place = c.first_stop.ensures ∙ ap (inside _) (sym (stops_is _ (lent_joins _) _));
}

pub returns-then-not-is_read : goal.returns-then-not-is_read
returns-then-not-is_read c = unread_so _ _ (lent_there _) (sym c.is_read.ensures ∙ c.if-not-is_read.true)
