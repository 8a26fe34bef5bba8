-- `is_prefecture` meets its contract: it is the search by this test.
-- Assumes nothing.
use Rattle.std.proofs.Common.{rules, tests}
use Rattle.lists.specs.Tests.{same}
use Rattle.endings.proofs.middles.is_prefecture.Goals as goal

pub returns : goal.returns
returns c = c.any_middle.ensures (same c.args.label.now) (λ part b k. search (rules, tests, k.shows))
