-- `before_jp` meets its contract: the length is asked, and then the last three.
-- Assumes nothing.
use Rattle.std.proofs.Common.{arith}
use Rattle.std.proofs.lemmas.Bool.Decides.{nat_tests}
use Rattle.lists.specs.Tests.{within}
use Rattle.names.proofs.UsualName.{by_length, by_ending}
use Rattle.names.proofs.usual.before_jp.Goals as goal

pub returns-then-not-matches : goal.returns-then-not-matches
unfolding within
returns-then-not-matches c = by_length _ (grind (arith, nat_tests))

pub returns : goal.returns
unfolding within
returns c = by_ending _ (grind (arith, nat_tests)) c.strip_suffix.result c.strip_suffix.ensures.cases
