-- `is_jp` meets its contract: the two characters in the code are those of the rules.
-- Assumes nothing.
use Rattle.rules.specs.Rules.{jp}
use Rattle.endings.proofs.last.is_jp.Goals as goal

pub returns : goal.returns
unfolding jp
returns c = c.same.ensures
