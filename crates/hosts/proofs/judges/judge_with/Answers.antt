-- `judge_with` meets its contract: its array of zeros, lent, holds the normal form before its zeros.
-- Assumes nothing.
use Rattle.hosts.proofs.Judging.{as_judged}
use Rattle.hosts.proofs.judges.judge_with.Goals as goal

pub returns : goal.returns
returns c = as_judged _ _ c.judge_into-said.ensures
