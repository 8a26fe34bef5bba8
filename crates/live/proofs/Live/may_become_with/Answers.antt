-- `may_become_with` meets its contract: past 256 there is no hope, else what the call on the text held says.
-- Assumes nothing.
use mathlib.Core.Path.{◌∙◌}
use native.Mathlib.Omega.{arith}
use Rattle.rules.specs.Hopeful.{hopeful}
use Rattle.live.specs.Live.{hoped}
use Rattle.live.proofs.Looking.{over, within}
use Rattle.live.proofs.Live.may_become_with.Goals as goal

pub returns-in-Some : goal.returns-in-Some
unfolding hoped
returns-in-Some c = c.may_become_with.ensures ∙ within (hopeful _) _ c.args.self (omega arith) c.in-Some.ensures.lookup.0

pub returns-in-None : goal.returns-in-None
unfolding hoped
returns-in-None c = over _ _ c.args.self (omega arith) c.in-None.ensures.lookup.0
