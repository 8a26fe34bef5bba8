-- `look_host_with` meets its contract: past 256 it shows `host_too_long`, else what the judge of hosts says of the text held.
-- Assumes nothing.
use mathlib.Core.Path.{◌∙◌}
use native.Mathlib.Omega.{arith}
use Rattle.hosts.specs.Hosts.{host_judged}
use Rattle.live.specs.HostLooks.{host_too_long, host_looked}
use Rattle.live.proofs.Looking.{over, within}
use Rattle.live.proofs.Live.look_host_with.Goals as goal

pub returns-in-Some : goal.returns-in-Some
unfolding host_looked
returns-in-Some c = c.judge_with.ensures ∙ within (host_judged _) _ c.args.self (omega arith) c.in-Some.ensures.lookup.0

pub returns-in-None : goal.returns-in-None
unfolding host_looked host_too_long
returns-in-None c = rw (c.no_text.ensures, c.at.ensures) (over _ _ c.args.self (omega arith) c.in-None.ensures.lookup.0)
