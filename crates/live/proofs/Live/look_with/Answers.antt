-- `look_with` meets its contract: past 256 it shows `too_long`, else what the judge says of the text held.
-- Assumes nothing.
use mathlib.Core.Path.{ap, ◌∙◌}
use native.Mathlib.Omega.{arith}
use Rattle.rules.specs.Editions.{edition_with}
use Rattle.names.specs.Calls.{judged}
use Rattle.live.specs.Live.{too_long, looked}
use Rattle.live.proofs.Looking.{over, within}
use Rattle.live.proofs.Live.look_with.Goals as goal

pub returns-in-Some : goal.returns-in-Some
unfolding looked
returns-in-Some c = c.judge_with.ensures ∙ within (judged _) _ c.args.self (omega arith) c.in-Some.ensures.lookup.0

pub returns-in-None : goal.returns-in-None
unfolding looked edition_with
returns-in-None c = c.too_long.ensures ∙ ap too_long c.is_edition.ensures ∙ over _ _ c.args.self (omega arith) c.in-None.ensures.lookup.0
