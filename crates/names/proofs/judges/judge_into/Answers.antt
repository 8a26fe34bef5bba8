-- `judge_into` meets its contract: what is said by what the front told is what the rules say, and the front left the form.
-- Assumes nothing.
use native.Mathlib.Omega.{arith}
use Rattle.std.proofs.Common.{rules, tests}
use Rattle.names.proofs.Judging.{told_length, told_inside, judges_as}
use Rattle.names.proofs.judges.judge_into.Goals as goal

pub class_by_front-requires : goal.class_by_front-requires
class_by_front-requires c = told_inside _ c.front_with-front.ensures (omega (arith, c.requires))

pub returns : goal.returns
returns c = judges_as _ c.front_with-front.ensures (omega (arith, c.requires)) c.class_by_front.ensures (told_length c.front_with-front.result {n = c.map_or.result} (search (rules, tests)))
