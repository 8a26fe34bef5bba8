-- `place_of` meets its contract: at each turn the place looked for is among those that are pending.
-- Assumes nothing.
use Rattle.normal.specs.Normal.{places}
use Rattle.normal.proofs.Pending.{Walked}
use Rattle.normal.proofs.place_of.Given as goal

abbrev pub invariant-loop-i : goal.invariant-loop-i
invariant-loop-i l = Walked (places l.text) l.rest l.k l.last l.start l.n l.i
