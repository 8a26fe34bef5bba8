-- `tell_not_utf8` meets its contract: what is told is 16, and the rest is 0.
-- Assumes nothing.
use native.Mathlib.Omega.{arith}
use Rattle.sagebasket.proofs.octets.tell_not_utf8.Goals as goal

pub returns : goal.returns
returns c = let told = rw c.at.ensures at c.tell_refusal.ensures in (told.0, omega (arith, told.1))
