-- `put_refused` meets its contract: what begins every line, and what ends a refusal's.
-- Assumes nothing.
use native.Mathlib.Omega.{arith}
use Rattle.lists.proofs.Pieces.{then}
use Rattle.answer.proofs.Pieces.{front_length, refused_laid}
use Rattle.answer.proofs.put_refused.Goals as goal

pub put-requires : goal.put-requires
put-requires c = let a = c.args in omega (arith, front_length a.id.now a.number a.place)

pub returns : goal.returns
returns c = let a = c.args in rw (refused_laid a.id.now a.number a.place) (then c.put_front-a.ensures c.put.ensures)
