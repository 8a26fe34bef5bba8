-- `put_accepted` meets its contract: three pieces, each put where the last one ended.
-- Assumes nothing.
use native.Mathlib.Omega.{arith}
use Rattle.lists.proofs.Pieces.{then}
use Rattle.answer.specs.Answers.{before_form}
use Rattle.answer.proofs.Pieces.{front_zero}
use Rattle.answer.proofs.put_accepted.Goals as goal

pub put_byte-b-requires : goal.put_byte-b-requires
put_byte-b-requires c = omega (arith, front_zero c.args.id.now)

pub put_byte-requires : goal.put_byte-requires
put_byte-requires c = omega (arith, front_zero c.args.id.now)

pub returns : goal.returns
unfolding before_form
returns c = rw (← c.class_letter-letter.ensures) (then (then c.put_front-a.ensures c.put_byte-b.ensures) c.put_byte.ensures)
