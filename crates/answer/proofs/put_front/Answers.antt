-- `put_front` meets its contract: six pieces, each put where the last one ended.
-- Assumes nothing.
use native.Mathlib.Omega.{arith}
use Rattle.answer.specs.Answers.{front_of}
use Rattle.lists.proofs.Pieces.{then}
use Rattle.answer.proofs.Pieces.{decimal_length}
use Rattle.answer.proofs.put_front.Goals as goal

pub put_byte-d-requires : goal.put_byte-d-requires
put_byte-d-requires c = omega (arith, decimal_length c.args.number)

pub put_decimal-e-requires : goal.put_decimal-e-requires
put_decimal-e-requires c = omega (arith, decimal_length c.args.number)

pub put_byte-requires : goal.put_byte-requires
put_byte-requires c = omega (arith, decimal_length c.args.number, decimal_length c.args.place)

pub returns : goal.returns
unfolding front_of
returns c = then (then (then (then (then c.put-a.ensures c.put_byte-b.ensures) c.put_decimal-c.ensures) c.put_byte-d.ensures) c.put_decimal-e.ensures) c.put_byte.ensures
