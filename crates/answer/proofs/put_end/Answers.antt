-- `put_end` meets its contract: three pieces, each put where the last one ended.
-- Assumes nothing.
use native.Mathlib.Omega.{arith}
use Rattle.lists.proofs.Pieces.{then}
use Rattle.answer.specs.Answers.{after_form}
use Rattle.answer.proofs.Pieces.{field_length}
use Rattle.answer.proofs.put_end.Goals as goal

pub put_byte-requires : goal.put_byte-requires
put_byte-requires c = omega (arith, field_length c.args.kinds)

pub returns : goal.returns
unfolding after_form
returns c = then (then c.put_byte-a.ensures c.put_kinds-b.ensures) c.put_byte.ensures
