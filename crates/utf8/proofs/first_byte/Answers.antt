-- `first_byte` meets its contract: each arm is one row of the table, or lies in none.
-- Assumes nothing.
use native.Mathlib.Omega.{arith}
use Rattle.utf8.proofs.Decoding.{ascii, two_bytes, three_bytes, four_bytes, low, high}
use Rattle.utf8.proofs.first_byte.Goals as goal

pub returns-in-0-to-127 : goal.returns-in-0-to-127
returns-in-0-to-127 c = rw c.from-v.ensures (ascii c.args.b (omega arith))

pub returns-in-192-to-223 : goal.returns-in-192-to-223
returns-in-192-to-223 c = rw c.from-v.ensures (two_bytes c.args.b (omega arith) (omega arith))

pub returns-in-224-to-239 : goal.returns-in-224-to-239
returns-in-224-to-239 c = rw c.from-v.ensures (three_bytes c.args.b (omega arith) (omega arith))

pub returns-in-240-to-247 : goal.returns-in-240-to-247
returns-in-240-to-247 c = rw c.from-v.ensures (four_bytes c.args.b (omega arith) (omega arith))

pub returns-in_default : goal.returns-in_default
returns-in_default c = low c.args.b (omega arith) (omega arith)

pub returns-in_default-2 : goal.returns-in_default-2
returns-in_default-2 c = high c.args.b (omega arith)
