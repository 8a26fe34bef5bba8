-- `put_decimal` meets its contract: its three arms are the three cases of `decimal`.
-- Assumes nothing.
use mathlib.Core.Path.{◌≡◌}
use Prim.Native.Nat.{◌/◌}
use native.Mathlib.Omega.{arith}
use Rattle.lists.proofs.Pieces.{then}
use Rattle.answer.proofs.Pieces.{one_digit, two_digits, three_digits}
use Rattle.answer.proofs.put_decimal.Goals as goal

pub returns-in-0-to-9 : goal.returns-in-0-to-9
returns-in-0-to-9 c = rw (one_digit c.args.x (omega arith)) c.put_digit.ensures

pub returns-in-10-to-99 : goal.returns-in-10-to-99
returns-in-10-to-99 c = rw (two_digits c.args.x (omega arith) (omega arith)) (then c.put_digit-a.ensures c.put_digit-in-10-to-99.ensures)

pub returns-in_default : goal.returns-in_default
returns-in_default c =
    let x = c.args.x in
    let h : x / 10 / 10 ≡ x / 100 = omega arith in
    rw (three_digits x (omega arith) (omega arith), h) (then (then c.put_digit-a-in_default.ensures c.put_digit-b.ensures) c.put_digit-in_default.ensures)
