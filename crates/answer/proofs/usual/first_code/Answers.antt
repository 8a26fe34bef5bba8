-- `first_code` meets its contract: it reads one byte, or three.
-- Assumes nothing.
use mathlib.Core.Path.{sym, ◌∙◌}
use native.Mathlib.Omega.{arith}
use Rattle.answer.proofs.Reading.{one_of, three_of}
use Rattle.answer.proofs.usual.first_code.Goals as goal

pub returns-in-32-to-127 : goal.returns-in-32-to-127
returns-in-32-to-127 c = one_of c.args.s.now (omega arith) c.from.ensures (omega arith) (omega arith)

pub returns-in-len3-up : goal.returns-in-len3-up
returns-in-len3-up c =
    three_of c.args.s.now (omega arith) c.value.ensures (sym c.is_first.ensures ∙ c.if-is_first.true) (sym c.is_tail.ensures ∙ c.if-is_tail.true) (sym c.is_tail-then-is_tail.ensures ∙ c.if-is_tail-2.true)
