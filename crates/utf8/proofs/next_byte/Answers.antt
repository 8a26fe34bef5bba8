-- `next_byte` meets its contract: each return is one case of `decode_from`.
-- Assumes nothing.
use mathlib.Core.Path.{sym, ◌∙◌}
use native.Mathlib.Omega.{arith}
use Rattle.lists.proofs.Laws.{in_range}
use Rattle.utf8.proofs.Decoding.{fits, no_next, goes_on, last}
use Rattle.utf8.proofs.next_byte.Goals as goal

pub returns-then-not-is_tail : goal.returns-then-not-is_tail
returns-then-not-is_tail c = no_next c.args.value c.args.b c.requires (sym c.is_tail.ensures ∙ c.if-not-is_tail.true)

pub overflow_sub-b : goal.overflow_sub-b
overflow_sub-b c = (in_range 0x80 0xBF c.args.b (sym c.is_tail.ensures ∙ c.if-not-is_tail.false)).0

pub overflow_mul-bits : goal.overflow_mul-bits
overflow_mul-bits c = omega (arith, fits c.requires)

pub overflow_add-bits : goal.overflow_add-bits
overflow_add-bits c = omega (arith, fits c.requires)

pub returns-then-value-gt1 : goal.returns-then-value-gt1
returns-then-value-gt1 c =
    let r = in_range 0x80 0xBF c.args.b (sym c.is_tail.ensures ∙ c.if-not-is_tail.false) in
    rw c.from.ensures (goes_on c.args.value c.args.b c.requires r.0 r.1 c.if-value-gt1.true)

pub returns : goal.returns
returns c =
    let r = in_range 0x80 0xBF c.args.b (sym c.is_tail.ensures ∙ c.if-not-is_tail.false) in
    rw (c.then_some.ensures, c.from.ensures) (last c.args.value c.args.b c.requires r.0 r.1 c.if-value-gt1.false _ (rw c.from.ensures at c.is_proper.ensures))
