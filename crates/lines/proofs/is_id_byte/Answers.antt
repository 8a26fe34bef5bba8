-- `is_id_byte` meets its contract: the library's three ranges are the definition's, in another order.
-- Assumes nothing.
use Rattle.lines.proofs.LineFields.{id_byte_is}
use Rattle.lines.proofs.is_id_byte.Goals as goal

pub returns-then-is_ascii_alphanumeric : goal.returns-then-is_ascii_alphanumeric
returns-then-is_ascii_alphanumeric c = rw (c.if-is_ascii_alphanumeric.true) (rw (← c.if-is_ascii_alphanumeric.ensures.value) at (id_byte_is c.args.b))

pub returns-else-is_ascii_alphanumeric : goal.returns-else-is_ascii_alphanumeric
returns-else-is_ascii_alphanumeric c = rw (← c.if-is_ascii_alphanumeric.ensures.value) at (id_byte_is c.args.b)
