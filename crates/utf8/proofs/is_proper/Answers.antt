-- `is_proper` meets its contract: each return rewrites with the tests that led there.
-- Assumes nothing.
use native.Mathlib.Omega.{arith}
use borrow.Author.Tests.{lt-ltb, le-ltb, le-leb, lt-leb}
use Rattle.lists.proofs.Laws.{inside, outside}
use Rattle.utf8.specs.Utf8.{proper, scalar}
use Rattle.utf8.proofs.is_proper.Goals as goal

pub returns-else-least-v : goal.returns-else-least-v
unfolding proper
returns-else-least-v c = simp (lt-leb _ _ c.if-least-v.false)

pub returns-in-0-to-55295 : goal.returns-in-0-to-55295
unfolding proper scalar
returns-in-0-to-55295 c = simp (le-leb _ _ c.if-least-v.true, lt-ltb c.args.v 0xD800 (omega arith))

pub returns-in-0-to-55295-2 : goal.returns-in-0-to-55295-2
unfolding proper scalar
returns-in-0-to-55295-2 c = simp (le-leb _ _ c.if-least-v.true, le-ltb c.args.v 0xD800 (omega arith), inside 0xE000 0x10FFFF c.args.v (omega arith) (omega arith))

pub returns-in_default : goal.returns-in_default
unfolding proper scalar
returns-in_default c = simp (le-leb _ _ c.if-least-v.true, le-ltb c.args.v 0xD800 (omega arith), outside 0xE000 0x10FFFF c.args.v (λ p q. omega arith))

pub returns-in_default-2 : goal.returns-in_default-2
unfolding proper scalar
returns-in_default-2 c = simp (le-leb _ _ c.if-least-v.true, le-ltb c.args.v 0xD800 (omega arith), outside 0xE000 0x10FFFF c.args.v (λ p q. omega arith))
