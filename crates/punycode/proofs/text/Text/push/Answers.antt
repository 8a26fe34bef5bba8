-- `push` meets its contract: an octet is stored where there is room, and otherwise 64 are there already.
-- Assumes nothing.
use native.Mathlib.Omega.{arith}
use Rattle.punycode.proofs.Clipped.{clip_put, clip_full}
use Rattle.punycode.proofs.text.Text.push.Goals as goal

pub returns-then-self-lt64 : goal.returns-then-self-lt64
returns-then-self-lt64 c = let f = c.self.inside in rw (← c.self.view_is) (clip_put f.octets f.len c.args.octet (omega arith) c.if-self-lt64.true)

pub returns-else-self-lt64 : goal.returns-else-self-lt64
returns-else-self-lt64 c = let f = c.self.inside in rw (← c.self.view_is) (clip_full f.octets f.len c.args.octet (omega arith) (omega arith) (omega arith))
