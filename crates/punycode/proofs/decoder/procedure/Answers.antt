-- `procedure` meets its contract: the parts before and after the last delimiter are read as the procedure reads them.
-- Assumes nothing.
use mathlib.Core.Path.{refl, ◌∙◌}
use native.Mathlib.Omega.{arith}
use lib.Seq.{length-take-le}
use Rattle.punycode.specs.Inner.{read}
use Rattle.punycode.proofs.Machine.{decode_is, decode_stuck, decode_ends}
use Rattle.punycode.proofs.decoder.procedure.Goals as goal

pub returns-in_err-s : goal.returns-in_err-s
unfolding read
returns-in_err-s c =
    let p = c.parts in
    rw c.from_residual.ensures (
      tt,
      decode_is c.args.e.now p.result.0.now p.result.1.now c.widen.new.out _ p.ensures.0 p.ensures.1 c.widen.ensures c.in_err-s.ensures.1 ∙ decode_stuck,
    )

pub returns : goal.returns
unfolding read
returns c =
    let p = c.parts in
    let s = c.in_ok-s in
    let few = s.ensures.0.len_low in
    let r = decode_ends s.s c.octets.new.out _ c.then_some.result c.then_some.ensures refl (omega (arith, length-take-le s.s.len c.octets.new.out (omega arith))) in
    (r.0, decode_is c.args.e.now p.result.0.now p.result.1.now c.widen.new.out _ p.ensures.0 p.ensures.1 c.widen.ensures s.ensures.1 ∙ r.1)
