use native.Mathlib.Omega.{arith}
use Rattle.punycode.specs.Inner.{read}
use Rattle.punycode.proofs.Machine.{octets_next, octets_stop, octets_end}
use Rattle.punycode.proofs.decoder.octets.Goals as goal

pub returns-in_err-s : goal.returns-in_err-s
unfolding read
returns-in_err-s c =
    let v = c.loop-c in
    rw c.from_residual.ensures (tt, octets_stop c.args.e.now v.c-index _ _ (omega arith) c.in_err-s.ensures.1 v.invariant.3)

pub loop-c-preserved : goal.loop-c-preserved
loop-c-preserved c =
    let v = c.loop-c in
    let r = c.in_ok-s.ensures in
    (r.0.0, omega arith, omega arith, octets_next c.args.e.now v.c-index _ _ _ (omega arith) r.1 v.invariant.3)

pub returns : goal.returns
returns c = let v = c.loop-c in (v.invariant.0, octets_end c.args.e.now v.c-index _ _ (omega arith) v.invariant.3)
