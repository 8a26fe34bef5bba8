-- `place` meets its contract: the quotient is the code point and the remainder the place, as in the procedure; a code point past the limit stops it.
-- Assumes nothing.
use Prim.Native.Nat.{◌+◌}
use native.Mathlib.Nat.{mod-lt}
use native.Mathlib.Omega.{arith}
use lib.ListN.{take}
use lib.Seq.{length-take-le}
use Rattle.punycode.specs.Inner.{read}
use Rattle.punycode.proofs.Machine.{place_large, place_done}
use Rattle.punycode.proofs.decoder.place.Goals as goal

pub returns-then-n-ge-LIMIT : goal.returns-then-n-ge-LIMIT
unfolding read
returns-then-n-ge-LIMIT c =
    let a = c.args in
    (tt, place_large a.s.n (take a.s.len a.out.now) a.s.len a.s.oldi a.i (length-take-le a.s.len a.out.now (omega arith)) (omega arith))

pub returns : goal.returns
unfolding read
returns c =
    let a = c.args in
    let p = mod-lt a.i {m = a.s.len + 1} (omega arith) in (
      (record { n_low = omega arith; len_low = omega arith; i_low = omega arith; i_from = omega arith }, omega arith, omega arith),
      place_done a.s.n (take a.s.len a.out.now) a.s.len a.s.oldi a.i (length-take-le a.s.len a.out.now (omega arith))
          c.adapt-bias.result _ (omega arith) c.adapt-bias.ensures c.insert.ensures,
    )
