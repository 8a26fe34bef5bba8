-- `parts` meets its contract: where the last delimiter is decides both.
-- Assumes nothing.
use mathlib.Core.Path.{◌≡◌, refl}
use Prim.Native.Nat.{◌+◌, ◌-◌}
use native.Mathlib.Omega.{arith}
use Rattle.punycode.proofs.Answers.{to_end}
use Rattle.punycode.proofs.Machine.{no_delimiter, delimiter_at}
use Rattle.punycode.proofs.decoder.parts.Goals as goal

pub returns-in-Some : goal.returns-in-Some
returns-in-Some c =
    let e = c.args.e.now in
    let j = c.in-Some.j in
    let p = c.in-Some.ensures in
    let k : j + 1 - 1 ≡ j = omega arith in
    rw (delimiter_at e j p.0 p.1 p.2, k) (refl, to_end (j + 1) e)

pub returns-in-None : goal.returns-in-None
returns-in-None c = rw (no_delimiter c.args.e.now c.in-None.ensures) (refl, refl)
