-- `encodes` meets its contract: the first 64 octets of the encoding are the octets exactly where the whole encoding is, as these are at most 63.
-- Assumes nothing.
use mathlib.Core.Path.{◌≡◌}
use native.Mathlib.Omega.{arith}
use Rattle.std.specs.Bool.{Decides}
use Rattle.std.proofs.lemmas.Bool.Decides.{Decides-eqb}
use Rattle.std.proofs.lemmas.Slice.Eq.{slice_eq-Decides}
use Rattle.punycode.proofs.Answers.{encodes_no, encodes_if}
use Rattle.punycode.proofs.decoder.encodes.Goals as goal

pub returns-in-Some : goal.returns-in-Some
returns-in-Some c =
    let low = c.args.low.now in
    let t = c.in-Some in
    let same : Decides c.eq.result (t.text ≡ low) = rw c.as_slice.ensures at (slice_eq-Decides Decides-eqb c.as_slice.result.now low c.eq.result c.eq.ensures) in
    encodes_if c.args.l.now low c.eq.result t.text t.ensures.0 (omega arith) t.ensures.1 same.0 same.1

pub returns-in-None : goal.returns-in-None
returns-in-None c = encodes_no c.args.l.now c.args.low.now c.in-None.ensures
