-- `octets` meets its contract: at each turn the procedure goes on from the state kept to the same end.
-- Assumes nothing.
use mathlib.Core.Path.{◌≡◌}
use Prim.Native.Nat.{◌+◌, ◌*◌, ◌≤◌}
use lib.ListN.{length, drop}
use Rattle.std.proofs.Common.{Some}
use Rattle.punycode.specs.Decoding.{octets}
use Rattle.punycode.specs.Inner.{read, Bounded}
use Rattle.punycode.proofs.decoder.octets.Given as goal

abbrev pub invariant-loop-c : goal.invariant-loop-c
invariant-loop-c l = Bounded l.s × (l.s.len + length l.e ≤ 63 + l.c-index) × (l.s.k ≤ 36 + 36 * l.c-index)
    × (octets (drop l.c-index l.e) (read (Some l.s) l.out) ≡ octets l.e (read (Some l.initial.s) l.initial.out))
