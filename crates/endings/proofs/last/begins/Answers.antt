-- `begins` meets its contract: a label longer than the whole is no beginning of it.
-- Assumes nothing.
use mathlib.Core.Path.{◌∙◌}
use native.Mathlib.Omega.{arith}
use Prim.Native.Nat.{◌<◌}
use lib.ListN.{length, take, length-take}
use Rattle.std.proofs.lemmas.Bool.{lt-leb}
use Rattle.lists.proofs.Chains.{unlike}
use Rattle.rules.specs.Hopeful.{begins}
use Rattle.endings.proofs.last.begins.Goals as goal

pub returns-then-label-whole : goal.returns-then-label-whole
unfolding begins
returns-then-label-whole c = c.same.ensures

pub returns-else-label-whole : goal.returns-else-label-whole
unfolding begins
returns-else-label-whole c =
    let l = c.args.label.now in
    let w = c.args.whole.now in
    let h : length w < length l = omega (arith, c.if-label-whole.false) in
    lt-leb (length l) (length w) h ∙ unlike l (take (length l) w) (λ e. omega (arith, h, e, length-take (length l) w))
