use mathlib.Core.Path.{◌≡◌, refl, ◌∙◌}
use Prim.Native.Nat.{◌+◌}
use native.Mathlib.Omega.{arith}
use lib.ListN.{length, length-set}
use lib.Seq.{paste-zero}
use Rattle.lists.proofs.Pieces.{put_turn, put_all}
use Rattle.answer.proofs.put.Goals as goal

pub loop-i-init : goal.loop-i-init
loop-i-init c = (refl, paste-zero _ c.args.n c.args.s.now)

pub loop-i-preserved : goal.loop-i-preserved
loop-i-preserved c =
    let l = c.loop-i in
    let a = c.args in (
      length-set l.out (a.n + l.i) _ ∙ l.invariant.0,
      put_turn a.out.now l.out a.s.now a.n l.i c.requires c.loop-i-test.true l.invariant.1,
    )

pub returns : goal.returns
returns c =
    let l = c.loop-i in
    let a = c.args in
    let all : l.i ≡ length a.s.now = omega (arith, l.auto.i-end, c.loop-i-test.false) in
    rw all at (put_all a.out.now l.out a.s.now a.n l.i c.requires l.auto.i-end c.loop-i-test.false l.invariant.1)
