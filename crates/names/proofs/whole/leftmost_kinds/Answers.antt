-- `leftmost_kinds` meets its contract: the leftmost label ends at the first period, and of what holds only what a label may it is told.
-- Assumes nothing.
use mathlib.Core.Path.{refl, sym}
use native.Mathlib.Omega.{arith}
use lib.Seq.{length-take-le}
use Rattle.rules.proofs.Cuts.{ended}
use Rattle.names.proofs.Enough.{leftmost_held}
use Rattle.names.proofs.whole.leftmost_kinds.Goals as goal

pub slice_bounds-held_with-end : goal.slice_bounds-held_with-end
slice_bounds-held_with-end c = sym (length-take-le _ c.args.form.now (ended _ 0 _ (omega arith) c.label_end-end.ensures).1)

pub unwrap-requires : goal.unwrap-requires
unwrap-requires c = rw (leftmost_held _ _ _ c.label_end-end.ensures c.requires _ c.held_with.ensures) refl

pub returns : goal.returns
returns c = let e = leftmost_held _ _ _ c.label_end-end.ensures c.requires _ c.held_with.ensures in cc
