-- `encode` meets its contract: each return is one of the answers, by the room, whether the label is encodable, and the length of its encoding.
-- Assumes nothing.
use mathlib.Core.Path.{refl, ◌∙◌}
use native.Mathlib.Omega.{arith}
use Rattle.punycode.proofs.Answers.{encodes_short, encodes_unfit, encodes_long, encodes_done}
use Rattle.punycode.proofs.Rungs.{encodable_size}
use Rattle.punycode.proofs.encode.Goals as goal

pub returns-then-out-lt-ROOM : goal.returns-then-out-lt-ROOM
returns-then-out-lt-ROOM c = rw c.at.ensures (encodes_short c.args.label.now _ _ c.if-out-lt-ROOM.true refl)

pub returns-then-label-gt-ROOM : goal.returns-then-label-gt-ROOM
returns-then-label-gt-ROOM c = rw c.at-then-label-gt-ROOM.ensures (encodes_unfit c.args.label.now _ _ c.if-out-lt-ROOM.false (encodable_size _ (λ p q. omega arith)) refl)

pub returns-in_default : goal.returns-in_default
returns-in_default c = rw c.at-in_default.ensures (encodes_unfit c.args.label.now _ _ c.if-out-lt-ROOM.false c.in_default.ensures refl)

pub returns-then-n-gt-ROOM : goal.returns-then-n-gt-ROOM
returns-then-n-gt-ROOM c =
    let t = c.in-Some.ensures in
    rw c.at-then-n-gt-ROOM.ensures (encodes_long c.args.label.now _ _ c.if-out-lt-ROOM.false t.0 _ (c.as_slice-ace.ensures ∙ t.1) c.if-n-gt-ROOM.true refl)

pub returns : goal.returns
returns c =
    let t = c.in-Some.ensures in
    encodes_done c.args.label.now _ _ c.if-out-lt-ROOM.false t.0 _ (c.as_slice-ace.ensures ∙ t.1) _ c.if-n-gt-ROOM.false refl (rw c.copy_from_slice.ensures.after refl)
