-- `to_ascii_with` meets its contract: 1, then 25, then as any name, or as the usual name where it is one.
-- Assumes nothing.
use mathlib.Core.Path.{◌∙◌}
use native.Mathlib.Omega.{arith}
use Rattle.names.proofs.Answering.{ascii_no_room, ascii_25}
use Rattle.labelled.proofs.OfName.{lent_known}
use Rattle.names.proofs.UsualName.{usual_label, as_text}
use Rattle.names.proofs.whole.to_ascii_with.Goals as goal

pub returns-then-out-lt192 : goal.returns-then-out-lt192
returns-then-out-lt192 c = rw c.at.ensures (ascii_no_room _ _ _ c.if-out-lt192.true)

pub returns-then-not-is_edition : goal.returns-then-not-is_edition
returns-then-not-is_edition c = rw c.at-then-not-is_edition.ensures (ascii_25 _ _ _ (omega arith) (lent_known _ _ c.is_edition.ensures ∙ c.if-not-is_edition.true))

pub usual_name-requires : goal.usual_name-requires
usual_name-requires c = (usual_label _ _ c.in-Some.ensures _ (lent_known _ _ c.is_edition.ensures ∙ c.if-not-is_edition.false) c.in-Some-held_with.ensures, c.if-out-lt192.false)

pub returns : goal.returns
returns c = as_text _ _ c.in-Some.ensures _ c.usual_name.ensures
