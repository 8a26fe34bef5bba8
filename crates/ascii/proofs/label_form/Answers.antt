-- `label_form` meets its contract: the coder answers for a label to be encoded, and of any other its length decides.
-- Assumes nothing.
use mathlib.Core.Path.{refl, sym, ◌∙◌}
use native.Mathlib.Omega.{arith}
use Rattle.ascii.proofs.Forming.{by_coder, no_room, too_long, as_it_is}
use Rattle.ascii.proofs.label_form.Goals as goal

pub returns-then-any_high : goal.returns-then-any_high
returns-then-any_high c = by_coder _ _ (sym c.any_high.ensures ∙ c.if-any_high.true) c.encode.ensures

pub returns-then-out-lt-MOST : goal.returns-then-out-lt-MOST
returns-then-out-lt-MOST c = rw c.at.ensures (no_room _ _ (sym c.any_high.ensures ∙ c.if-any_high.false) c.if-out-lt-MOST.true refl)

pub returns-then-length-gt-MOST : goal.returns-then-length-gt-MOST
returns-then-length-gt-MOST c = rw c.at-then-length-gt-MOST.ensures (too_long _ _ (sym c.any_high.ensures ∙ c.if-any_high.false) c.if-out-lt-MOST.false c.if-length-gt-MOST.true refl)

pub put_low-requires : goal.put_low-requires
put_low-requires c = (sym c.any_high.ensures ∙ c.if-any_high.false, omega arith)

pub returns : goal.returns
returns c = as_it_is _ _ (sym c.any_high.ensures ∙ c.if-any_high.false) c.if-out-lt-MOST.false c.if-length-gt-MOST.false c.put_low.ensures
