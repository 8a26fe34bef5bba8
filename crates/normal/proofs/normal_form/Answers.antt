-- `normal_form` meets its contract: each refusal comes before the first write.
-- Assumes nothing.
use mathlib.Core.Path.{sym}
use native.Mathlib.Omega.{arith}
use Rattle.lists.proofs.Pieces.{puts_count, puts_written}
use Rattle.normal.proofs.Answers.{no_room, no_text, too_long, written_full}
use Rattle.normal.proofs.normal_form.Goals as goal

pub returns-then-out-lt-MOST : goal.returns-then-out-lt-MOST
returns-then-out-lt-MOST c = rw c.at.ensures (no_room _ _ (omega (arith, c.if-out-lt-MOST.true)))

pub returns-in_default : goal.returns-in_default
returns-in_default c = rw c.at-in_default.ensures (no_text _ _ c.if-out-lt-MOST.false c.in_default.ensures.cases)

pub returns-then-text-gt-MOST : goal.returns-then-text-gt-MOST
returns-then-text-gt-MOST c = rw c.at-then-text-gt-MOST.ensures (too_long _ _ c.if-out-lt-MOST.false (λ e. omega (arith, c.in-Some.ensures.cases.1)) c.if-text-gt-MOST.true)

pub returns : goal.returns
returns c =
    let puts = rw (sym c.in-Some.ensures.cases.0) at c.fill.ensures in
    written_full _ _ c.if-out-lt-MOST.false (λ e. omega (arith, c.in-Some.ensures.cases.1)) c.if-text-gt-MOST.false
    (puts_count puts) (puts_written puts)
