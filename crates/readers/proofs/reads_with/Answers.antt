-- `reads_with` meets its contract: what begins with no hyphen is read as if after a character.
-- Assumes nothing.
use mathlib.Core.Path.{◌∙◌}
use native.Mathlib.Omega.{arith}
use borrow.Author.Tests.{lt-leb}
use Rattle.rules.specs.Reader.{nothing}
use Rattle.readers.proofs.Reading.{no_label, too_long, hyphen_first, begins}
use Rattle.readers.proofs.reads_with.Goals as goal

pub returns-in-empty : goal.returns-in-empty
returns-in-empty c = no_label _ _ (omega arith)

pub returns-in-empty-2 : goal.returns-in-empty-2
returns-in-empty-2 c = hyphen_first _ _ (λ e. omega arith) (omega arith)

pub returns-else-label-le63 : goal.returns-else-label-le63
returns-else-label-le63 c = lt-leb _ _ c.if-label-le63.false ∙ too_long _ _ (omega arith)

pub returns-then-label-le63 : goal.returns-then-label-le63
unfolding nothing
returns-then-label-le63 c = c.after_character.ensures ∙ begins _ _ (λ e. omega arith) (λ e. omega arith)
