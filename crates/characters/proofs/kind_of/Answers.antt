-- `kind_of` meets its contract: `KANJI` is the table of the specification, and lent that table the kanji are those of the list.
-- Assumes nothing.
use mathlib.Core.Path.{◌∙◌}
use Rattle.characters.specs.KanjiBits.{kanji_bits}
use Rattle.characters.proofs.Lent.{lent}
use Rattle.characters.proofs.kind_of.Goals as goal

pub returns : goal.returns
unfolding kanji_bits
returns c = c.kind.ensures ∙ lent _ _
