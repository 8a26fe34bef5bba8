-- `kanji_bits` meets its contract: the table in the code is that of the definitions.
-- Assumes nothing.
use mathlib.Core.Path.{refl}
use Rattle.characters.specs.KanjiBits.{kanji_bits}
use Rattle.characters.proofs.kanji_bits.Goals as goal

pub returns : goal.returns
unfolding kanji_bits
returns c = refl
