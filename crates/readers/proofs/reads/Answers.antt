-- `reads` meets its contract: it lends the bits of the kanji, with which the edition is itself.
-- Assumes nothing.
use mathlib.Core.Path.{◌≡◌}
use Rattle.rules.specs.Permits.{Permits}
use Rattle.rules.specs.Reader.{reader}
use Rattle.rules.proofs.Editions.{lending}
use Rattle.readers.proofs.reads.Goals as goal

pub returns : goal.returns
returns c = lending (λ (P : Permits). c.reads_with.result ≡ reader P c.args.label.now) 4 c.kanji_table-kanji.ensures c.reads_with.ensures
