-- `is_ja` meets its contract: no Japanese character stands below 3003.
-- Assumes nothing.
use mathlib.Core.Path.{◌∙◌}
use borrow.Author.Tests.{lt-leb}
use Rattle.rules.specs.Permits.{ja_char}
use Rattle.rules.specs.Editions.{edition_with}
use Rattle.labels.proofs.OfLabel.{ja_low}
use Rattle.labels.proofs.is_ja.Goals as goal

pub returns-then-c-ge-FIRST_JAPANESE : goal.returns-then-c-ge-FIRST_JAPANESE
unfolding ja_char edition_with
returns-then-c-ge-FIRST_JAPANESE c = c.is_japanese.ensures

pub returns-else-c-ge-FIRST_JAPANESE : goal.returns-else-c-ge-FIRST_JAPANESE
returns-else-c-ge-FIRST_JAPANESE c = lt-leb _ _ c.if-c-ge-FIRST_JAPANESE.false ∙ ja_low c.args.edition.now _ c.if-c-ge-FIRST_JAPANESE.false
