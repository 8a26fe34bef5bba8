-- `may_become` meets its contract: it lends the bits of the kanji, with which the edition is itself.
-- Assumes nothing.
use mathlib.Core.Path.{◌≡◌}
use Rattle.rules.specs.Permits.{Permits}
use Rattle.rules.specs.Hopeful.{hopeful}
use Rattle.rules.proofs.Editions.{lending}
use Rattle.hopes.proofs.may_become.Goals as goal

pub returns : goal.returns
returns c = lending (λ (P : Permits). c.may_become_with.result ≡ hopeful P c.args.text.now) _ c.kanji_table.ensures c.may_become_with.ensures
