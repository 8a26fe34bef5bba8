-- `which_won` meets its contract: it lends the bits of the kanji, with which the edition in force is itself.
-- Assumes nothing.
use mathlib.Core.Path.{◌≡◌}
use Rattle.rules.specs.Permits.{Permits}
use Rattle.rules.proofs.Editions.{lending}
use Rattle.wishes.specs.Wishes.{wishes_told, wished}
use Rattle.wishes.proofs.which_won.Goals as goal

pub returns : goal.returns
returns c =
    let a = c.args in
    let r = c.which_won_with in
    lending (λ (P : Permits). wishes_told r.result ≡ wished P a.first.now a.second.now) 4 c.kanji_table-kanji.ensures r.ensures
