-- `to_ascii` meets its contract: it lends the bits of the kanji, with which the edition is itself.
-- Assumes nothing.
use Rattle.rules.specs.Permits.{Permits}
use Rattle.hosts.specs.Hosts.{HostForms}
use Rattle.refusals.specs.Refusals.{filled}
use Rattle.rules.proofs.Editions.{lending}
use Rattle.hosts.proofs.forms.to_ascii.Goals as goal

pub returns : goal.returns
returns c =
    let a = c.args in
    let r = c.to_ascii_with in
    lending (λ (P : Permits). HostForms P a.text.now a.out.now r.new.out (filled r.result)) 4 c.kanji_table-kanji.ensures r.ensures
