-- `octets_of` meets its contract, by what the call for one label states of a scratch of 63 octets.
-- Assumes nothing.
use mathlib.Core.Path.{◌∙◌}
use native.Mathlib.Omega.{arith}
use Rattle.rules.specs.Editions.{permits}
use Rattle.rules.proofs.Editions.{lent_stretch}
use Rattle.ascii.proofs.OfNames.{took, gave}
use Rattle.hosts.proofs.Counting.{octets_is}
use Rattle.hosts.proofs.labelled.octets_of.Goals as goal

pub returns : goal.returns
returns c =
    let P = permits c.args.edition.now in
    c.ok.ensures.value
    ∙ octets_is P c.args.label.now c.label_form.result (took P (lent_stretch _ _) c.label_form.ensures (omega arith) c.requires)
    (λ z. (gave P (lent_stretch _ _) c.label_form.ensures (omega arith) c.requires z).0)
