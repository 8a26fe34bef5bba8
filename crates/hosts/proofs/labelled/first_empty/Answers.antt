-- `first_empty` meets its contract: the parts are the labels.
-- Assumes nothing.
use Rattle.std.proofs.Common.{rules, tests}
use Rattle.std.proofs.lemmas.Iterator.Splits.{YieldsList-from_slice_split}
use Rattle.std.proofs.lemmas.Iterator.Search.{position_from_yields_List}
use Rattle.rules.specs.Labels.{period}
use Rattle.rules.specs.Permits.{is_empty}
use Rattle.rules.proofs.Steps.{empty_is}
use Rattle.hosts.proofs.Splitting.{first_is}
use Rattle.hosts.proofs.labelled.first_empty.Goals as goal

pub returns : goal.returns
returns c =
    let s = c.split.ensures in
    first_is is_empty c.args.form.now
    (position_from_yields_List is_empty _ _ c.position.result c.position.ensures.ran (YieldsList-from_slice_split _ period c.args.form.now s.rest s.done s.closure (λ x b q k. search (rules, tests)))
    (λ x b q k. search (rules, tests, empty_is)))
