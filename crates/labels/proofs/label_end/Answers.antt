-- `label_end` meets its contract: the first period of what is left from `from` on.
-- Assumes nothing.
use mathlib.Core.Path.{◌≡◌, ◌∙◌, ap, refl}
use Prim.Native.Nat.{ℕ, ◌+◌}
use Rattle.std.proofs.Common.{rules, tests}
use Rattle.std.proofs.lemmas.Iterator.{YieldsList-from_slice}
use Rattle.std.proofs.lemmas.Iterator.Consumers.{YieldsList-from_copied}
use Rattle.std.proofs.lemmas.Iterator.Search.{position_from_yields_List}
use Rattle.lists.specs.Tests.{index_of}
use Rattle.rules.specs.Labels.{period}
use Rattle.labels.proofs.Searching.{index_or_length, left_from}
use Rattle.labels.proofs.label_end.Goals as goal

pub returns : goal.returns
unfolding period
returns c =
    let n : c.unwrap_or.result ≡ index_of period c.unwrap_or-rest.result.now =
    index_or_length period _ (position_from_yields_List _ c.position.new.self _ c.position.result c.position.ensures.ran (YieldsList-from_copied {s = c.copied.result} (YieldsList-from_slice c.unwrap_or-rest.result.now (search (rules, tests)))) (λ x b q k. search (rules, tests)))
    c.unwrap_or.ensures in
    ap (λ (k : ℕ). c.args.from + k) (n ∙ ap (index_of period) (left_from _ _ _ _ c.get.ensures.lookup c.unwrap_or-rest.ensures refl))
