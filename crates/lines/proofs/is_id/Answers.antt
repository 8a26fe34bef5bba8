-- `is_id` meets its contract: the range is tested first, then each byte.
-- Assumes nothing.
use mathlib.Core.Path.{◌≡◌, ◌∙◌}
use lib.ListN.{length}
use borrow.Author.Rules.{rules}
use borrow.Author.Tests.{tests}
use Rattle.std.proofs.lemmas.Iterator.{YieldsList-from_slice}
use Rattle.std.proofs.lemmas.Iterator.Search.{all_from_yields_List}
use Rattle.lists.specs.Tests.{within}
use Rattle.lists.proofs.Chains.{all_is}
use Rattle.lines.specs.Fields.{id_byte, good_id}
use Rattle.lines.proofs.is_id.Goals as goal

pub returns-then-contains : goal.returns-then-contains
unfolding within good_id
returns-then-contains c =
    let xs = c.args.id.now in
    let e : within 1 32 (length xs) ≡ c.contains.result = search (rules, tests) in
    let a = all_from_yields_List id_byte _ _ _ c.all.ensures.ran (YieldsList-from_slice xs cc) (λ x b q k. search (rules, tests)) in
    rw (e, c.if-contains.true) (a ∙ all_is id_byte xs)

pub returns-else-contains : goal.returns-else-contains
unfolding within good_id
returns-else-contains c =
    let e : within 1 32 (length c.args.id.now) ≡ c.contains.result = search (rules, tests) in
    rw (e, c.if-contains.false)
