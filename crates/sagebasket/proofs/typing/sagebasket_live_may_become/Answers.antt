-- `sagebasket_live_may_become` meets its contract: past 256 there is no hope by any edition.
-- Assumes nothing.
use mathlib.Core.Path.{◌≡◌, ap, ◌∙◌}
use lib.ListN.{length, get_or}
use mathlib.Core.Bool.{false}
use Rattle.rules.specs.Editions.{edition_of}
use Rattle.rules.specs.Hopeful.{hopeful}
use Rattle.live.specs.Live.{hoped}
use Rattle.sagebasket.specs.Outside.{flag, held}
use Rattle.sagebasket.proofs.Held.{looked_at}
use Rattle.sagebasket.proofs.Said.{flag_is}
use Rattle.sagebasket.proofs.Hopeless.{past_hopeless}
use borrow.Author.Rules.{rules}
use Rattle.sagebasket.proofs.typing.sagebasket_live_may_become.Goals as goal

pub returns : goal.returns
unfolding hoped held
returns c =
    let s = c.args.state.now in
    let whole : length s ≡ 258 = search rules in
    let e = get_or s 257 0 in
    c.from.ensures ∙ flag_is _ ∙ ap flag (c.may_become.ensures ∙ looked_at s whole c.typed.ensures (hopeful (edition_of e)) false (past_hopeless e))
