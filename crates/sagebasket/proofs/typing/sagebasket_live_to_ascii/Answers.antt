-- `sagebasket_live_to_ascii` meets its contract: it tells what the whole ASCII form says of the text held.
-- Assumes nothing.
use mathlib.Core.Path.{◌≡◌}
use lib.ListN.{length, get_or}
use Rattle.rules.specs.Editions.{edition_of}
use Rattle.sagebasket.specs.Outside.{held}
use Rattle.sagebasket.proofs.Alike.{ascii_alike}
use Rattle.sagebasket.proofs.Held.{held_said}
use borrow.Author.Rules.{rules}
use Rattle.sagebasket.proofs.typing.sagebasket_live_to_ascii.Goals as goal

pub returns : goal.returns
unfolding held
returns c =
    let s = c.args.state.now in
    let whole : length s ≡ 258 = search rules in
    held_said s whole c.typed.ensures _ (ascii_alike (edition_of (get_or s 257 0)) _ _ _ _) c.tell_ascii.ensures
