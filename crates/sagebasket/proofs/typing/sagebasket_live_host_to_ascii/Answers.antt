-- `sagebasket_live_host_to_ascii` meets its contract: it tells what the ASCII form of a host says of the text held.
-- Assumes nothing.
use mathlib.Core.Path.{◌≡◌}
use lib.ListN.{length}
use Rattle.rules.specs.Editions.{today}
use Rattle.sagebasket.proofs.Alike.{host_alike}
use Rattle.sagebasket.proofs.Held.{held_said}
use borrow.Author.Rules.{rules}
use Rattle.sagebasket.proofs.typing.sagebasket_live_host_to_ascii.Goals as goal

pub returns : goal.returns
returns c =
    let s = c.args.state.now in
    let whole : length s ≡ 258 = search rules in
    held_said s whole c.typed.ensures _ (host_alike today _ _ _ _) c.tell_host.ensures
