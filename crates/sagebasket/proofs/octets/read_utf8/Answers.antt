-- `read_utf8` meets its contract: with the octets decoded, as many of their code points are lent as there are, up to 257.
-- Assumes nothing.
use mathlib.Core.Path.{◌≡◌, sym, ap}
use lib.ListN.{length}
use Rattle.utf8.specs.Decodes.{Decoded}
use Rattle.sagebasket.proofs.Reading.{reads}
use borrow.Author.Rules.{rules}
use Rattle.sagebasket.proofs.octets.read_utf8.Goals as goal

pub returns-in_err-count : goal.returns-in_err-count
returns-in_err-count c = rw c.from_residual.ensures (sym (ap (λ (r : Decoded). r.ok) c.in_err-count.ensures.result))

pub returns : goal.returns
returns c = let whole : length c.args.text.now ≡ 257 = search rules in reads c.args.octets.now whole c.in_ok-count.ensures c.min.ensures
