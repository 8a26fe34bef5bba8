-- `end` meets its contract: what the end of the input writes stands in the buffer, and all of it is handed out.
-- Assumes nothing.
use Rattle.std.proofs.Common.{refl, ◌∙◌}
use Rattle.lists.proofs.Pieces.{puts_inside}
use lib.Seq.{length-take-le}
use Rattle.desk.proofs.Pieces.{at_end}
use Rattle.desk.proofs.end.Goals as goal

pub returns : goal.returns
returns g c =
    let told = rw c.unwrap-length.ensures at c.finish_with.ensures in
    record { line = refl; handed = c.in_ok-count.ensures ∙ length-take-le _ _ (puts_inside told.text) ∙ at_end c.requires.0 c.requires.1 told }
