-- `decode` meets its contract: where there is a fault nothing was done, and where there is none the pass reads all.
-- Assumes nothing.
use mathlib.Core.Path.{sym, ◌∙◌}
use Rattle.utf8.proofs.Decoding.{refused, well}
use Rattle.utf8.proofs.decode.Goals as goal

pub returns-then-not-is_well_formed : goal.returns-then-not-is_well_formed
returns-then-not-is_well_formed c =
    let w = c in
    (refused w.args.bytes.now _ (sym w.is_well_formed.ensures ∙ c.if-not-is_well_formed.true))

pub returns : goal.returns
returns c =
    let w = c in
    well w.args.bytes.now _ (sym w.is_well_formed.ensures ∙ c.if-not-is_well_formed.false) c.decode_up_to_fault.ensures
