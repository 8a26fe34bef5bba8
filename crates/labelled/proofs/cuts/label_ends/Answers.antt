-- `label_ends` meets its contract: the labels end where the periods stand.
-- Assumes nothing.
use Rattle.labelled.proofs.Cutting.{cut_one, cut_two, is_three, is_more}
use Rattle.labelled.proofs.cuts.label_ends.Goals as goal

pub returns-then-first-n : goal.returns-then-first-n
returns-then-first-n c = cut_one _ _ c.label_end-first.ensures c.if-first-n.true

pub returns-then-second-n : goal.returns-then-second-n
returns-then-second-n c = cut_two _ _ c.label_end-first.ensures c.if-first-n.false _ c.label_end-second.ensures c.if-second-n.true

pub returns-then-label_end-n : goal.returns-then-label_end-n
returns-then-label_end-n c =
    is_three _ _ c.label_end-first.ensures c.if-first-n.false _ c.label_end-second.ensures
    c.if-second-n.false _ c.label_end.ensures c.if-label_end-n.true

pub returns : goal.returns
returns c =
    is_more _ _ c.label_end-first.ensures c.if-first-n.false _ c.label_end-second.ensures
    c.if-second-n.false _ c.label_end.ensures c.if-label_end-n.false
