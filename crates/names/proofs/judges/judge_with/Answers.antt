-- `judge_with` meets its contract: its array of zeros, lent, holds the normal form before its zeros, and the labels are those of the form.
-- Assumes nothing.
use mathlib.Core.Path.{sym}
use native.Mathlib.Omega.{arith}
use lib.Seq.{length-take-le}
use Rattle.names.proofs.Answering.{accepted_as, two_or_three_there}
use Rattle.names.proofs.Judging.{judged_refused, judged_accepted}
use Rattle.names.proofs.judges.judge_with.Goals as goal

pub slice_bounds-form-end : goal.slice_bounds-form-end
slice_bounds-form-end c =
    let j = c.judge_into-ruled in
    let p = accepted_as _ _ j.ensures c.in-Ok.is in omega (arith, p.few, j.auto.form)

pub slice_bounds-label_places-end : goal.slice_bounds-label_places-end
slice_bounds-label_places-end c =
    let j = c.judge_into-ruled in
    let p = accepted_as _ _ j.ensures c.in-Ok.is in
    sym (length-take-le _ j.new.form (omega (arith, p.few, j.auto.form)))

pub label_places-requires : goal.label_places-requires
label_places-requires c = two_or_three_there _ _ c.judge_into-ruled.ensures c.in-Ok.is

pub returns-in-Ok : goal.returns-in-Ok
returns-in-Ok c = judged_accepted _ _ c.judge_into-ruled.ensures c.in-Ok.is c.label_places.ensures

pub returns-in-Err : goal.returns-in-Err
returns-in-Err c = judged_refused _ _ c.judge_into-ruled.ensures c.in-Err.is
