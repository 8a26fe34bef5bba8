-- What is handed out at a turn is what the feed wrote; what it used is more than none of what is left.
-- Assumes nothing.
use Rattle.std.proofs.Common.{arith, ◌∙◌, ◌≡◌, ◌<◌, length, length-drop}
use Rattle.std.proofs.lemmas.Bool.Decides.{nat_tests}
use Rattle.answer.proofs.Parts.{tail_part}
use lib.Seq.{length-take-le}
use Rattle.desk.proofs.Pieces.{wrote_fits, used_fits, count_fits, forward, goes, ends}
use Rattle.desk.proofs.feed_all.Goals as goal

pub overflow_add-count : goal.overflow_add-count
overflow_add-count g c =
    let i = c.loop-rest.invariant in
    let f = c.feed_with-fed.ensures in
    omega (arith, count_fits i.table i.kept f i.short, c.in_ok-count.ensures ∙ length-take-le _ _ (wrote_fits i.table i.kept f))

pub slice_bounds-rest-count : goal.slice_bounds-rest-count
slice_bounds-rest-count g c = let i = c.loop-rest.invariant in used_fits i.table i.kept c.feed_with-fed.ensures

pub slice_bounds-rest-start : goal.slice_bounds-rest-start
slice_bounds-rest-start g c = let i = c.loop-rest.invariant in used_fits i.table i.kept c.feed_with-fed.ensures

pub loop-rest-smaller : goal.loop-rest-smaller
loop-rest-smaller g c =
    let i = c.loop-rest.invariant in
    let f = c.feed_with-fed.ensures in
    let some : 0 < length c.loop-rest.rest.now = grind (arith, nat_tests, c.loop-rest-test.ensures) in
    rw tail_part (omega (arith, length-drop c.feed_with-fed.result.used c.loop-rest.rest.now, used_fits i.table i.kept f, forward i.table i.kept f some))

pub loop-rest-preserved : goal.loop-rest-preserved
loop-rest-preserved g c =
    let i = c.loop-rest.invariant in
    let f = c.feed_with-fed.ensures in
    record {
      table = i.table;
      short = i.short;
      kept = rw tail_part (goes i.table i.kept f (c.in_ok-count.ensures ∙ length-take-le _ _ (wrote_fits i.table i.kept f)) c.feed_with-fed.auto.out);
    }

pub returns : goal.returns
returns g c =
    let none : length c.loop-rest.rest.now ≡ 0 = grind (arith, nat_tests, c.loop-rest-test.ensures) in
    let d = ends none c.loop-rest.invariant.kept in
    record { next = d.0; handed = d.1 }
