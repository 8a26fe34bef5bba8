-- `put_answer` meets its contract: too long, no two fields, or what is put for the two fields.
-- Assumes nothing.
use mathlib.Core.Path.{sym}
use native.Mathlib.Omega.{arith}
use lib.Seq.{length-take-le}
use Rattle.rules.specs.Editions.{today_with}
use Rattle.answer.proofs.Answering.{long_line, no_parts, tab_inside, line_fields}
use Rattle.answer.proofs.put_answer.Goals as goal

pub returns-then-line-gt-LONGEST_LINE : goal.returns-then-line-gt-LONGEST_LINE
returns-then-line-gt-LONGEST_LINE c = let a = c.args in rw (long_line (today_with a.kanji.now) a.line.now c.if-line-gt-LONGEST_LINE.true) c.put_bad.ensures

pub slice_bounds-put_fields-end : goal.slice_bounds-put_fields-end
slice_bounds-put_fields-end c = sym (length-take-le _ _ (omega (arith, tab_inside _ _ c.in-Some.ensures)))

pub returns-in-Some : goal.returns-in-Some
returns-in-Some c =
    let a = c.args in
    rw (line_fields (today_with a.kanji.now) a.line.now c.in-Some.tab c.if-line-gt-LONGEST_LINE.false c.in-Some.ensures) c.put_fields.ensures

pub returns-in-None : goal.returns-in-None
returns-in-None c =
    let a = c.args in
    rw (no_parts (today_with a.kanji.now) a.line.now c.if-line-gt-LONGEST_LINE.false c.in-None.ensures) c.put_bad-in-None.ensures
