-- `put_text` meets its contract: the form is put to its place, and the line around it; with a refusal the form's place is as it was.
-- Assumes nothing.
use mathlib.Core.Path.{refl}
use native.Mathlib.Omega.{arith}
use Rattle.refusals.proofs.Once.{number_not_0}
use Rattle.rules.specs.Editions.{today_with}
use Rattle.rules.specs.Verdicts.{class_told}
use Rattle.answer.proofs.Pieces.{before_length}
use Rattle.answer.proofs.Placing.{form_fits, accepted_puts, refused_puts}
use Rattle.answer.proofs.put_text.Goals as goal

pub overflow_add-a : goal.overflow_add-a
overflow_add-a c =
    let a = c.args in
    let p = c.requires in
    omega (arith, before_length a.id.now (class_told c.in-Ok.name.class), form_fits (today_with a.kanji.now) a.id.now a.text.now a.out.now p.0 p.1 c.to_ascii_with.auto.out c.in-Ok.ensures)

pub put_end-requires : goal.put_end-requires
put_end-requires c =
    let a = c.args in
    let p = c.requires in
    omega (arith, before_length a.id.now (class_told c.in-Ok.name.class), form_fits (today_with a.kanji.now) a.id.now a.text.now a.out.now p.0 p.1 c.to_ascii_with.auto.out c.in-Ok.ensures)

pub returns-in-Ok : goal.returns-in-Ok
returns-in-Ok c =
    let a = c.args in
    let p = c.requires in
    accepted_puts (today_with a.kanji.now) a.id.now a.text.now a.out.now p.0 p.1 c.to_ascii_with.auto.out c.in-Ok.ensures refl c.put_accepted-a.ensures c.put_end.ensures

pub returns-in-Err : goal.returns-in-Err
returns-in-Err c =
    let a = c.args in
    let p = c.requires in
    refused_puts (today_with a.kanji.now) a.id.now a.text.now a.out.now p.0 p.1 c.to_ascii_with.auto.out c.in-Err.ensures (number_not_0 c.in-Err.refused.why) (rw c.number_of.ensures at c.put_refused.ensures)
