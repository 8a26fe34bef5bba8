-- `put_fields` meets its contract: a bad id, a name that is not well-formed, or what is put for the code points of the name.
-- Assumes nothing.
use mathlib.Core.Path.{refl, sym, ap, ◌∙◌}
use Prim.Native.Nat.{min}
use lib.ListN.{take, replicate}
use Rattle.rules.specs.Editions.{today_with}
use Rattle.utf8.specs.Decodes.{Decoded, codes_of}
use Rattle.utf8.proofs.Decoding.{codes_well}
use Rattle.lines.proofs.LineFields.{id_length}
use Rattle.answer.proofs.Answering.{bad_id, bad_name, good_fields, lent_name}
use borrow.Author.Rules.{rules}
use Rattle.answer.proofs.put_fields.Goals as goal

pub returns-then-not-is_id : goal.returns-then-not-is_id
returns-then-not-is_id c =
    let a = c.args in
    rw (bad_id (today_with a.kanji.now) a.id.now a.name.now (sym c.is_id.ensures ∙ c.if-not-is_id.true)) c.put_bad.ensures

pub returns-in-None : goal.returns-in-None
returns-in-None c =
    let a = c.args in
    let ok = sym (ap (λ (x : Decoded). x.ok) c.in-None.ensures.result) in
    rw (bad_name (today_with a.kanji.now) a.id.now a.name.now (sym c.is_id.ensures ∙ c.if-not-is_id.false) ok) c.put_bad-in-None.ensures

pub put_text-requires : goal.put_text-requires
put_text-requires c = search (rules, id_length c.args.id.now (sym c.is_id.ensures ∙ c.if-not-is_id.false))

pub returns-in-Some : goal.returns-in-Some
returns-in-Some c =
    let a = c.args in
    let d = c.in-Some.ensures in
    let g = lent_name (codes_of a.name.now) (replicate 257 0) c.decode.new.out c.min.result refl d.buffer (c.min.ensures ∙ ap (λ (x : Decoded). min x.count 257) d.result) in
    let ok = sym (ap (λ (x : Decoded). x.ok) d.result) in
    rw (good_fields (today_with a.kanji.now) a.id.now a.name.now _ (sym c.is_id.ensures ∙ c.if-not-is_id.false) ok (g ∙ ap (take 257) (codes_well a.name.now ok))) c.put_text.ensures
