-- `usual_line` meets its contract: what is read is an id, a tab and a name, up to the LF; and what is not read so writes nothing.
-- Assumes nothing.
use mathlib.Core.Path.{sym, ap, ◌∙◌}
use Prim.Native.Nat.{ℕ, ◌≤◌}
use native.Mathlib.Omega.{arith}
use lib.ListN.{length, drop}
use Rattle.rules.specs.Editions.{today_with}
use Rattle.lines.specs.declared.Stretch.{Stretch}
use Rattle.answer.proofs.Parts.{tail_part}
use Rattle.answer.proofs.UsualLine.{past_id, answered}
use Rattle.answer.proofs.usual.usual_line.Goals as goal

pub returns : goal.returns
returns c =
    let s = c.args.piece.now in
    let high : c.min-reach.result ≤ length s = omega (arith, c.min-reach.ensures) in
    let next = past_id s high c.field_at-id.ensures c.if-reach-tab.false in
    let good = sym c.is_id.ensures ∙ c.if-not-is_id.false in
    let read = c.in_ok-read.ensures in
    let at-tab = ap (λ (f : Stretch). f.end) c.field_at-id.ensures in
    let after-tab = tail_part s _ ∙ ap (λ (n : ℕ). drop n s) next in
    rw next (answered s high at-tab c.if-reach-tab.false good after-tab (omega (arith, read.inside)) read.ends read.no_controls
    (today_with c.args.kanji.now) (omega (arith, read.inside)) read.text c.put_text-length.ensures)
