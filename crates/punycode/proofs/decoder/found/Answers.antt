-- `found` meets its contract: the procedure's label is kept where its encoding is the octets.
-- Assumes nothing.
use mathlib.Core.Path.{sym, ap, ◌∙◌}
use Rattle.punycode.specs.Decoding.{decode}
use Rattle.punycode.proofs.Answers.{to_end, found_short, found_none, found_some}
use Rattle.punycode.proofs.decoder.found.Goals as goal

pub returns-then-low-lt4 : goal.returns-then-low-lt4
returns-then-low-lt4 c = (tt, found_short c.args.low.now c.if-low-lt4.true)

pub returns-in_err-label : goal.returns-in_err-label
returns-in_err-label c =
    let low = c.args.low.now in
    rw c.from_residual.ensures (tt, found_none low (ap decode (sym (to_end 4 low)) ∙ c.in_err-label.ensures.1))

pub returns : goal.returns
returns c =
    let low = c.args.low.now in
    let n = c.in_ok-label in
    found_some low n.label _ c.then_some.result (ap decode (sym (to_end 4 low)) ∙ n.ensures.1) c.encodes-same.ensures n.ensures.0 c.then_some.ensures
