-- `octet` meets its contract: each return is one case of the procedure's step.
-- Assumes nothing.
use native.Mathlib.Omega.{arith}
use Rattle.punycode.specs.Inner.{read}
use Rattle.punycode.proofs.Machine.{octet_none, octet_over, octet_last, octet_more}
use Rattle.punycode.proofs.decoder.octet.Goals as goal

pub returns-in_err-d : goal.returns-in_err-d
unfolding read
returns-in_err-d c = let a = c.args in rw c.from_residual.ensures (tt, octet_none a.c a.s a.out.now c.in_err-d.ensures)

pub returns-in_err-i : goal.returns-in_err-i
unfolding read
returns-in_err-i c =
    let a = c.args in
    let d = c.in_ok-d in
    rw c.from_residual-in_err-i.ensures (tt, octet_over a.c a.s a.out.now d.d d.ensures.0 d.ensures.1 c.in_err-i.ensures)

pub returns-then-d-t : goal.returns-then-d-t
returns-then-d-t c =
    let a = c.args in
    let d = c.in_ok-d in
    let i = c.in_ok-i.ensures in
    let t = c.threshold-t in
    let fits = rw i.0 at i.1 in
    let p = rw i.0 at c.place.ensures in
    (p.0, octet_last a.c a.s a.out.now d.d d.ensures.0 d.ensures.1 fits t.result t.ensures.0 _ c.if-d-t.true p.1)

pub returns : goal.returns
unfolding read
returns c =
    let a = c.args in
    let d = c.in_ok-d in
    let i = c.in_ok-i.ensures in
    let t = c.threshold-t in
    let q = c.requires.0 in
    let fits = rw i.0 at i.1 in
    rw i.0 (
      (record { n_low = q.n_low; len_low = q.len_low; i_low = fits; i_from = omega (arith, q.i_from) }, omega arith, omega arith),
      octet_more a.c a.s a.out.now d.d d.ensures.0 d.ensures.1 fits t.result t.ensures.0 c.if-d-t.false,
    )
