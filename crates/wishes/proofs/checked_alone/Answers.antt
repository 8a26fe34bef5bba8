-- `checked_alone` meets its contract: the check, given room, says what the rules say.
-- Assumes nothing.
use native.Mathlib.Omega.{arith}
use Rattle.std.proofs.lemmas.Result.{err_from_is_err_and}
use Rattle.wishes.proofs.Choosing.{checked_says}
use Rattle.wishes.proofs.checked_alone.Goals as goal

pub returns-in_err-check_with : goal.returns-in_err-check_with
returns-in_err-check_with c =
    let p = err_from_is_err_and c.from_residual.result c.from_residual.ensures.1 in
    rw (p.1, p.2) (checked_says _ c.in_err-check_with.ensures (omega arith))

pub returns : goal.returns
returns c = checked_says _ c.in_ok-check_with.ensures (omega arith)
