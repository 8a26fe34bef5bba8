-- `front_with` meets its contract: a refusal is the normal form call's, and the first unfit character is looked for in what that call wrote.
-- Assumes nothing.
use mathlib.Core.Path.{refl}
use native.Mathlib.Omega.{arith}
use Rattle.std.proofs.lemmas.List.{length-take-le}
use Rattle.std.proofs.Common.{rules, tests}
use Rattle.std.proofs.lemmas.Result.{err_from_is_err_and}
use Rattle.refusals.proofs.Once.{number_not_0}
use Rattle.fronts.proofs.Fronting.{fronts_refused, inside, fronts_given}
use Rattle.fronts.proofs.front_with.Goals as goal

pub returns-in_err-length : goal.returns-in_err-length
returns-in_err-length c =
    let p = err_from_is_err_and c.from_residual.result c.from_residual.ensures.1 in
    rw (p.1, p.2) (fronts_refused _ c.in_err-length.ensures (number_not_0 _))

pub slice_bounds-first_unfit_with-end : goal.slice_bounds-first_unfit_with-end
slice_bounds-first_unfit_with-end c = inside c.in_ok-length.ensures

pub slice_bounds-first_unfit_with-end-2 : goal.slice_bounds-first_unfit_with-end-2
slice_bounds-first_unfit_with-end-2 c = omega (arith, length-take-le c.in_ok-length.length c.normal_form.new.out (inside c.in_ok-length.ensures))

pub returns : goal.returns
returns c = fronts_given _ c.in_ok-length.ensures refl _ (search (rules, tests))
