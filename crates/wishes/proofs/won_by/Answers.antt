-- `won_by` meets its contract: its three returns are the three cases.
-- Assumes nothing.
use mathlib.Core.Path.{sym, ◌∙◌}
use Rattle.wishes.proofs.Choosing.{ok_number, err_number, first_won, second_won, neither_won}
use Rattle.wishes.proofs.won_by.Goals as goal

pub returns-then-is_ok : goal.returns-then-is_ok
returns-then-is_ok c = first_won _ _ (ok_number c.args.first (sym c.is_ok.ensures.value ∙ c.if-is_ok.true))

pub returns-then-is_ok-2 : goal.returns-then-is_ok-2
returns-then-is_ok-2 c =
    let a = err_number c.args.first (sym c.is_ok.ensures.value ∙ c.if-is_ok.false) in
    second_won _ _ a (ok_number c.args.second (sym c.is_ok-else-is_ok.ensures.value ∙ c.if-is_ok-2.true))

pub returns-else-is_ok-2 : goal.returns-else-is_ok-2
returns-else-is_ok-2 c =
    let a = err_number c.args.first (sym c.is_ok.ensures.value ∙ c.if-is_ok.false) in
    neither_won _ _ a (err_number c.args.second (sym c.is_ok-else-is_ok.ensures.value ∙ c.if-is_ok-2.false))
