-- `handed_length` meets its contract: its three returns are the three cases.
-- Assumes nothing.
use native.Mathlib.Omega.{arith}
use borrow.Author.Tests.{eq-eqb, ne_eqb}
use Rattle.wishes.specs.Wishes.{handed_length}
use Rattle.wishes.proofs.handed_length.Goals as goal

pub returns-in-0 : goal.returns-in-0
unfolding handed_length
returns-in-0 c = rw (eq-eqb _ 0 c.in-0.is)

pub returns-in-2 : goal.returns-in-2
unfolding handed_length
returns-in-2 c = rw (ne_eqb c.args.won 0 (λ e. omega arith), eq-eqb _ 2 c.in-2.is) c.part_length.ensures

pub returns-in_default : goal.returns-in_default
unfolding handed_length
returns-in_default c = rw (ne_eqb c.args.won 0 (λ e. omega arith), ne_eqb c.args.won 2 (λ e. omega arith)) c.part_length-in_default.ensures
