-- `sagebasket_acceptable` meets its contract: it says what `acceptable` says, and a count of at most 256 fits 32 bits.
-- Assumes nothing.
use mathlib.Core.Path.{ap, ◌∙◌}
use native.Mathlib.Omega.{arith}
use Rattle.searches.specs.declared.Searched.{Searched}
use Rattle.searches.proofs.Checking.{lengths_today}
use Rattle.sagebasket.specs.Outside.{flag}
use Rattle.sagebasket.proofs.Said.{flag_is}
use Rattle.sagebasket.proofs.naming.sagebasket_acceptable.Goals as goal

pub overflow_cast-read : goal.overflow_cast-read
overflow_cast-read c = omega (arith, ap (λ (s : Searched). s.read) c.acceptable-said.ensures, (lengths_today c.args.text.now).1)

pub returns : goal.returns
returns c =
    let e = c.acceptable-said.ensures in
    record { said = c.from.ensures ∙ flag_is _ ∙ ap (λ (s : Searched). flag s.yes) e; count = ap (λ (s : Searched). s.read) e }
