-- `answered` meets its contract: a stop inside the text is refusal 4, and else its labels decide.
-- Assumes nothing.
use mathlib.Core.Path.{refl, sym, ◌∙◌}
use native.Mathlib.Omega.{arith}
use Rattle.lists.proofs.Laws.{in_range}
use Rattle.searches.proofs.Searching.{stopped, read_all}
use Rattle.searches.proofs.Stops.{stopped_at, came_to_end}
use Rattle.searches.proofs.answered.Goals as goal

pub returns-in-Some : goal.returns-in-Some
returns-in-Some c =
    let S = c.requires in
    let h = stopped_at _ _ (sym c.in-Some.is ∙ S.place) in
    stopped _ _ S.there_is S.read h.0 h.1

pub overflow_add-result : goal.overflow_add-result
overflow_add-result c =
    let S = c.requires in
    let h = stopped_at _ _ (sym c.in-Some.is ∙ S.place) in
    omega (arith, h.1, (in_range 1 256 _ S.read).1)

pub is_name-requires : goal.is_name-requires
is_name-requires c = c.requires.read

pub returns-in-None : goal.returns-in-None
returns-in-None c =
    let S = c.requires in
    read_all _ _ S.there_is S.read refl (came_to_end _ _ (sym c.in-None.is ∙ S.place)) c.is_name.ensures
