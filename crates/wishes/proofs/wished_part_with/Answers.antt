-- `wished_part_with` meets its contract: its three returns are the three cases, and each part is the beginning of its slice.
-- Assumes nothing.
use mathlib.Core.Path.{◌≡◌, refl, sym, ◌∙◌}
use mathlib.Core.List.{List}
use Prim.Native.Nat.{ℕ}
use native.Mathlib.Omega.{arith}
use lib.ListN.{length, take}
use lib.Seq.{length-take-le}
use Rattle.lists.proofs.Laws.{index_bound}
use Rattle.characters.specs.Characters.{separator}
use Rattle.wishes.specs.Wishes.{part_length}
use Rattle.wishes.proofs.Choosing.{ok_number, err_number, first_hands, second_hands, neither_hands}
use Rattle.wishes.proofs.wished_part_with.Goals as goal

inside : (t : List ℕ) {n : ℕ} → n ≡ part_length t → n ≡ length (take n t)
unfolding part_length
inside t e = sym (length-take-le _ t (omega (arith, index_bound separator t)))

pub slice_bounds-result-end : goal.slice_bounds-result-end
slice_bounds-result-end c = inside _ c.part_length-n.ensures

pub slice_bounds-result-end-then-is_ok-2 : goal.slice_bounds-result-end-then-is_ok-2
slice_bounds-result-end-then-is_ok-2 c = inside _ c.part_length-n-then-is_ok-2.ensures

pub returns-then-is_ok : goal.returns-then-is_ok
returns-then-is_ok c =
    first_hands _ _ _ _ c.checked_alone.ensures (ok_number c.checked_alone.result (sym c.is_ok.ensures.value ∙ c.if-is_ok.true)) c.part_length-n.ensures
    (record { begins = refl; shows = refl })

pub returns-then-is_ok-2 : goal.returns-then-is_ok-2
returns-then-is_ok-2 c =
    let a = err_number c.checked_alone.result (sym c.is_ok.ensures.value ∙ c.if-is_ok.false) in
    let b = ok_number c.checked_alone-2.result (sym c.is_ok-2.ensures.value ∙ c.if-is_ok-2.true) in
    second_hands _ _ _ _ c.checked_alone.ensures a c.checked_alone-2.ensures b c.part_length-n-then-is_ok-2.ensures
    (record { begins = refl; shows = refl })

pub returns : goal.returns
returns c =
    let a = err_number c.checked_alone.result (sym c.is_ok.ensures.value ∙ c.if-is_ok.false) in
    let b = err_number c.checked_alone-2.result (sym c.is_ok-2.ensures.value ∙ c.if-is_ok-2.false) in
    neither_hands _ _ _ _ c.checked_alone.ensures a c.checked_alone-2.ensures b (record { begins = refl; shows = refl })
