-- A text is its own normal form where each of its characters is its own replacement and none is a mark: nothing is replaced, and no base
-- is followed by what composes with it.
-- Assumes nothing.
use mathlib.Core.Path.{◌≡◌, refl, sym, ap, ◌∙◌}
use mathlib.Core.Bool.{Bool, true, not, ◌&&◌, ◌||◌}
use mathlib.Core.List.{List, [], ◌∷◌, map}
use Prim.Native.Nat.{ℕ}
use lib.Dec.{eqb}
use borrow.Author.Tests.{eq-eqb, ne_eqb, eqb-true, not-true}
use Rattle.lists.specs.Tests.{all_of}
use Rattle.lists.proofs.Laws.{both, neither}
use Rattle.characters.specs.Replace.{replace}
use Rattle.characters.specs.Compose.{composed}
use Rattle.characters.proofs.Pairs.{unmarked}
use Rattle.normal.specs.Normal.{normal_form}
use Rattle.normal.proofs.Plain.{join_all, plain, join_stays}

unfoldable pub unchanged : ℕ → Bool
unchanged c = eqb (replace c) c && not (eqb c 0x309B || eqb c 0x309C)

module _ (c : ℕ) where
  pub unchanged_by : c ≡ replace c → (c ≡ 0x309B → ⊥) → (c ≡ 0x309C → ⊥) → unchanged c ≡ true
  unfolding unchanged
  unchanged_by e f g = rw (eq-eqb (replace c) c (sym e), ne_eqb c 0x309B f, ne_eqb c 0x309C g)

  module _ (e : unchanged c ≡ true) where
    parts : (eqb (replace c) c ≡ true) × (not (eqb c 0x309B || eqb c 0x309C) ≡ true)
    unfolding unchanged
    parts = both (eqb (replace c) c) (not (eqb c 0x309B || eqb c 0x309C)) e

    pub unreplaced : replace c ≡ c
    unreplaced = eqb-true (replace c) c parts.0

    pub no_mark : (b : ℕ) → composed b c ≡ 0
    no_mark b =
        let n = neither (eqb c 0x309B) (eqb c 0x309C) (not-true (eqb c 0x309B || eqb c 0x309C) parts.1) in
        unmarked b c n.0 n.1

none_replaced : (l : List ℕ) → all_of unchanged l ≡ true → map replace l ≡ l
unfolding all_of
none_replaced [] e = refl
none_replaced (x ∷ xs) e =
    let p = both (unchanged x) (all_of unchanged xs) e in
    rw (unreplaced x p.0, none_replaced xs p.1)

none_joined : (l : List ℕ) → all_of unchanged l ≡ true → join_all l ≡ l
unfolding all_of join_all
none_joined [] e = refl
none_joined (x ∷ []) e = refl
none_joined (b ∷ m ∷ rest) e =
    let p = both (unchanged b) (all_of unchanged (m ∷ rest)) e in
    let q = both (unchanged m) (all_of unchanged rest) p.1 in
    join_stays b m rest (no_mark m q.0 b) ∙ ap (λ (l : List ℕ). b ∷ l) (none_joined (m ∷ rest) p.1)

pub unchanged_form : (text : List ℕ) → all_of unchanged text ≡ true → normal_form text ≡ text
unchanged_form text e = plain text ∙ ap join_all (none_replaced text e) ∙ none_joined text e
