-- The table of kanji is not asked before it must be. Without one every code point that could be a kanji is unfit, and any other is as with one.
-- So the walk without stops no later than a walk with a table. What it stops at is unfit with any table, unless that could be a kanji; and
-- there the walk may begin anew, since what stopped joins nothing before it.
-- Assumes nothing.
use mathlib.Core.Path.{◌≡◌, refl, sym, ap, ◌∙◌}
use mathlib.Core.Bool.{Bool, true, false, not, ◌||◌}
use mathlib.Core.List.{List, [], ◌∷◌}
use Prim.Native.Nat.{ℕ, suc, ◌+◌, ◌-◌, ◌≤◌, ◌<◌}
use native.Mathlib.Omega.{arith}
use lib.Dec.{eqb}
use lib.ListN.{length, drop, get_or}
use Rattle.lists.specs.Tests.{pick, within, elem}
use Rattle.lists.proofs.Laws.{by_test}
use Rattle.characters.specs.Characters.{ascii_set, kinds, signs_in, stretch, kind_among, kind_by, any_kind, kanji_with, kind_with}
use Rattle.characters.specs.Kinds.{Hiragana, Katakana, Kanji, Sign, None}
use Rattle.characters.specs.Replace.{replace}
use Rattle.characters.specs.Compose.{composed}
use Rattle.characters.proofs.Bits.{short}
use Rattle.rules.specs.Labels.{period}
use Rattle.rules.specs.Permits.{Permits, ja_char, label_char}
use Rattle.rules.specs.Rules.{unfit}
use Rattle.rules.specs.Editions.{edition_with, today_with}
use Rattle.std.proofs.Common.{Option, Some, None}
use Rattle.searches.specs.Steps.{inside, stops_at, stop_from}
use Rattle.searches.proofs.Stops.{at_end, stopped_at, came_to_end}
use Rattle.searches.proofs.Walking.{lent_joins, zero_no_base, walk_stops, walk_ends, forward, stops_is}

-- ---- one code point

-- unfit, by whether it is a kanji
abbrev unfit_by : Bool → ℕ → Bool
unfit_by k c =
    not (period c || (any_kind (pick (within 0x3041 0x3093 c) Hiragana (pick (within 0x30A1 0x30F6 c) Katakana (pick k Kanji (pick (elem c (signs_in 4)) Sign None)))) || ascii_set c))

unfit_is : (table : List ℕ) (c : ℕ) → unfit (today_with table) c ≡ unfit_by (kanji_with table c) c
unfolding unfit label_char ja_char edition_with kind_with kind_by kinds kind_among stretch
unfit_is table c = refl

-- a kanji is fit
kanji_fit : (c : ℕ) → unfit_by true c ≡ false
unfolding any_kind
kanji_fit c = go (period c) (within 0x3041 0x3093 c) (within 0x30A1 0x30F6 c)
  where
    go : (p a b : Bool) → not (p || (any_kind (pick a Hiragana (pick b Katakana Kanji)) || ascii_set c)) ≡ false
    go true a b = refl
    go false true b = refl
    go false false true = refl
    go false false false = refl

without : (c : ℕ) → unfit (today_with []) c ≡ unfit_by false c
without c = unfit_is [] c ∙ ap (λ (k : Bool). unfit_by k c) (short [] c (omega arith))

module _ (table : List ℕ) (c : ℕ) where
  fit_still : unfit (today_with []) c ≡ false → unfit (today_with table) c ≡ false
  fit_still e =
      unfit_is table c
      ∙ by_test (λ k. unfit_by k c ≡ false) (kanji_with table c) (λ k. kanji_fit c) (λ k. sym (without c) ∙ e)

  unfit_still : within 0x4E00 0x9FA0 c ≡ false → unfit (today_with []) c ≡ true → unfit (today_with table) c ≡ true
  unfolding kanji_with
  unfit_still o u = unfit_is table c ∙ ap (λ (k : Bool). unfit_by k c) none ∙ sym (without c) ∙ u
    where
      none : kanji_with table c ≡ false
      none = rw o

-- ---- the walk

-- where it stops before the end stands an unfit character
at_stop : (P : Permits) (last i : ℕ) (cs : List ℕ) → stop_from P last i cs < i + length cs → unfit P (replace (get_or cs (stop_from P last i cs - i) 0)) ≡ true
unfolding stop_from
at_stop P last i [] h = absurd (omega arith)
at_stop P last i (c ∷ cs) h =
    go (eqb (composed last (replace c)) 0) (unfit P (replace c)) refl h (λ l g. at_stop P l (suc i) cs g)
  where
    -- past the first
    later : (w : ℕ) → suc i ≤ w → unfit P (replace (get_or cs (w - suc i) 0)) ≡ true → unfit P (replace (get_or (c ∷ cs) (w - i) 0)) ≡ true
    later w g u = let e : w - i ≡ suc (w - suc i) = omega arith in rw e u

    go : (z b : Bool) → unfit P (replace c) ≡ b
        → pick z (pick b i (stop_from P (replace c) (suc i) cs)) (stop_from P (composed last (replace c)) (suc i) cs) < i + suc (length cs)
        → ((l : ℕ) → stop_from P l (suc i) cs < suc i + length cs → unfit P (replace (get_or cs (stop_from P l (suc i) cs - suc i) 0)) ≡ true)
        → unfit P (replace (get_or (c ∷ cs) (pick z (pick b i (stop_from P (replace c) (suc i) cs)) (stop_from P (composed last (replace c)) (suc i) cs) - i) 0)) ≡ true
    go true true u h on = let e : i - i ≡ 0 = omega arith in rw e u
    go true false u h on = later _ (forward P (replace c) (suc i) cs) (on (replace c) (omega arith))
    go false b u h on = later _ (forward P (composed last (replace c)) (suc i) cs) (on (composed last (replace c)) (omega arith))

module _ (table : List ℕ) where
  abbrev none : Permits
  none = today_with []

  abbrev some : Permits
  some = today_with table

  -- from where the walk without a table stops, the walk with one goes on as if it began there
  resume : (last i : ℕ) (cs : List ℕ) → stop_from some last i cs ≡ stop_from some 0 (stop_from none last i cs) (drop (stop_from none last i cs - i) cs)
  unfolding stop_from
  resume last i [] = let e : i - i ≡ 0 = omega arith in rw e
  resume last i (c ∷ cs) =
      go (eqb (composed last (replace c)) 0) (unfit none (replace c)) refl (resume (replace c) (suc i) cs) (resume (composed last (replace c)) (suc i) cs)
    where
      later : (l w : ℕ) → suc i ≤ w → stop_from some l (suc i) cs ≡ stop_from some 0 w (drop (w - suc i) cs)
          → stop_from some l (suc i) cs ≡ stop_from some 0 w (drop (w - i) (c ∷ cs))
      later l w g q = let e : w - i ≡ suc (w - suc i) = omega arith in rw e q

      go : (z b : Bool) → unfit none (replace c) ≡ b
          → stop_from some (replace c) (suc i) cs ≡ stop_from some 0 (stop_from none (replace c) (suc i) cs) (drop (stop_from none (replace c) (suc i) cs - suc i) cs)
          → stop_from some (composed last (replace c)) (suc i) cs ≡ stop_from some 0 (stop_from none (composed last (replace c)) (suc i) cs) (drop (stop_from none (composed last (replace c)) (suc i) cs - suc i) cs)
          → pick z (pick (unfit some (replace c)) i (stop_from some (replace c) (suc i) cs)) (stop_from some (composed last (replace c)) (suc i) cs)
          ≡ stop_from some 0 (pick z (pick b i (stop_from none (replace c) (suc i) cs)) (stop_from none (composed last (replace c)) (suc i) cs))
          (drop (pick z (pick b i (stop_from none (replace c) (suc i) cs)) (stop_from none (composed last (replace c)) (suc i) cs) - i) (c ∷ cs))
      go true true u f g = let e : i - i ≡ 0 = omega arith in rw (e, zero_no_base (replace c))
      go true false u f g = rw (fit_still table (replace c) u) (later (replace c) _ (forward none (replace c) (suc i) cs) f)
      go false b u f g = later (composed last (replace c)) _ (forward none (composed last (replace c)) (suc i) cs) g

  module _ (text : List ℕ) {at : ℕ} (e : at ≡ stop_from none 0 0 text) where
    pub again : stop_from some 0 at (drop at text) ≡ stops_at some text
    again =
        let z : at - 0 ≡ at = omega arith in
        sym (stops_is some (lent_joins table) text ∙ resume 0 0 text ∙ rw (← e, z))

    -- it stops at what could be no kanji
    pub anyway : at < length text → within 0x4E00 0x9FA0 (replace (get_or text at 0)) ≡ false → at ≡ stops_at some text
    anyway h o =
        let z : at - 0 ≡ at = omega arith in
        let u : unfit none (replace (get_or text at 0)) ≡ true = rw (← e, z) at (at_stop none 0 0 text (omega (arith, e))) in
        sym (sym again ∙ walk_stops some text 0 at at h refl refl refl (unfit_still table _ o u) (zero_no_base _))

    -- it comes to the end
    pub to_end : length text ≤ at → at ≡ stops_at some text
    to_end h = sym (sym again ∙ walk_ends some text 0 at at h)

  -- the walk goes on from where the one without a table stopped, if it did
  module _ (text : List ℕ) where
    abbrev there : ℕ → Option ℕ → Type 0
    there stop r = r ≡ inside (length text) stop

    pub goes_on : {at : ℕ} {r : Option ℕ} → there (stop_from none 0 0 text) (Some at) → there (stop_from some 0 at (drop at text)) r
        → there (stops_at some text) r
    goes_on e on = on ∙ ap (inside (length text)) (again text (stopped_at _ _ e).0)

    pub comes_to_end : there (stop_from none 0 0 text) None → there (stops_at some text) None
    comes_to_end e = at_end _ _ (omega (arith, to_end text refl (came_to_end _ _ e), came_to_end _ _ e))
