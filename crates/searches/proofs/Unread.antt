-- What is not read plays no part: of two texts as long as each other, whose first code points, as many as are read of the one, are the same, the
-- same is answered. Where the walk stops it has seen no more than that; else the texts are one.
-- Assumes nothing.
use mathlib.Core.Path.{◌≡◌, refl, sym, ap, ◌∙◌}
use mathlib.Core.Bool.{Bool, true, false}
use mathlib.Core.List.{List, [], ◌∷◌}
use Prim.Native.Nat.{ℕ, zero, suc, ◌+◌, ◌<◌}
use native.Mathlib.Omega.{arith}
use lib.Dec.{eqb}
use lib.ListN.{length, take}
use lib.Seq.{take_all}
use Rattle.lists.specs.Tests.{pick}
use Rattle.characters.specs.Replace.{replace}
use Rattle.characters.specs.Compose.{composed}
use Rattle.characters.specs.KanjiBits.{kanji_bits}
use Rattle.rules.specs.Permits.{Permits}
use Rattle.rules.specs.Rules.{unfit}
use Rattle.rules.specs.Editions.{today}
use Rattle.rules.proofs.Editions.{today_laws, lending}
use Rattle.searches.specs.Searches.{searched}
use Rattle.searches.specs.Steps.{stops_at, stop_from}
use Rattle.searches.specs.declared.Searched.{Searched}
use Rattle.searches.proofs.Walking.{Joins, lent_joins, forward, stops_is}
use Rattle.searches.proofs.Searching.{said, unread_so, stopped, Ways, unread, stop, all, way}

module _ (P : Permits) where
  -- a walk that stops k code points on stops there too in what begins with the same k + 1
  pub same_stop : (last i k : ℕ) (t u : List ℕ) → k < length t → take (suc k) t ≡ take (suc k) u → stop_from P last i t ≡ i + k → stop_from P last i u ≡ i + k
  unfolding stop_from
  same_stop last i k [] u h e s = absurd (omega arith)
  same_stop last i k (c ∷ cs) [] h e s = absurd (omega (arith, ap length e))
  same_stop last i k (c ∷ cs) (d ∷ ds) h e s =
      let x : c ≡ d = cc in
      let r : take k cs ≡ take k ds = cc in
      let later = on (λ l j g q w. same_stop l (suc i) j cs ds g q w) in
      rw (← x) (go (eqb (composed last (replace c)) 0) (unfit P (replace c)) s (later (replace c) k h r) (later (composed last (replace c)) k h r))
    where
      -- k is not 0 where the walk goes on
      on : ((l j : ℕ) → j < length cs → take (suc j) cs ≡ take (suc j) ds → stop_from P l (suc i) cs ≡ suc i + j → stop_from P l (suc i) ds ≡ suc i + j) → (l k : ℕ)
          → k < suc (length cs) → take k cs ≡ take k ds → stop_from P l (suc i) cs ≡ i + k → stop_from P l (suc i) ds ≡ i + k
      on same l zero h r s = absurd (omega (arith, forward P l (suc i) cs))
      on same l (suc k) h r s = same l k (omega arith) r (s ∙ omega arith) ∙ omega arith

      go : (z b : Bool) → pick z (pick b i (stop_from P (replace c) (suc i) cs)) (stop_from P (composed last (replace c)) (suc i) cs) ≡ i + k
          → (stop_from P (replace c) (suc i) cs ≡ i + k → stop_from P (replace c) (suc i) ds ≡ i + k)
          → (stop_from P (composed last (replace c)) (suc i) cs ≡ i + k → stop_from P (composed last (replace c)) (suc i) ds ≡ i + k)
          → pick z (pick b i (stop_from P (replace c) (suc i) ds)) (stop_from P (composed last (replace c)) (suc i) ds) ≡ i + k
      go true true s f g = s
      go true false s f g = f s
      go false b s f g = g s

  module _ (J : Joins P) (there_is : P.known ≡ true) (t u : List ℕ) (long : length t ≡ length u) where
    stops_alike : stops_at P t < length t → take (stops_at P t + 1) t ≡ take (stops_at P t + 1) u → stops_at P u ≡ stops_at P t
    stops_alike h e =
        let k = stops_at P t in
        let n : k + 1 ≡ suc k = omega arith in
        stops_is P J u ∙ same_stop 0 0 k t u h (rw n at e) (sym (stops_is P J t) ∙ omega arith) ∙ omega arith

    pub unread_alike : take (searched P t).read t ≡ take (searched P t).read u → searched P u ≡ searched P t
    unread_alike e = by_way (way P t there_is) refl e
      where
        by_way : {r : Searched} → Ways P t there_is r → searched P t ≡ r → take r.read t ≡ take r.read u → searched P u ≡ r
        by_way (unread r) q e = sym (unread_so P u there_is (rw long at r))
        by_way (stop r h) q e =
            let s = stops_alike h e in
            sym (stopped P u there_is (rw long at r) refl (omega (arith, s))) ∙ ap (λ (k : ℕ). said false (k + 1)) s
        by_way (all r y) q e =
            let same : t ≡ u = sym (take_all (length t) t (omega arith)) ∙ e ∙ take_all (length t) u (omega arith) in
            ap (searched P) (sym same) ∙ q

pub unread_today : (t u : List ℕ) → length t ≡ length u → take (searched today t).read t ≡ take (searched today t).read u → searched today u ≡ searched today t
unread_today = unread_alike today (lending Joins 4 {table = kanji_bits} refl (lent_joins kanji_bits)) today_laws.there_is
