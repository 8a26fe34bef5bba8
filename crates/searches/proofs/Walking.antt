-- The walk of the search box keeps the last character back, since a mark may join it, and stops at the first code point that joins nothing
-- and is unfit. What a mark joins is fit and so is what comes of it; so an unfit character stays as it is, and where the walk stops is
-- the place of refusal 4.
-- Assumes nothing.
use mathlib.Core.Path.{◌≡◌, refl, sym, ap, ◌∙◌}
use mathlib.Core.Bool.{Bool, true, false, not, ◌||◌}
use mathlib.Core.List.{List, [], ◌∷◌}
use Prim.Native.Nat.{ℕ, suc, ◌+◌, ◌≤◌, ◌<◌}
use native.Mathlib.Numerals.{add-one}
use native.Mathlib.Omega.{arith}
use lib.Dec.{eqb}
use lib.ListN.{length, drop, get_or, drop_of_length-le}
use lib.Seq.{drop-cons}
use borrow.Author.Tests.{eqb-true, eqb-false, ne_eqb, eq-eqb, not-true}
use Rattle.std.specs.Prelude.{Option, Some, None, is_some, MatchOption}
use Rattle.lists.specs.Tests.{pick, within, all_of, any_of, index_of, elem}
use Rattle.lists.proofs.Laws.{by_test, clash, differs}
use Rattle.characters.specs.Characters.{alnum, hyphen, ascii_set, kinds, signs, signs_in, stretch, kind_among, kind_by, any_kind, kanji_with, kind_with}
use Rattle.characters.specs.Replace.{replace}
use Rattle.characters.specs.Compose.{voiced, repeats, half_voiced, composed, one_of}
use Rattle.characters.proofs.OneKind.{sign_is}
use Rattle.characters.proofs.Pairs as Pairs
use Rattle.normal.specs.Normal.{Placed, placed, replaced_from, compose, normal_placed, normal_form, places}
use Rattle.normal.proofs.Pending.{codes, begun, baseless}
use Rattle.rules.specs.Labels.{period}
use Rattle.rules.specs.Permits.{Permits, ja_char, label_char}
use Rattle.rules.specs.Rules.{unfit}
use Rattle.rules.specs.Editions.{edition_with, today_with}
use Rattle.searches.specs.Steps.{stops_at, stop_from}

-- what a mark joins is fit, and so is what comes of it; the mark is not
pub record Joins (P : Permits) : Type 0 where
  pub bases : (b m : ℕ) → (composed b m ≡ 0 → ⊥) → unfit P b ≡ false
  pub ones : (b m : ℕ) → (composed b m ≡ 0 → ⊥) → unfit P (composed b m) ≡ false
  pub marks : (b m : ℕ) → unfit P m ≡ false → composed b m ≡ 0

-- the two marks are unfit, whatever table of kanji is lent, in every edition
pub lent_marks : (table : List ℕ) (edition b m : ℕ) → unfit (edition_with table edition) m ≡ false → composed b m ≡ 0
unfolding edition_with ja_char label_char unfit period ascii_set alnum hyphen all_of any_of elem within kinds signs stretch kind_among kind_by any_kind kanji_with kind_with
lent_marks table edition b m e =
    let P = edition_with table edition in
    let voiced : unfit P 0x309B ≡ true = rw (sign_is edition 0x309B) in
    let half_voiced_one : unfit P 0x309C ≡ true = rw (sign_is edition 0x309C) in
    Pairs.unmarked b m (differs (λ c. not (unfit P c)) 0x309B (ap not voiced) m (ap not e)) (differs (λ c. not (unfit P c)) 0x309C (ap not half_voiced_one) m (ap not e))

-- by computed tests of the tables
module _ (table : List ℕ) where
  abbrev fit : ℕ → Bool
  fit c = not (unfit (today_with table) c)

  pub lent_joins : Joins (today_with table)
  unfolding edition_with ja_char label_char unfit period ascii_set alnum hyphen voiced repeats half_voiced all_of any_of elem within kinds signs signs_in stretch kind_among kind_by any_kind kanji_with kind_with
  lent_joins = record {
    bases = λ b m n. not-true (unfit (today_with table) b) (Pairs.of_base fit b m refl refl refl refl n);
    ones = λ b m n. not-true (unfit (today_with table) (composed b m)) (Pairs.of_one fit b m refl refl refl refl n);
    marks = lent_marks table 4;
  }

-- 0 stands before the first
pub zero_no_base : (x : ℕ) → composed 0 x ≡ 0
zero_no_base x = Pairs.low_no_base 0 (omega arith) x

-- the code holds what stands before, if anything does
unfoldable pub base : Option ℕ → ℕ
base None = 0
base (Some c) = c

one_is : (c : ℕ) → (base (one_of c) ≡ c) × (is_some (one_of c) ≡ not (eqb c 0))
unfolding base one_of
one_is c =
    by_test (λ b. eqb c 0 ≡ b → (base (pick b None (Some c)) ≡ c) × (is_some (pick b None (Some c)) ≡ not b)) (eqb c 0)
    (λ p q. (sym (eqb-true c 0 p), refl)) (λ p q. (refl, refl)) refl

-- so a mark joins that, or nothing
pub joins_last : (last one : Option ℕ) (x : ℕ) → MatchOption last (one ≡ None) (λ b. one ≡ one_of (composed b x))
    → (base one ≡ composed (base last) x) × (is_some one ≡ not (eqb (base one) 0))
unfolding base one_of
joins_last None one x e = rw e (sym (zero_no_base x), refl)
joins_last (Some b) one x e = let o = one_is (composed b x) in rw e (o.0, rw o.0 o.1)

module _ (P : Permits) where
  -- ---- a turn of the loop, which is at k, the i-th of t: x is what replaces the code point there

  module _ (t : List ℕ) (last k i : ℕ) where
    module _ {x : ℕ} (h : i < length t) (ex : x ≡ replace (get_or t i 0)) {b : Bool} (e : b ≡ unfit P x) where
      peel : {one : ℕ} → one ≡ composed last x → stop_from P last k (drop i t)
          ≡ pick (eqb one 0) (pick b k (stop_from P x (suc k) (drop (i + 1) t))) (stop_from P one (suc k) (drop (i + 1) t))
      unfolding stop_from
      peel eo = rw (eo, e, ex, add-one, drop-cons t i 0 h)

      -- what is fit is no mark
      pub walk_on : ((a m : ℕ) → unfit P m ≡ false → composed a m ≡ 0) → b ≡ false → {m : ℕ} → suc k ≡ m → stop_from P last k (drop i t) ≡ stop_from P x m (drop (i + 1) t)
      walk_on unmarked u s = peel refl ∙ rw (eq-eqb (composed last x) 0 (unmarked last x (sym e ∙ u)), u, ← s)

      module _ {one : ℕ} (eo : one ≡ composed last x) where
        pub walk_joins : (one ≡ 0 → ⊥) → {m : ℕ} → suc k ≡ m → stop_from P last k (drop i t) ≡ stop_from P one m (drop (i + 1) t)
        walk_joins n s = peel eo ∙ rw (ne_eqb one 0 n, ← s)

        pub walk_stops : b ≡ true → one ≡ 0 → stop_from P last k (drop i t) ≡ k
        walk_stops u z = peel eo ∙ rw (eq-eqb one 0 z, u)

    pub walk_ends : length t ≤ i → stop_from P last k (drop i t) ≡ k
    unfolding stop_from
    walk_ends h = rw (drop_of_length-le t h)

  -- the walk goes forward
  pub forward : (last i : ℕ) (cs : List ℕ) → i ≤ stop_from P last i cs
  unfolding stop_from
  forward last i [] = omega arith
  forward last i (c ∷ cs) =
      go (eqb (composed last (replace c)) 0) (unfit P (replace c)) (forward (replace c) (suc i) cs)
      (forward (composed last (replace c)) (suc i) cs)
    where
      go : (z b : Bool) → suc i ≤ stop_from P (replace c) (suc i) cs → suc i ≤ stop_from P (composed last (replace c)) (suc i) cs
          → i ≤ pick z (pick b i (stop_from P (replace c) (suc i) cs)) (stop_from P (composed last (replace c)) (suc i) cs)
      go true true g h = omega arith
      go true false g h = omega arith
      go false b g h = omega arith

  -- ---- the place of refusal 4, in a placed form

  -- where the first unfit character began, or n
  unfoldable stop_in : ℕ → List Placed → ℕ
  stop_in n [] = n
  stop_in n (p ∷ ps) = pick (unfit P p.code) p.began (stop_in n ps)

  abbrev found : ℕ → List Placed → ℕ
  found n ps = pick (any_of (unfit P) (codes ps)) (get_or (begun ps) (index_of (unfit P) (codes ps)) 0) n

  found_is : (n : ℕ) (ps : List Placed) → found n ps ≡ stop_in n ps
  unfolding any_of index_of stop_in
  found_is n [] = refl
  found_is n (p ∷ ps) = go (unfit P p.code) (found_is n ps)
    where
      go : (b : Bool) → found n ps ≡ stop_in n ps
          → pick (b || any_of (unfit P) (codes ps)) (get_or (p.began ∷ begun ps) (pick b 0 (suc (index_of (unfit P) (codes ps)))) 0) n
          ≡ pick b p.began (stop_in n ps)
      go true e = refl
      go false e = e

  module _ (J : Joins P) where
    unfit_no_base : (x : ℕ) → unfit P x ≡ true → (m : ℕ) → composed x m ≡ 0
    unfit_no_base x u m =
        by_test (λ b. eqb (composed x m) 0 ≡ b → composed x m ≡ 0) (eqb (composed x m) 0) (λ p e. eqb-true (composed x m) 0 e)
        (λ p e. clash u (J.bases x m (eqb-false (composed x m) 0 e))) refl

    -- x stands at i and joins nothing before it
    turn : (n x i : ℕ) (rest : List Placed) {w : ℕ} → (unfit P x ≡ false → stop_in n (compose (placed x i ∷ rest)) ≡ w)
        → stop_in n (compose (placed x i ∷ rest)) ≡ pick (unfit P x) i w
    unfolding stop_in
    turn n x i rest {w} on =
        by_test (λ b. stop_in n (compose (placed x i ∷ rest)) ≡ pick b i w) (unfit P x)
        (λ u. ap (stop_in n) (baseless (placed x i) rest (unfit_no_base x u)) ∙ rw u) on

    walked : (n last start i : ℕ) (cs : List ℕ) → n ≡ i + length cs → unfit P last ≡ false
        → stop_in n (compose (placed last start ∷ replaced_from i cs)) ≡ stop_from P last i cs
    unfolding stop_in compose replaced_from stop_from
    walked n last start i [] e f = rw f (omega arith)
    walked n last start i (c ∷ cs) e f =
        let x = replace c in
        let one = composed last x in
        let rest = replaced_from (suc i) cs in
        by_test
        (λ b. stop_in n (pick b (placed last start ∷ compose (placed x i ∷ rest)) (placed one start ∷ compose rest)) ≡ pick b (pick (unfit P x) i (stop_from P x (suc i) cs)) (stop_from P one (suc i) cs))
        (eqb one 0) (λ z. rw f (turn n x i rest (λ u. walked n x i (suc i) cs (omega arith) u)))
        (λ z.
        sym (ap (stop_in n) (baseless (placed one start) rest (Pairs.no_base last x)))
        ∙ walked n one start (suc i) cs (omega arith) (J.ones last x (eqb-false one 0 z)))

    from_first : (t : List ℕ) → stop_in (length t) (normal_placed t) ≡ stop_from P 0 0 t
    unfolding normal_placed replaced_from compose stop_in stop_from
    from_first [] = refl
    from_first (c ∷ cs) =
        turn (length (c ∷ cs)) (replace c) 0 (replaced_from 1 cs) (λ u. walked (length (c ∷ cs)) (replace c) 0 1 cs (omega arith) u)
        ∙ rw (zero_no_base (replace c))

    pub stops_is : (text : List ℕ) → stops_at P text ≡ stop_from P 0 0 text
    unfolding stops_at normal_form places
    stops_is text = found_is (length text) (normal_placed text) ∙ from_first text
