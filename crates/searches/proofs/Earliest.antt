-- The stop is the first code point that brings refusal 4: no beginning before it gets 4, and the one that ends with it is refused as the whole
-- text is. A walk that stops at an index goes through every beginning up to there.
-- Assumes nothing.
use mathlib.Core.Path.{◌≡◌, refl, sym, ap, ◌∙◌}
use mathlib.Core.Bool.{Bool, true, false}
use mathlib.Core.List.{List, [], ◌∷◌}
use mathlib.Core.Logic.{⊎_elim}
use Prim.Native.Nat.{ℕ, zero, suc, ◌+◌, ◌≤◌, ◌<◌}
use native.Mathlib.Omega.{arith}
use lib.Dec.{eqb}
use lib.ListN.{length, take}
use lib.Seq.{length-take-le, take-take}
use Rattle.lists.specs.Tests.{pick, within, any_of}
use Rattle.lists.proofs.Laws.{by_test, in_range, inside, lt_or_le}
use Rattle.lists.proofs.Tables.{only, never_given}
use Rattle.characters.specs.Replace.{replace}
use Rattle.characters.specs.Compose.{composed}
use Rattle.characters.specs.KanjiBits.{kanji_bits}
use Rattle.normal.specs.Normal.{normal_form}
use Rattle.rules.specs.Permits.{Permits}
use Rattle.rules.specs.Rules.{unfit, label_rows, name_rows, front_rows, text_rows, verdict, rules, refused}
use Rattle.rules.specs.Editions.{today}
use Rattle.rules.specs.Verdicts.{Verdict}
use Rattle.rules.proofs.Editions.{today_laws, lending}
use Rattle.searches.specs.Searches.{searched}
use Rattle.searches.specs.Steps.{stops_at, stop_from}
use Rattle.searches.specs.declared.Searched.{Searched}
use Rattle.searches.proofs.Walking.{Joins, lent_joins, stops_is}
use Rattle.searches.proofs.Searching.{is_fit, refused_so, stopped_4, stopped}
use Rattle.searches.proofs.Unread.{same_stop}

-- 4 is given only where a character is unfit
not_4 : (P : Permits) (t : List ℕ) → any_of (unfit P) (normal_form t) ≡ false → (rules P t).number ≡ 4 → ⊥
unfolding rules verdict text_rows front_rows name_rows label_rows only
not_4 P t e = never_given 4 (λ z. omega arith) (text_rows P t) (e, tt)

module _ (P : Permits) where
  goes_through : (last i j k : ℕ) (t : List ℕ) → j ≤ length t → j ≤ k → stop_from P last i t ≡ i + k → stop_from P last i (take j t) ≡ i + j
  unfolding stop_from
  goes_through last i zero k t h g s = omega arith
  goes_through last i (suc j) zero t h g s = absurd (omega arith)
  goes_through last i (suc j) (suc k) [] h g s = absurd (omega arith)
  goes_through last i (suc j) (suc k) (c ∷ cs) h g s =
      let later : (l : ℕ) → stop_from P l (suc i) cs ≡ i + suc k → stop_from P l (suc i) (take j cs) ≡ i + suc j =
      λ l w. goes_through l (suc i) j k cs (omega arith) (omega arith) (w ∙ omega arith) ∙ omega arith in
      go (eqb (composed last (replace c)) 0) (unfit P (replace c)) s (later (replace c)) (later (composed last (replace c)))
    where
      go : (z b : Bool) → pick z (pick b i (stop_from P (replace c) (suc i) cs)) (stop_from P (composed last (replace c)) (suc i) cs) ≡ i + suc k
          → (stop_from P (replace c) (suc i) cs ≡ i + suc k → stop_from P (replace c) (suc i) (take j cs) ≡ i + suc j)
          → (stop_from P (composed last (replace c)) (suc i) cs ≡ i + suc k → stop_from P (composed last (replace c)) (suc i) (take j cs) ≡ i + suc j)
          → pick z (pick b i (stop_from P (replace c) (suc i) (take j cs))) (stop_from P (composed last (replace c)) (suc i) (take j cs)) ≡ i + suc j
      go true true s f e = absurd (omega arith)
      go true false s f e = f s
      go false b s f e = e s

  module _ (J : Joins P) (there_is : P.known ≡ true) (t : List ℕ) where
    -- what stands up to j, where the stop is no earlier, is fit
    fit_up_to : (j : ℕ) → j ≤ stops_at P t → j ≤ length t → any_of (unfit P) (normal_form (take j t)) ≡ false
    fit_up_to j h g =
        let s : stops_at P (take j t) ≡ j = stops_is P J (take j t) ∙ goes_through 0 0 j (stops_at P t) t g h (sym (stops_is P J t) ∙ omega arith) ∙ omega arith in
        is_fit P (take j t) (omega (arith, s, length-take-le j t g))

    module _ (four : (rules P t).number ≡ 4) where
      numbered : {v : Verdict} → rules P t ≡ v → v.number ≡ 4
      numbered e = sym (ap (λ (v : Verdict). v.number) e) ∙ four

      read : within 1 256 (length t) ≡ true
      read =
          by_test (λ b. within 1 256 (length t) ≡ b → within 1 256 (length t) ≡ true) (within 1 256 (length t)) (λ p q. q)
          (λ p q. absurd (⊎_elim (λ v. omega (arith, numbered v)) (λ v. omega (arith, numbered v)) (refused_so P t there_is q))) refl

      in_text : stops_at P t < length t
      in_text = ⊎_elim (λ h. h) (λ h. absurd (not_4 P t (is_fit P t h) four)) (lt_or_le (stops_at P t) (length t))

      count : (searched P t).read ≡ stops_at P t + 1
      count = sym (ap (λ (r : Searched). r.read) (stopped P t there_is read refl in_text))

      pub none_before : (j : ℕ) → j < (searched P t).read → (rules P (take j t)).number ≡ 4 → ⊥
      none_before j h = not_4 P (take j t) (fit_up_to j (omega (arith, count)) (omega (arith, count, in_text)))

      pub as_read : rules P (take (searched P t).read t) ≡ rules P t
      as_read = ap (λ (n : ℕ). rules P (take n t)) long ∙ alike ∙ sym (stopped_4 P t there_is read refl in_text)
        where
          k : ℕ
          k = stops_at P t

          long : (searched P t).read ≡ suc k
          long = omega (arith, count)

          size : length (take (suc k) t) ≡ suc k
          size = length-take-le (suc k) t (omega (arith, in_text))

          same : k ≡ stops_at P (take (suc k) t)
          same =
              sym
              (stops_is P J (take (suc k) t)
              ∙ same_stop P 0 0 k t (take (suc k) t) in_text (sym (take-take (suc k) (suc k) t (omega arith))) (sym (stops_is P J t) ∙ omega arith) ∙ omega arith)

          alike : rules P (take (suc k) t) ≡ refused 4 k
          alike =
              stopped_4 P (take (suc k) t) there_is
              (inside 1 256 (length (take (suc k) t)) (omega (arith, size)) (omega (arith, size, in_text, (in_range 1 256 (length t) read).1))) same
              (omega (arith, size))

-- at the edition in force
module _ (t : List ℕ) (four : (rules today t).number ≡ 4) where
  joins : Joins today
  joins = lending Joins 4 {table = kanji_bits} refl (lent_joins kanji_bits)

  pub none_before_today : (j : ℕ) → j < (searched today t).read → (rules today (take j t)).number ≡ 4 → ⊥
  none_before_today = none_before today joins today_laws.there_is t four

  pub as_read_today : rules today (take (searched today t).read t) ≡ rules today t
  as_read_today = as_read today joins today_laws.there_is t four
