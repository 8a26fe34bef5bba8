-- The tables of rows by name: each has a record with a field for each row but 17, and a lemma to and from 'no other row applies'; with
-- 17 it is this and that the label does not pretend. A host asks 17 of each label, so its record has it too. No other lemmas take 'no row
-- applies' apart into rows. Every row refuses, so number 0 says that none applies.
-- Assumes nothing.
use mathlib.Core.Path.{◌≡◌, refl, sym, ap, ◌∙◌}
use mathlib.Core.Bool.{Bool, true, false, not, ◌&&◌, ◌||◌}
use mathlib.Core.List.{List, [], ◌∷◌, ◌++◌}
use Prim.Native.Nat.{ℕ, ◌-◌, ◌≤◌}
use native.Mathlib.Omega.{arith}
use lib.Dec.{eqb, ltb}
use lib.ListN.{length, get_or}
use borrow.Author.Tests.{eqb-false, ne_eqb, ltb-false, le-ltb, not-false}
use Rattle.lists.specs.Tests.{all_of, any_of, same}
use Rattle.lists.specs.Rows.{Row, row, first, without, Clear}
use Rattle.lists.specs.Rows.{Answer}
use Rattle.lists.proofs.Laws.{both}
use Rattle.lists.proofs.Tables.{clear_before, refusing, accepted_clear, split_clear, join_clear, past_table, only, part_clear, whole_clear, without_both, first_only, never_given, hit}
use Rattle.normal.specs.Normal.{normal_form}
use Rattle.rules.specs.Labels.{labels}
use Rattle.rules.specs.Permits.{Permits, middle, is_empty}
use Rattle.rules.specs.Rules.{unfit, hyphen_edge, short, long, of_name, pretends, label_rows, Meets, jp, last_rows, name_rows, front_rows, text_rows}
use Rattle.rules.specs.declared.Asks.{Asks}
use Rattle.rules.specs.Hosts.{of_host, each_rows, host_rows, host_text_rows}
use Rattle.rules.proofs.Views.{Every, none, also}

-- one table after another, without 17
split_but : (rs ss : List Row) → Clear (without 17 (rs ++ ss)) → Clear (without 17 rs) × Clear (without 17 ss)
split_but rs ss c = split_clear (without 17 rs) (without 17 ss) (rw (without_both 17 rs ss) at c)

join_but : (rs ss : List Row) → Clear (without 17 rs) → Clear (without 17 ss) → Clear (without 17 (rs ++ ss))
join_but rs ss c d = rw (without_both 17 rs ss) (join_clear (without 17 rs) (without 17 ss) c d)

-- ---- 7 to 10 and 17, of a label

module _ (P : Permits) (A : Asks) (l : List ℕ) (at : ℕ) where
  pub clear_meets : Clear (without 17 (label_rows P A l at)) → Meets P A.least l
  unfolding label_rows without
  clear_meets c = record { edge = c.0; enough = c.1.0; few = c.1.1.0; dotted = c.1.1.1.0 }

  pub meets_clear : Meets P A.least l → Clear (without 17 (label_rows P A l at))
  unfolding label_rows without
  meets_clear m = (m.edge, (m.enough, (m.few, (m.dotted, tt))))

  pub clear_label : Clear (label_rows P A l at) → Meets P A.least l × (pretends P A l ≡ false)
  unfolding label_rows only
  clear_label c = let k = part_clear 17 (label_rows P A l at) c in (clear_meets k.0, k.1.0)

  pub label_clear : Meets P A.least l → pretends P A l ≡ false → Clear (label_rows P A l at)
  unfolding label_rows only
  label_clear m h = whole_clear 17 (label_rows P A l at) (meets_clear m) (h, tt)

  -- 17 is given where none of 7 to 10 applies
  pub label_17 : Meets P A.least l → pretends P A l ≡ true → first (label_rows P A l at) ≡ record { number = 17; place = at }
  unfolding label_rows only
  label_17 m e = first_only 17 (label_rows P A l at) (meets_clear m) ∙ hit 17 _ at _ e

  -- 8 is not given where the label is not too short
  pub label_not_8 : short P A.least l ≡ false → (first (label_rows P A l at)).number ≡ 8 → ⊥
  unfolding label_rows only
  label_not_8 e = never_given 8 (λ z. omega arith) (label_rows P A l at) (e, tt)

  pub label_cleared : (first (label_rows P A l at)).number ≡ 0 → Clear (label_rows P A l at)
  unfolding label_rows refusing all_of
  label_cleared e = accepted_clear (label_rows P A l at) refl e

-- ---- 2 to 4, of a text

pub record FrontPassed (P : Permits) (text : List ℕ) : Type 0 where
  pub some : 1 ≤ length text
  pub few : length text ≤ 256
  pub fit : any_of (unfit P) (normal_form text) ≡ false

-- ---- 5 to 12, of the labels of a form

pub record Passed (P : Permits) (ls : List (List ℕ)) : Type 0 where
  pub count : eqb (length ls) 2 || (P.three && eqb (length ls) 3) ≡ true
  pub filled : any_of is_empty ls ≡ false
  pub left : Meets P 3 (get_or ls 0 [])
  pub last : same (get_or ls (length ls - 1) []) jp ≡ true
  pub mid : eqb (length ls) 3 && not (middle P (get_or ls 1 [])) ≡ false

-- 17: the leftmost of these labels does not pretend
abbrev pub Honest : Permits → List (List ℕ) → Type 0
Honest P ls = pretends P of_name (get_or ls 0 []) ≡ false

module _ (P : Permits) (ls : List (List ℕ)) where
  clear_passed : Clear (without 17 (name_rows P ls)) → Passed P ls
  unfolding name_rows without
  clear_passed c =
      let l = get_or ls 0 [] in
      let k = split_but (label_rows P of_name l 0) (last_rows P ls) c.1.1 in
      record {
        count = not-false _ c.0;
        filled = c.1.0;
        left = clear_meets P of_name l 0 k.0;
        last = not-false _ k.1.0;
        mid = k.1.1.0;
      }

  passed_clear : Passed P ls → Clear (without 17 (name_rows P ls))
  unfolding name_rows without
  passed_clear N =
      let l = get_or ls 0 [] in (
        ap not N.count,
        (N.filled, join_but (label_rows P of_name l 0) (last_rows P ls) (meets_clear P of_name l 0 N.left) (ap not N.last, (N.mid, tt))),
      )

  -- where 17 is given none of 5 to 9 applies
  pub past_9 : (first (name_rows P ls)).number ≡ 17
      → (eqb (length ls) 2 || (P.three && eqb (length ls) 3) ≡ true) × (any_of is_empty ls ≡ false) × (hyphen_edge (get_or ls 0 []) ≡ false)
      × (short P 3 (get_or ls 0 []) ≡ false) × (long P (get_or ls 0 []) ≡ false)
  unfolding name_rows label_rows all_of
  past_9 e =
      let c = past_table 17 (row 5 _ _ ∷ row 6 _ _ ∷ row 7 _ _ ∷ row 8 _ _ ∷ row 9 _ _ ∷ []) _ refl e in
      (not-false _ c.0, c.1.0, c.1.1.0, c.1.1.1.0, c.1.1.1.1.0)

-- ---- 5 to 10 and 17, of the labels of a host

-- 7 to 10 and 17, of each
abbrev pub Kept : Permits → List ℕ → Type 0
Kept P l = Meets P 1 l × (pretends P of_host l ≡ false)

pub record HostPassed (P : Permits) (ls : List (List ℕ)) : Type 0 where
  pub count : 3 ≤ length ls
  pub filled : any_of is_empty ls ≡ false
  pub each : Every (Kept P) ls

module _ (P : Permits) where
  clear_each : (i : ℕ) (ls : List (List ℕ)) → Clear (each_rows P i ls) → Every (Kept P) ls
  unfolding each_rows
  clear_each i [] c = none
  clear_each i (l ∷ ls) c =
      let k = split_clear (label_rows P of_host l i) _ c in
      also (clear_label P of_host l i k.0) (clear_each _ ls k.1)

  each_clear : (i : ℕ) {ls : List (List ℕ)} → Every (Kept P) ls → Clear (each_rows P i ls)
  unfolding each_rows
  each_clear i none = tt
  each_clear i (also {x = l} k ks) = join_clear (label_rows P of_host l i) _ (label_clear P of_host l i k.0 k.1) (each_clear _ ks)

  pub clear_kept : (ls : List (List ℕ)) → Clear (host_rows P ls) → HostPassed P ls
  unfolding host_rows
  clear_kept ls c = record { count = ltb-false (length ls) 3 c.0; filled = c.1.0; each = clear_each 0 ls c.1.1 }

  pub kept_clear : (ls : List (List ℕ)) → HostPassed P ls → Clear (host_rows P ls)
  unfolding host_rows
  kept_clear ls H = (le-ltb (length ls) 3 H.count, (H.filled, each_clear 0 H.each))

  -- what passes 7 to 10 and 17 passes the number of every label's row
  pub each_numbers : (f : ℕ → Bool) → all_of f (7 ∷ 8 ∷ 9 ∷ 17 ∷ 10 ∷ []) ≡ true → (i : ℕ) (ls : List (List ℕ))
      → all_of (λ (r : Row). f r.number) (each_rows P i ls) ≡ true
  unfolding each_rows label_rows all_of
  each_numbers f w i [] = refl
  each_numbers f w i (l ∷ ls) =
      let a = both (f 7) _ w in
      let b = both (f 8) _ a.1 in
      let c = both (f 9) _ b.1 in
      let d = both (f 17) _ c.1 in
      rw (a.0, b.0, c.0, d.0, (both (f 10) true d.1).0) (each_numbers f w _ ls)

  each_refuses : (ls : List (List ℕ)) → refusing (each_rows P 0 ls) ≡ true
  unfolding refusing all_of
  each_refuses ls = each_numbers (λ n. ltb 0 n) refl 0 ls

  pub kept_cleared : (ls : List (List ℕ)) → (first (host_rows P ls)).number ≡ 0 → Clear (host_rows P ls)
  unfolding host_rows refusing all_of
  kept_cleared ls e = accepted_clear (host_rows P ls) (each_refuses ls) e

module _ (P : Permits) (text : List ℕ) where
  pub clear_front : Clear (front_rows P text) → FrontPassed P text
  unfolding front_rows
  clear_front c =
      let n = eqb-false (length text) 0 c.0 in
      record { some = omega arith; few = ltb-false 256 (length text) c.1.0; fit = c.1.1.0 }

  pub front_clear : FrontPassed P text → Clear (front_rows P text)
  unfolding front_rows
  front_clear F = (ne_eqb (length text) 0 (λ e. omega (arith, F.some)), (le-ltb 256 (length text) F.few, (F.fit, tt)))

  pub front_cleared : (first (front_rows P text)).number ≡ 0 → Clear (front_rows P text)
  unfolding front_rows refusing all_of
  front_cleared e = accepted_clear (front_rows P text) refl e

  -- 17 is not among them
  front_but : without 17 (front_rows P text) ≡ front_rows P text
  unfolding front_rows without
  front_but = refl

  -- ---- 25, 2 to 12 and 17, of a text

  abbrev ls : List (List ℕ)
  ls = labels (normal_form text)

  pub clear_but : Clear (without 17 (text_rows P text)) → FrontPassed P text × Passed P ls
  unfolding text_rows without
  clear_but c =
      let k = split_but (front_rows P text) (name_rows P ls) c.1 in
      (clear_front (rw front_but at k.0), clear_passed P ls k.1)

  pub but_clear : P.known ≡ true → FrontPassed P text → Passed P ls → Clear (without 17 (text_rows P text))
  unfolding text_rows without
  but_clear k F N = (ap not k, join_but (front_rows P text) (name_rows P ls) (rw front_but (front_clear F)) (passed_clear P ls N))

  pub clear_text : Clear (text_rows P text) → FrontPassed P text × Passed P ls × Honest P ls
  unfolding text_rows front_rows name_rows label_rows only
  clear_text c =
      let k = part_clear 17 (text_rows P text) c in
      let b = clear_but k.0 in
      (b.0, b.1, k.1.0)

  pub text_clear : P.known ≡ true → FrontPassed P text → Passed P ls → Honest P ls → Clear (text_rows P text)
  unfolding text_rows front_rows name_rows label_rows only
  text_clear k F N h = whole_clear 17 (text_rows P text) (but_clear k F N) (h, tt)

  -- there is such an edition
  pub clear_known : Clear (text_rows P text) → P.known ≡ true
  unfolding text_rows
  clear_known c = not-false P.known c.0

  pub text_cleared : (first (text_rows P text)).number ≡ 0 → Clear (text_rows P text)
  unfolding text_rows front_rows name_rows label_rows refusing all_of
  text_cleared e = accepted_clear (text_rows P text) refl e

  pub but_cleared : (first (without 17 (text_rows P text))).number ≡ 0 → Clear (without 17 (text_rows P text))
  unfolding text_rows front_rows name_rows label_rows without refusing all_of
  but_cleared e = accepted_clear (without 17 (text_rows P text)) refl e

  -- ---- 2 to 10 and 17, of a host

  pub clear_host : Clear (host_text_rows P text) → FrontPassed P text × HostPassed P ls
  unfolding host_text_rows
  clear_host c = let k = split_clear (front_rows P text) (host_rows P ls) c in (clear_front k.0, clear_kept P ls k.1)

  pub host_clear : FrontPassed P text → HostPassed P ls → Clear (host_text_rows P text)
  unfolding host_text_rows
  host_clear F H = join_clear (front_rows P text) (host_rows P ls) (front_clear F) (kept_clear P ls H)

  pub host_refuses : refusing (host_text_rows P text) ≡ true
  unfolding host_text_rows front_rows host_rows refusing all_of
  host_refuses = each_refuses P ls

  -- where 8 is given a label gives it, and none is empty
  pub past_6 : (first (host_text_rows P text)).number ≡ 8 → (any_of is_empty ls ≡ false) × ((first (each_rows P 0 ls)).number ≡ 8)
  unfolding host_text_rows front_rows host_rows all_of
  past_6 e =
      let before : List Row = row 2 _ _ ∷ row 3 _ _ ∷ row 4 _ _ ∷ row 5 _ _ ∷ row 6 (any_of is_empty ls) _ ∷ [] in
      let c = past_table 8 before (each_rows P 0 ls) refl e in
      (c.1.1.1.1.0, sym (ap (λ (a : Answer). a.number) (clear_before before (each_rows P 0 ls) c)) ∙ e)
