-- What a base and a mark become, from the tables: each entry of a table passes a computed test, so each number in it does.
-- Assumes nothing.
use mathlib.Core.Path.{◌≡◌, refl, sym, ◌∙◌}
use mathlib.Core.Bool.{Bool, true, false, not, ◌&&◌, ◌||◌, or-true, or-false}
use mathlib.Core.List.{List, [], ◌∷◌, ◌++◌}
use mathlib.Core.Logic.{⊎_elim}
use Prim.Native.Nat.{ℕ, ◌+◌, ◌-◌, ◌≤◌, ◌<◌}
use native.Mathlib.Omega.{arith}
use lib.Dec.{eqb, leb, ltb}
use borrow.Author.Tests.{eqb-true, eqb-false, ne_eqb, leb-true, lt-ltb, le-ltb, not-true}
use Rattle.lists.specs.Tests.{pick, within, all_of, any_of, elem}
use Rattle.std.proofs.lemmas.Bool.Decides.{nat_tests}
use Rattle.lists.proofs.Laws.{any_append, both, neither, either, clash, outside, in_table, in_range, lt_or_le}
use Rattle.characters.specs.Replace.{ranges, range_in, is_half, replace_in, replace}
use Rattle.characters.specs.Compose.{voiced, repeats, half_voiced, either_kana, composed}

-- a number that fails a test which every entry passes is not in the table
absent : (f : ℕ → Bool) (c : ℕ) (l : List ℕ) → all_of f l ≡ true → f c ≡ false → elem c l ≡ false
absent f c l w n = go (elem c l) refl
  where
    go : (b : Bool) → elem c l ≡ b → elem c l ≡ false
    go true e = clash (in_table f c l w e) n
    go false e = e

-- ---- one table serves both kana

-- every entry is of the katakana row
abbrev pub katakana_row : List ℕ → Bool
katakana_row table = all_of (within 0x30A1 0x3100) table

module _ (table : List ℕ) (w : katakana_row table ≡ true) (b : ℕ) where
  outside_row : (c : ℕ) → (0x30A1 ≤ c → c ≤ 0x3100 → ⊥) → elem c table ≡ false
  outside_row c f = absent (within 0x30A1 0x3100) c table w (outside 0x30A1 0x3100 c f)

  either_row : elem (pick (ltb b 0x30A1) (b + 0x60) b) table ≡ either_kana table b
  unfolding either_kana
  either_row =
      ⊎_elim (λ h. rw (lt-ltb b 0x30A1 h, outside_row b (λ i j. omega arith)))
      (λ h. rw (le-ltb b 0x30A1 h, outside_row (b + 0x60) (λ i j. omega arith)) (sym (or-false (elem b table)))) (lt_or_le b 0x30A1)

  -- what the code finds: whether b, moved to the katakana row, is in the table
  module _ {r : Bool} (h : r ≡ elem (pick (ltb b 0x30A1) (b + 0x60) b) table) where
    pub found : {t : Bool} → r ≡ t → either_kana table b ≡ t
    found g = sym (h ∙ either_row) ∙ g

    pub found_low : r ≡ true → b ≤ 0x3100
    found_low g =
        ⊎_elim (λ l. omega arith)
        (λ l. (in_range 0x30A1 0x3100 b (in_table (within 0x30A1 0x3100) b table w (rw (le-ltb b 0x30A1 l) at (sym h ∙ g)))).1)
        (lt_or_le b 0x30A1)

-- the table of the code has the katakana repeat sign too, and so either kana has both
abbrev with_repeat : List ℕ
with_repeat = voiced ++ 0x30FD ∷ []

module _ (b : ℕ) where
  either_repeat : either_kana with_repeat b ≡ either_kana voiced b || elem b repeats
  unfolding either_kana repeats elem any_of
  either_repeat =
      let back : eqb (b + 0x60) 0x30FD ≡ eqb b 0x309D = grind (arith, nat_tests) in
      rw (any_append (eqb b) voiced (0x30FD ∷ []), any_append (eqb (b + 0x60)) voiced (0x30FD ∷ []), back)
      (regroup (any_of (eqb b) voiced) (any_of (eqb (b + 0x60)) voiced) (eqb b 0x309D) (eqb b 0x30FD))
    where
      regroup : (v w h k : Bool) → (v || (k || false)) || (w || (h || false)) ≡ (v || w) || (h || (k || false))
      regroup true w h k = refl
      regroup false true h k = or-true (k || false)
      regroup false false h true = sym (or-true h)
      regroup false false h false = refl

  pub is_voiced : elem (pick (ltb b 0x30A1) (b + 0x60) b) (voiced ++ 0x30FD ∷ []) ≡ either_kana voiced b || elem b repeats
  unfolding voiced all_of within
  is_voiced = either_row with_repeat refl b ∙ either_repeat

  pub voiced_low : elem (pick (ltb b 0x30A1) (b + 0x60) b) (voiced ++ 0x30FD ∷ []) ≡ true → b ≤ 0x3100
  unfolding voiced all_of within
  voiced_low e = found_low with_repeat refl b refl e

  pub is_half_voiced : elem (pick (ltb b 0x30A1) (b + 0x60) b) half_voiced ≡ either_kana half_voiced b
  unfolding half_voiced all_of within
  is_half_voiced = either_row half_voiced refl b

  pub half_voiced_low : elem (pick (ltb b 0x30A1) (b + 0x60) b) half_voiced ≡ true → b ≤ 0x3100
  unfolding half_voiced all_of within
  half_voiced_low e = found_low half_voiced refl b refl e

pub ruleset by_mark = (is_voiced, voiced_low, is_half_voiced, half_voiced_low, nat_tests)

-- ---- what is composed

-- a test that holds of every entry of the table, moved on by n, and of the same less 60 hex
abbrev moved : (ℕ → Bool) → ℕ → List ℕ → Bool
moved f n table = all_of (λ (k : ℕ). f (k + n) && f (k - 0x60 + n)) table

module _ (f : ℕ → Bool) where
  in_either : (n : ℕ) (table : List ℕ) (b : ℕ) → moved f n table ≡ true → either_kana table b ≡ true → f (b + n) ≡ true
  unfolding either_kana
  in_either n table b w e = go (elem b table) refl e
    where
      entry : (k : ℕ) → elem k table ≡ true → (f (k + n) ≡ true) × (f (k - 0x60 + n) ≡ true)
      entry k h = both (f (k + n)) (f (k - 0x60 + n)) (in_table (λ (k : ℕ). f (k + n) && f (k - 0x60 + n)) k table w h)

      go : (t : Bool) → elem b table ≡ t → t || elem (b + 0x60) table ≡ true → f (b + n) ≡ true
      go true p h = (entry b p).0
      go false p h =
          let back : b + 0x60 - 0x60 ≡ b = omega arith in
          rw back at (entry (b + 0x60) h).1

  -- a test that every pair's one character passes, by computation, and 0
  of_composed : (b m : ℕ) → f 0 ≡ true → f 0x30F4 ≡ true → moved f 1 voiced ≡ true → all_of (λ (k : ℕ). f (k + 1)) repeats ≡ true
      → moved f 2 half_voiced ≡ true → f (composed b m) ≡ true
  unfolding composed
  of_composed b m z u v r h = mark (eqb m 0x309B) (eqb m 0x309C)
    where
      voice : (x : Bool) → either_kana voiced b ≡ x → (y : Bool) → elem b repeats ≡ y → (t : Bool) → f (pick (x || y) (b + 1) (pick t 0x30F4 0)) ≡ true
      voice true p y q t = in_either 1 voiced b v p
      voice false p true q t = in_table (λ (k : ℕ). f (k + 1)) b repeats r q
      voice false p false q true = u
      voice false p false q false = z

      half : (x : Bool) → either_kana half_voiced b ≡ x → f (pick x (b + 2) 0) ≡ true
      half true p = in_either 2 half_voiced b h p
      half false p = z

      mark : (s t : Bool) → f (pick s (pick (either_kana voiced b || elem b repeats) (b + 1) (pick (eqb b 0x30A6) 0x30F4 0)) (pick t (pick (either_kana half_voiced b) (b + 2) 0) 0)) ≡ true
      mark true t = voice (either_kana voiced b) refl (elem b repeats) refl (eqb b 0x30A6)
      mark false true = half (either_kana half_voiced b) refl
      mark false false = z

-- a base of some pair
abbrev base : ℕ → Bool
base v = (either_kana voiced v || elem v repeats) || (eqb v 0x30A6 || either_kana half_voiced v)

abbrev calm : ℕ → Bool
calm v = (eqb (replace v) v && not (base v)) && (not (eqb v 0x309B) && not (eqb v 0x309C))

pub unmarked : (b m : ℕ) → eqb m 0x309B ≡ false → eqb m 0x309C ≡ false → composed b m ≡ 0
unfolding composed
unmarked b m p q = simp (p, q)

baseless : (b m : ℕ) → base b ≡ false → composed b m ≡ 0
unfolding composed
baseless b m n =
    let l = neither (either_kana voiced b || elem b repeats) (eqb b 0x30A6 || either_kana half_voiced b) n in
    let h = neither (eqb b 0x30A6) (either_kana half_voiced b) l.1 in
    simp (l.0, h.0, h.1) (same (eqb m 0x309B) (eqb m 0x309C))
  where
    same : (s t : Bool) → ◌≡◌ {A = ℕ} (pick s 0 (pick t 0 0)) 0
    same true t = refl
    same false true = refl
    same false false = refl

module _ (b m : ℕ) where
  is_calm : calm (composed b m) ≡ true
  unfolding voiced repeats half_voiced either_kana elem any_of all_of replace replace_in is_half ranges range_in within
  is_calm = of_composed calm b m refl refl refl refl refl

  parts : ((eqb (replace (composed b m)) (composed b m) && not (base (composed b m))) ≡ true) × ((not (eqb (composed b m) 0x309B) && not (eqb (composed b m) 0x309C)) ≡ true)
  parts =
      both (eqb (replace (composed b m)) (composed b m) && not (base (composed b m)))
      (not (eqb (composed b m) 0x309B) && not (eqb (composed b m) 0x309C)) is_calm

  kept_and_no_base : (eqb (replace (composed b m)) (composed b m) ≡ true) × (not (base (composed b m)) ≡ true)
  kept_and_no_base = both (eqb (replace (composed b m)) (composed b m)) (not (base (composed b m))) parts.0

  -- it is not replaced
  pub unreplaced : replace (composed b m) ≡ composed b m
  unreplaced = eqb-true (replace (composed b m)) (composed b m) kept_and_no_base.0

  -- it is no mark
  pub no_mark : (w : ℕ) → composed w (composed b m) ≡ 0
  no_mark w =
      let n = both (not (eqb (composed b m) 0x309B)) (not (eqb (composed b m) 0x309C)) parts.1 in
      unmarked w (composed b m) (not-true (eqb (composed b m) 0x309B) n.0) (not-true (eqb (composed b m) 0x309C) n.1)

  -- it is never a base again
  pub no_base : (x : ℕ) → composed (composed b m) x ≡ 0
  no_base x = baseless (composed b m) x (not-true (base (composed b m)) kept_and_no_base.1)

-- ---- the bases

-- a test that every base passes, by computation
pub of_base : (f : ℕ → Bool) (b m : ℕ) → moved f 0 voiced ≡ true → all_of f repeats ≡ true → f 0x30A6 ≡ true → moved f 0 half_voiced ≡ true
    → (composed b m ≡ 0 → ⊥) → f b ≡ true
of_base f b m v r u h n = go (either_kana voiced b) refl (elem b repeats) refl (eqb b 0x30A6) refl (either_kana half_voiced b) refl
  where
    back : f (b + 0) ≡ true → f b ≡ true
    back e = let z : b + 0 ≡ b = omega arith in rw z at e

    go : (x : Bool) → either_kana voiced b ≡ x → (y : Bool) → elem b repeats ≡ y → (s : Bool) → eqb b 0x30A6 ≡ s → (t : Bool) → either_kana half_voiced b ≡ t
        → f b ≡ true
    go true p y q s e t w = back (in_either f 0 voiced b v p)
    go false p true q s e t w = in_table f b repeats r q
    go false p false q true e t w = rw (eqb-true b 0x30A6 e) u
    go false p false q false e true w = back (in_either f 0 half_voiced b h w)
    go false p false q false e false w = absurd (n (baseless b m (rw (p, q, e, w))))

-- ---- what a base and a mark become

abbrev or_zero : (ℕ → Bool) → ℕ → Bool
or_zero f v = eqb v 0 || f v

-- a test that every such character passes, by computation
pub of_one : (f : ℕ → Bool) (b m : ℕ) → or_zero f 0x30F4 ≡ true → moved (or_zero f) 1 voiced ≡ true → all_of (λ (k : ℕ). or_zero f (k + 1)) repeats ≡ true
    → moved (or_zero f) 2 half_voiced ≡ true → (composed b m ≡ 0 → ⊥) → f (composed b m) ≡ true
of_one f b m u v r h n =
    either (eqb (composed b m) 0) (f (composed b m)) (of_composed (or_zero f) b m refl u v r h)
    (λ p. absurd (n (eqb-true (composed b m) 0 p))) (λ p. p)

-- it stands with the kana, from 3041 to 30FE
pub composed_kana : (b m : ℕ) → (composed b m ≡ 0 → ⊥) → within 0x3041 0x30FE (composed b m) ≡ true
unfolding voiced repeats half_voiced all_of within
composed_kana b m n = of_one (within 0x3041 0x30FE) b m refl refl refl refl n

-- ---- what stands before the kana is neither base nor mark

module _ (c : ℕ) (low : c < 0x3041) where
  pub low_no_mark : (b : ℕ) → composed b c ≡ 0
  low_no_mark b = unmarked b c (ne_eqb c 0x309B (λ e. omega arith)) (ne_eqb c 0x309C (λ e. omega arith))

  pub low_no_base : (m : ℕ) → composed c m ≡ 0
  unfolding voiced repeats half_voiced all_of
  low_no_base m = go (eqb (composed c m) 0) refl
    where
      go : (b : Bool) → eqb (composed c m) 0 ≡ b → composed c m ≡ 0
      go true p = eqb-true _ 0 p
      go false p = absurd (omega (arith, leb-true 0x3041 c (of_base (leb 0x3041) c m refl refl refl refl (eqb-false _ 0 p))))
