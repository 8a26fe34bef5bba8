-- What replaces a code point, by its class alone: every range of letters starts at 1 modulo 32, every range of digits at 0
-- modulo 16, and so the start of the range need not be known.
-- Assumes nothing.
use mathlib.Core.Path.{◌≡◌, refl, sym, ap, ◌∙◌}
use mathlib.Core.Bool.{Bool, true, false, ◌||◌}
use mathlib.Core.List.{List, map}
use mathlib.Core.Logic.{⊎_elim}
use Prim.Native.Nat.{ℕ, ◌+◌, ◌-◌, ◌%◌, ◌≤◌}
use native.Mathlib.Omega.{arith}
use lib.Dec.{eqb}
use lib.ListN.{get_or, get_or-map}
use borrow.Author.Tests.{eqb-true}
use Rattle.lists.specs.Tests.{within, all_of}
use Rattle.lists.proofs.Laws.{inside, in_range, outside, lt_or_le}
use Rattle.characters.specs.declared.Replacement.{Replacement}
use Rattle.characters.specs.declared.Replacement.TheVariants.{Letter, Digit, Hyphen, Separator, HalfKana, Mark, Other}
use Rattle.characters.specs.Characters.{alnum, ascii_set}
use Rattle.characters.specs.Characters as Characters
use Rattle.characters.specs.Replace.{Range, range, ranges, range_in, class_of, half_kana, is_half, replace_in, replace}
use Rattle.characters.proofs.Ranges.{settled, class_in, done, ◌also◌, by_range}

abbrev pub by_class : Replacement → ℕ → ℕ
by_class Letter c = 0x60 + c % 32
by_class Digit c = 0x30 + c % 16
by_class Hyphen c = 0x2D
by_class Separator c = 0x2E
by_class HalfKana c = get_or half_kana (c - 0xFF65) 0
by_class Mark c = c
by_class Other c = c

-- where the code points of a class lie
abbrev pub Lies : Replacement → ℕ → Type 0
Lies Letter c = (1 ≤ c % 32) × (c % 32 ≤ 26)
Lies Digit c = c % 16 ≤ 9
Lies Hyphen c = Unit {0}
Lies Separator c = Unit {0}
Lies HalfKana c = (0xFF65 ≤ c) × (c ≤ 0xFF9F)
Lies Mark c = Unit {0}
Lies Other c = Unit {0}

record Fits (c : ℕ) (r : Range) : Type 0 where
  pub told : replace_in r c ≡ by_class r.class c
  pub lies : Lies r.class c

module _ (c : ℕ) where
  letter : (a : ℕ) → a % 32 ≡ 1 → within a (a + 25) c ≡ true → Fits c (range a (a + 25) Letter 0x61)
  unfolding replace_in is_half
  letter a m w =
      let i = in_range a (a + 25) c w in
      record { told = omega arith; lies = (omega arith, omega arith) }

  digit : (a : ℕ) → a % 16 ≡ 0 → within a (a + 9) c ≡ true → Fits c (range a (a + 9) Digit 0x30)
  unfolding replace_in is_half
  digit a m w =
      let i = in_range a (a + 9) c w in
      record { told = omega arith; lies = omega arith }

  single : (k : Replacement) (s : ℕ) → is_half k ≡ false → s ≡ by_class k c → Lies k c → (a : ℕ) → within a a c ≡ true → Fits c (range a a k s)
  unfolding replace_in
  single k s n e l a w = let i = in_range a a c w in record { told = rw n (omega arith); lies = l }

  hyphen : (a : ℕ) → within a a c ≡ true → Fits c (range a a Hyphen 0x2D)
  unfolding is_half
  hyphen = single Hyphen 0x2D refl refl tt

  separator : (a : ℕ) → within a a c ≡ true → Fits c (range a a Separator 0x2E)
  unfolding is_half
  separator = single Separator 0x2E refl refl tt

  half_kana_lem : within 0xFF65 0xFF9F c ≡ true → Fits c (range 0xFF65 0xFF9F HalfKana 0x30FB)
  unfolding replace_in is_half
  half_kana_lem w = record { told = refl; lies = in_range 0xFF65 0xFF9F c w }

  mark : within 0x309B 0x309C c ≡ true → Fits c (range 0x309B 0x309C Mark 0x309B)
  unfolding replace_in is_half
  mark w = let i = in_range 0x309B 0x309C c w in record { told = omega arith; lies = tt }

  other : Fits c (range c c Other c)
  unfolding is_half
  other = single Other c refl refl tt c (inside c c c (omega arith) (omega arith))

  fits : Fits c (range_in ranges c)
  unfolding ranges
  fits =
      by_range (Fits c) c ranges
      (letter 0x41 refl also letter 0x61 refl also letter 0xFF21 refl also letter 0xFF41 refl also
      digit 0x30 refl also digit 0xFF10 refl also hyphen 0x2D also hyphen 0xFF0D also hyphen 0x2212 also
      separator 0x2E also separator 0xFF0E also separator 0x3002 also separator 0xFF61 also half_kana_lem also mark also done)
      other

  -- for a class that is known
  by_class_lem : (k : Replacement) → class_of c ≡ k → replace c ≡ by_class k c
  unfolding class_of replace
  by_class_lem k e = fits.told ∙ ap (λ (x : Replacement). by_class x c) e

  lies_in : (k : Replacement) → class_of c ≡ k → Lies k c
  unfolding class_of
  lies_in k e = rw e at fits.lies

-- for the class r that the code found, which is k
module _ (c : ℕ) {k r : Replacement} (e : r ≡ class_of c) (g : r ≡ k) where
  pub found : by_class k c ≡ replace c
  found = sym (by_class_lem c k (sym e ∙ g))

  pub found_lies : Lies k c
  found_lies = lies_in c k (sym e ∙ g)

-- ---- replacing twice is replacing once

half_kept : map replace half_kana ≡ half_kana
unfolding replace replace_in is_half ranges range_in within half_kana
half_kept = refl

half_entry : (k : ℕ) → replace (get_or half_kana k 0) ≡ get_or half_kana k 0
unfolding replace replace_in is_half ranges range_in within
half_entry k = sym (get_or-map replace half_kana k 0) ∙ ap (λ (l : List ℕ). get_or l k 0) half_kept

in_region : (lo hi c : ℕ) → settled lo hi ranges ≡ true → lo ≤ c → c ≤ hi → replace c ≡ by_class (class_of lo) c
in_region lo hi c t l h = by_class_lem c (class_of lo) (sym (class_in lo hi c t l h))

-- from 3003 to FF0C each stays, the marks too
pub stays : (c : ℕ) → 0x3003 ≤ c → c ≤ 0xFF0C → c ≡ replace c
unfolding within all_of ranges range_in class_of
stays c l h =
    ⊎_elim (λ a. sym (in_region 0x3003 0x309A c refl l (omega arith)))
    (λ a. ⊎_elim (λ b. sym (in_region 0x309B 0x309C c refl a (omega arith))) (λ b. sym (in_region 0x309D 0xFF0C c refl b h)) (lt_or_le c 0x309D))
    (lt_or_le c 0x309B)

-- and so does the ASCII set
pub ascii_stays : (c : ℕ) → ascii_set c ≡ true → c ≡ replace c
unfolding within all_of ranges range_in class_of ascii_set alnum Characters.hyphen
ascii_stays c e = go (within 0x30 0x39 c) refl (within 0x61 0x7A c) refl e
  where
    go : (d : Bool) → within 0x30 0x39 c ≡ d → (l : Bool) → within 0x61 0x7A c ≡ l → d || l || eqb c 0x2D ≡ true → c ≡ replace c
    go true p l q e = let i = in_range 0x30 0x39 c p in sym (in_region 0x30 0x39 c refl i.0 i.1 ∙ omega arith)
    go false p true q e = let i = in_range 0x61 0x7A c q in sym (in_region 0x61 0x7A c refl i.0 i.1 ∙ omega arith)
    go false p false q e = let i = eqb-true c 0x2D e in sym (in_region 0x2D 0x2D c refl (omega arith) (omega arith) ∙ sym i)

module _ (c : ℕ) where
  pub twice : replace (replace c) ≡ replace c
  unfolding replace replace_in is_half ranges range_in class_of within all_of
  twice = go (class_of c) refl
    where
      by : (v : ℕ) → replace c ≡ v → replace v ≡ v → replace (replace c) ≡ replace c
      by v e f = ap replace e ∙ f ∙ sym e

      go : (k : Replacement) → class_of c ≡ k → replace (replace c) ≡ replace c
      go Letter e =
          let i = lies_in c Letter e in
          by (0x60 + c % 32) (by_class_lem c Letter e) (in_region 0x61 0x7A (0x60 + c % 32) refl (omega arith) (omega arith) ∙ omega arith)
      go Digit e =
          let i = lies_in c Digit e in
          by (0x30 + c % 16) (by_class_lem c Digit e) (in_region 0x30 0x39 (0x30 + c % 16) refl (omega arith) (omega arith) ∙ omega arith)
      go Hyphen e = by 0x2D (by_class_lem c Hyphen e) refl
      go Separator e = by 0x2E (by_class_lem c Separator e) refl
      go HalfKana e = by (get_or half_kana (c - 0xFF65) 0) (by_class_lem c HalfKana e) (half_entry (c - 0xFF65))
      go Mark e = ap replace (by_class_lem c Mark e)
      go Other e = ap replace (by_class_lem c Other e)

  -- what is not replaced is no upper-case letter
  pub not_upper : replace c ≡ c → within 0x41 0x5A c ≡ false
  unfolding within all_of ranges range_in class_of
  not_upper e = outside 0x41 0x5A c (λ l h. let w = in_region 0x41 0x5A c refl l h in omega arith)
