-- The separators are what a period replaces: each range but theirs starts elsewhere, and what no range holds stays.
-- Assumes nothing.
use mathlib.Core.Path.{◌≡◌, refl, sym, ◌∙◌}
use mathlib.Core.Bool.{true, false, not}
use Prim.Native.Nat.{ℕ, ◌-◌, ◌<◌}
use native.Mathlib.Omega.{arith}
use lib.Dec.{eqb}
use borrow.Author.Tests.{eqb-true, eq-eqb, not-true}
use Rattle.lists.specs.Tests.{within, all_of, any_of, elem}
use Rattle.lists.proofs.Laws.{by_test, clash, in_range, in_table, entry_of}
use Rattle.characters.specs.Characters.{separators, separator}
use Rattle.characters.specs.Replace.{Range, range, ranges, range_in, half_kana, is_half, replace_in, replace}
use Rattle.characters.specs.declared.Replacement.{Replacement}
use Rattle.characters.specs.declared.Replacement.TheVariants.{Letter, Digit, Hyphen, Separator, HalfKana, Mark, Other}
use Rattle.characters.proofs.Ranges.{done, ◌also◌, by_range}

module _ (c : ℕ) where
  abbrev Told : Range → Type 0
  Told r = replace_in r c ≡ 0x2E → separator c ≡ true

  -- a range that starts past the period
  past : (a b : ℕ) (k : Replacement) (s : ℕ) → is_half k ≡ false → 0x2E < s → within a b c ≡ true → Told (range a b k s)
  unfolding replace_in
  past a b k s n h w e = absurd (omega (arith, simp n at e))

  hyphen : (a : ℕ) → within a a c ≡ true → Told (range a a Hyphen 0x2D)
  unfolding replace_in is_half
  hyphen a w e = let i = in_range a a c w in absurd (omega arith)

  separates : (a : ℕ) → separator a ≡ true → within a a c ≡ true → Told (range a a Separator 0x2E)
  separates a s w e =
      let i = in_range a a c w in
      let here : c ≡ a = omega arith in
      rw here s

  half_kana_lem : within 0xFF65 0xFF9F c ≡ true → Told (range 0xFF65 0xFF9F HalfKana 0x30FB)
  unfolding replace_in is_half half_kana all_of
  half_kana_lem w e =
      clash (eq-eqb _ 0x2E e)
      (not-true _ (entry_of (λ (x : ℕ). not (eqb x 0x2E)) 0 refl half_kana (c - 0xFF65) refl))

  other : Told (range c c Other c)
  unfolding replace_in is_half separator separators elem any_of
  other e = let here : c ≡ 0x2E = omega arith in rw here

  from_period : replace c ≡ 0x2E → separator c ≡ true
  unfolding replace ranges is_half separator separators elem any_of
  from_period =
      by_range Told c ranges
      (past 0x41 0x5A Letter 0x61 refl (omega arith) also past 0x61 0x7A Letter 0x61 refl (omega arith) also
      past 0xFF21 0xFF3A Letter 0x61 refl (omega arith) also past 0xFF41 0xFF5A Letter 0x61 refl (omega arith) also
      past 0x30 0x39 Digit 0x30 refl (omega arith) also past 0xFF10 0xFF19 Digit 0x30 refl (omega arith) also
      hyphen 0x2D also hyphen 0xFF0D also hyphen 0x2212 also
      separates 0x2E refl also separates 0xFF0E refl also separates 0x3002 refl also separates 0xFF61 refl also
      half_kana_lem also past 0x309B 0x309C Mark 0x309B refl (omega arith) also done)
      other

  to_period : separator c ≡ true → eqb (replace c) 0x2E ≡ true
  unfolding replace replace_in is_half ranges range_in within separator separators all_of
  to_period = in_table (λ (x : ℕ). eqb (replace x) 0x2E) c separators refl

  pub separator_is : separator c ≡ eqb (replace c) 0x2E
  separator_is =
      by_test (λ b. separator c ≡ b → separator c ≡ eqb (replace c) 0x2E) (separator c) (λ p q. p ∙ sym (to_period p))
      (λ p q. p ∙ sym (not_period p)) refl
    where
      not_period : separator c ≡ false → eqb (replace c) 0x2E ≡ false
      not_period p =
          by_test (λ b. eqb (replace c) 0x2E ≡ b → eqb (replace c) 0x2E ≡ false) (eqb (replace c) 0x2E)
          (λ t q. clash (from_period (eqb-true _ 0x2E t)) p) (λ t q. t) refl
