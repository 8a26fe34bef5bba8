-- Every Japanese character stands from 3003 to 9FA0: the kana and the signs of every edition do, and so do the kanji,
-- of any lent table too.
-- Assumes nothing.
use mathlib.Core.Path.{◌≡◌, refl}
use mathlib.Core.Bool.{Bool, true, false}
use mathlib.Core.List.{List}
use Prim.Native.Nat.{ℕ, ◌≤◌, ◌<◌}
use native.Mathlib.Omega.{arith}
use Rattle.lists.specs.Tests.{within, all_of}
use Rattle.lists.proofs.Laws.{both, refuted, clash, inside, in_range, in_table}
use Rattle.characters.specs.Characters.{signs, signs_in, stretch, kind_by, any_kind, kanji_with, kind_with}
use Rattle.characters.specs.Kinds.{Kind}
use Rattle.characters.specs.Kinds.{Hiragana, Katakana, Kanji, Sign, None}
use Rattle.characters.proofs.OneKind.{held, each_sign}

-- a range that lies within another
narrower : (a b c : ℕ) → 0x3003 ≤ a → b ≤ 0x9FA0 → within a b c ≡ true → within 0x3003 0x9FA0 c ≡ true
narrower a b c p q e = let h = in_range a b c e in inside 0x3003 0x9FA0 c (omega arith) (omega arith)

signs_within : (edition : ℕ) → all_of (within 0x3003 0x9FA0) (signs_in edition) ≡ true
unfolding all_of within signs
signs_within = each_sign (within 0x3003 0x9FA0) refl refl

module _ (isKanji : ℕ → Bool) (edition c : ℕ) (bound : isKanji c ≡ true → within 0x3003 0x9FA0 c ≡ true) where
  -- of each kind
  of_kind : (k : Kind) → stretch isKanji edition k c ≡ true → within 0x3003 0x9FA0 c ≡ true
  unfolding stretch
  of_kind Hiragana e = narrower 0x3041 0x3093 c (omega arith) (omega arith) e
  of_kind Katakana e = narrower 0x30A1 0x30F6 c (omega arith) (omega arith) e
  of_kind Kanji e = bound e
  of_kind Sign e = in_table (within 0x3003 0x9FA0) c (signs_in edition) (signs_within edition) e
  of_kind None e = clash e refl

  bounds : any_kind (kind_by isKanji edition c) ≡ true → within 0x3003 0x9FA0 c ≡ true
  bounds e = of_kind (kind_by isKanji edition c) (held isKanji edition c e)

module _ (table : List ℕ) (edition c : ℕ) where
  lent_bound : kanji_with table c ≡ true → within 0x3003 0x9FA0 c ≡ true
  unfolding kanji_with
  lent_bound e = narrower 0x4E00 0x9FA0 c (omega arith) (omega arith) (both (within 0x4E00 0x9FA0 c) _ e).0

  pub with_bounds : any_kind (kind_with table edition c) ≡ true → within 0x3003 0x9FA0 c ≡ true
  unfolding kind_with
  with_bounds = bounds (kanji_with table) edition c lent_bound

  pub with_below : c < 0x3003 → any_kind (kind_with table edition c) ≡ false
  with_below h = refuted (any_kind (kind_with table edition c)) (λ p. let r = in_range 0x3003 0x9FA0 c (with_bounds p) in omega arith)
