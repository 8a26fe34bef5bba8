-- A code point has one kind: the kana stand apart from each other and from the kanji by their ranges, and the signs from all three by a
-- computed test of the ten, 4EDD with them, and of 3003. So the Japanese characters are those of any kind but none. No two kinds have one letter.
-- Assumes nothing.
use mathlib.Core.Path.{◌≡◌, refl, sym, ap, ◌∙◌}
use mathlib.Core.Bool.{Bool, true, false, not, ◌&&◌, ◌||◌, and-true, and-false, or-false, or_comm}
use mathlib.Core.List.{List, [], ◌∷◌}
use Prim.Native.Nat.{ℕ}
use native.Mathlib.Omega.{arith}
use lib.Dec.{eqb}
use borrow.Author.Tests.{not-true}
use Rattle.std.proofs.lemmas.Bool.Decides.{nat_tests}
use Rattle.lists.specs.Tests.{pick, within, all_of, any_of, elem}
use Rattle.lists.proofs.Laws.{both, by_test, neither, clash, in_range, outside, in_table}
use Rattle.characters.specs.Kanji.{kanji}
use Rattle.characters.specs.Characters.{kind_letter, kinds, signs, signs_in, stretch, kind_among, kind_by, kind, any_kind, japanese_by, kanji_with, kind_with}
use Rattle.std.specs.Prelude.{Option, None as nothing, Some, is_some}
use Rattle.characters.specs.declared.Kind as one
use Rattle.characters.specs.Kinds.{Kind, kind_told}
use Rattle.characters.specs.Kinds.{Hiragana, Katakana, Kanji, Sign, None}
use Rattle.characters.proofs.Lent.{kanji_within}

-- ---- whichever code points are kanji, in any edition

module _ (isKanji : ℕ → Bool) (edition c : ℕ) where
  among : (ks : List Kind) → all_of any_kind ks ≡ true → any_kind (kind_among isKanji edition ks c) ≡ any_of (λ (k : Kind). stretch isKanji edition k c) ks
  unfolding all_of any_of kind_among any_kind
  among [] e = refl
  among (k ∷ ks) e = let h = both (any_kind k) (all_of any_kind ks) e in go (stretch isKanji edition k c) h.0 (among ks h.1)
    where
      go : (b : Bool) → any_kind k ≡ true → any_kind (kind_among isKanji edition ks c) ≡ any_of (λ (k : Kind). stretch isKanji edition k c) ks
          → any_kind (pick b k (kind_among isKanji edition ks c)) ≡ b || any_of (λ (k : Kind). stretch isKanji edition k c) ks
      go true p q = p
      go false p q = q

  -- the Japanese characters are those of any kind but none
  pub any_but_none : any_kind (kind_by isKanji edition c) ≡ japanese_by isKanji edition c
  unfolding kinds kind_by japanese_by all_of any_kind
  any_but_none = among kinds refl

  held_among : (ks : List Kind) → any_kind (kind_among isKanji edition ks c) ≡ true → stretch isKanji edition (kind_among isKanji edition ks c) c ≡ true
  unfolding kind_among any_kind
  held_among [] e = clash e refl
  held_among (k ∷ ks) e = go (stretch isKanji edition k c) refl (held_among ks) e
    where
      go : (b : Bool) → stretch isKanji edition k c ≡ b → (any_kind (kind_among isKanji edition ks c) ≡ true → stretch isKanji edition (kind_among isKanji edition ks c) c ≡ true)
          → any_kind (pick b k (kind_among isKanji edition ks c)) ≡ true → stretch isKanji edition (pick b k (kind_among isKanji edition ks c)) c ≡ true
      go true p on e = p
      go false p on e = on e

  -- the stretch of its kind holds it
  pub held : any_kind (kind_by isKanji edition c) ≡ true → stretch isKanji edition (kind_by isKanji edition c) c ≡ true
  unfolding kind_by
  held = held_among kinds

  -- from 4E00 to 9FA0 there are no kana, so what is called a kanji there is one
  kanji_there : within 0x4E00 0x9FA0 c ≡ true → isKanji c ≡ true → kind_by isKanji edition c ≡ Kanji
  unfolding kinds stretch kind_among kind_by
  kanji_there w e =
      let r = in_range 0x4E00 0x9FA0 c w in
      rw (outside 0x3041 0x3093 c (λ p q. omega arith), outside 0x30A1 0x30F6 c (λ p q. omega arith), e)

-- a lent table has bits for these alone
pub lent_kanji : (table : List ℕ) (edition c : ℕ) → kanji_with table c ≡ true → Kanji ≡ kind_with table edition c
unfolding kind_with
lent_kanji table edition c e = sym (kanji_there (kanji_with table) edition c (unfold kanji_with in (both (within 0x4E00 0x9FA0 c) _ e).0) e)

-- the stretches are asked in turn
pub in_turn : (table : List ℕ) (edition c : ℕ)
    → kind_with table edition c
    ≡ pick (within 0x3041 0x3093 c) Hiragana (pick (within 0x30A1 0x30F6 c) Katakana (pick (kanji_with table c) Kanji (pick (elem c (signs_in edition)) Sign None)))
unfolding kind_with kind_by kinds kind_among stretch
in_turn table edition c = refl

pub ruleset by_stretch = (lent_kanji, in_turn, nat_tests)

-- ---- the signs of any edition

-- what holds of the ten and of 3003 holds of each
pub each_sign : (f : ℕ → Bool) → f 0x3003 ≡ true → all_of f signs ≡ true → (edition : ℕ) → all_of f (signs_in edition) ≡ true
unfolding signs_in all_of
each_sign f d e edition = by_test (λ b. all_of f (pick b (0x3003 ∷ signs) signs) ≡ true) (eqb edition 1) (λ q. rw (d, e)) (λ q. e)

-- a sign of an edition is one of the ten, or 3003 in edition 1
pub sign_is : (edition c : ℕ) → elem c (signs_in edition) ≡ elem c signs || (eqb c 0x3003 && eqb edition 1)
unfolding signs_in elem any_of
sign_is edition c =
    by_test (λ a. elem c (pick a (0x3003 ∷ signs) signs) ≡ elem c signs || (eqb c 0x3003 && a)) (eqb edition 1)
    (λ q. or_comm (eqb c 0x3003) (elem c signs) ∙ ap (λ (b : Bool). elem c signs || b) (sym (and-true (eqb c 0x3003))))
    (λ q. rw (and-false (eqb c 0x3003)) (sym (or-false (elem c signs))))

-- what is Japanese today is Japanese in every edition
pub still_japanese : (isKanji : ℕ → Bool) (edition c : ℕ) → japanese_by isKanji 4 c ≡ true → japanese_by isKanji edition c ≡ true
unfolding japanese_by kinds any_of stretch
still_japanese isKanji edition c =
    rw (sign_is 4 c, sign_is edition c)
    (go (within 0x3041 0x3093 c) (within 0x30A1 0x30F6 c) (isKanji c) (elem c signs) (eqb c 0x3003) (eqb edition 1))
  where
    go : (h k z s d a : Bool) → h || (k || (z || ((s || (d && false)) || false))) ≡ true → h || (k || (z || ((s || (d && a)) || false))) ≡ true
    go true k z s d a e = refl
    go false true z s d a e = refl
    go false false true s d a e = refl
    go false false false true d a e = refl
    go false false false false true a e = clash e refl
    go false false false false false a e = e

-- ---- the kanji of the list

abbrev listed : ℕ → Bool
listed x = elem x kanji

-- neither hiragana, katakana nor a kanji: no sign is
abbrev apart : ℕ → Bool
apart x = not (within 0x3041 0x3093 x || (within 0x30A1 0x30F6 x || listed x))

ten_apart : (apart 0x3003 ≡ true) × (all_of apart signs ≡ true)
unfolding all_of any_of elem within signs kanji
ten_apart = (refl, refl)

signs_apart : (edition : ℕ) → all_of apart (signs_in edition) ≡ true
signs_apart = each_sign apart ten_apart.0 ten_apart.1

module _ (edition c : ℕ) where
  -- the stretch that holds c is that of its kind
  pub one_kind : (k : Kind) → stretch listed edition k c ≡ true → kind edition c ≡ k
  unfolding kind kind_by kinds kind_among stretch
  one_kind Hiragana e = rw e
  one_kind Katakana e =
      let r = in_range 0x30A1 0x30F6 c e in
      rw (outside 0x3041 0x3093 c (λ p q. omega arith), e)
  one_kind Kanji e = kanji_there listed edition c (in_table (within 0x4E00 0x9FA0) c kanji kanji_within e) e
  one_kind Sign e =
      let n = neither (within 0x3041 0x3093 c) (within 0x30A1 0x30F6 c || listed c) (not-true _ (in_table apart c (signs_in edition) (signs_apart edition) e)) in
      let m = neither (within 0x30A1 0x30F6 c) (listed c) n.1 in
      rw (n.0, m.0, m.1, e)
  one_kind None e = clash e refl

  -- so no two stretches hold one code point
  pub one_stretch : (j k : Kind) → stretch listed edition j c ≡ true → stretch listed edition k c ≡ true → j ≡ k
  one_stretch j k p q = sym (one_kind j p) ∙ one_kind k q

-- ---- the letters

-- the kind that has a letter: no two have one
abbrev of_letter : ℕ → Kind
of_letter n = pick (eqb n 0x48) Hiragana (pick (eqb n 0x4B) Katakana (pick (eqb n 0x4A) Kanji (pick (eqb n 0x53) Sign None)))

letter_back : (k : Kind) → of_letter (kind_letter k) ≡ k
unfolding kind_letter
letter_back Hiragana = refl
letter_back Katakana = refl
letter_back Kanji = refl
letter_back Sign = refl
letter_back None = refl

pub letters_apart : (j k : Kind) → kind_letter j ≡ kind_letter k → j ≡ k
letters_apart j k e = sym (letter_back j) ∙ ap of_letter e ∙ letter_back k

-- ---- the kind that a call tells

-- a code point has a kind exactly where its kind is any but none
pub some_is : (k : Option one.Kind) → is_some k ≡ any_kind (kind_told k)
unfolding any_kind
some_is (Some one.TheVariants.Hiragana) = refl
some_is (Some one.TheVariants.Katakana) = refl
some_is (Some one.TheVariants.Kanji) = refl
some_is (Some one.TheVariants.Sign) = refl
some_is nothing = refl

-- what is told of a kind decides it
pub kind_once : (j k : Option one.Kind) → kind_told j ≡ kind_told k → j ≡ k
kind_once j k e = sym (again j) ∙ ap of_kind e ∙ again k
  where
    of_kind : Kind → Option one.Kind
    of_kind Hiragana = Some one.TheVariants.Hiragana
    of_kind Katakana = Some one.TheVariants.Katakana
    of_kind Kanji = Some one.TheVariants.Kanji
    of_kind Sign = Some one.TheVariants.Sign
    of_kind None = nothing

    again : (k : Option one.Kind) → of_kind (kind_told k) ≡ k
    again (Some one.TheVariants.Hiragana) = refl
    again (Some one.TheVariants.Katakana) = refl
    again (Some one.TheVariants.Kanji) = refl
    again (Some one.TheVariants.Sign) = refl
    again nothing = refl
