-- The coder takes every Japanese label of at most 15 characters that an edition lets a label hold: each of the ASCII set or from 3003 to 9FA0,
-- where there are only scalar values, and the encoding of such a label has at most 63 octets (punycode, proofs/Bound). So neither 13 nor 14
-- comes of a label to which 9 does not apply.
-- Assumes nothing.
use mathlib.Core.Path.{◌≡◌, refl, ap, ◌∙◌}
use mathlib.Core.Bool.{Bool, true, false, not, ◌&&◌, ◌||◌, or_comm}
use mathlib.Core.List.{List}
use Prim.Native.Nat.{ℕ, ◌≤◌}
use native.Mathlib.Omega.{arith}
use lib.Dec.{eqb, leb, ltb}
use lib.ListN.{length}
use borrow.Author.Tests.{le-leb, lt-ltb}
use Rattle.lists.specs.Tests.{within, all_of}
use Rattle.lists.proofs.Laws.{or_left, or_right, either, inside, outside, in_range, all_weaker, any_weaker, any_some}
use Rattle.characters.specs.Characters.{alnum, hyphen, ascii_set}
use Rattle.punycode.specs.Punycode.{ace, ldh, wide, allowed, encodable}
use Rattle.punycode.specs.Punycode as Puny
use Rattle.punycode.specs.Calls.{coder_number}
use Rattle.punycode.proofs.Bound.{near, encodable_short}
use Rattle.rules.specs.Permits.{Permits, InStretch, ja_char, label_char}
use Rattle.rules.specs.Rules.{is_japanese}
use Rattle.rules.proofs.Sound.{ascii_range}
use Rattle.ascii.specs.Ascii.{uncoded}

-- the coder's letters, digits and hyphen are the ASCII set
pub set_is : (c : ℕ) → ldh c ≡ ascii_set c
unfolding ascii_set alnum hyphen ldh Puny.alnum
set_is c = ap (λ (b : Bool). b || eqb c 0x2D) (or_comm (within 0x61 0x7A c) (within 0x30 0x39 c))

module _ (P : Permits) (stretch : InStretch P) where
  -- ---- a character

  module _ (c : ℕ) (e : label_char P c ≡ true) where
    char_near : near c ≡ true
    unfolding label_char near
    char_near = either (ja_char P c) _ e
        (λ p. or_right (ltb c 0x80) _ (stretch c p))
        (λ p. let h = ascii_range c p in or_left (ltb c 0x80) _ (lt-ltb c 0x80 (omega arith)))

    char_allowed : allowed c ≡ true
    unfolding label_char allowed wide
    char_allowed = either (ja_char P c) _ e
        (λ p.
        let h = in_range 0x3003 0x9FA0 c (stretch c p) in
        or_right (ldh c) _ (rw (inside 0x80 0x10FFFF c (omega arith) (omega arith), outside 0xD800 0xDFFF c (λ x y. omega arith))))
        (λ p. or_left (ldh c) _ (set_is c ∙ p))

  pub japanese_high : (c : ℕ) → ja_char P c ≡ true → leb 0x80 c ≡ true
  japanese_high c p = let h = in_range 0x3003 0x9FA0 c (stretch c p) in le-leb 0x80 c (omega arith)

  -- ---- a label

  module _ (l : List ℕ) (a : all_of (label_char P) l ≡ true) (j : is_japanese P l ≡ true) (few : length l ≤ 15) where
    label_encodable : encodable l ≡ true
    unfolding encodable is_japanese
    label_encodable =
        rw (inside 1 63 (length l) (any_some (ja_char P) l j) (omega arith), all_weaker (label_char P) allowed char_allowed l a)
        (any_weaker (ja_char P) (leb 0x80) japanese_high l j)

    -- the coder takes a Japanese label of at most 15 characters
    pub label_coded : coder_number l 63 ≡ 0
    unfolding coder_number
    label_coded =
        let size = encodable_short l label_encodable few (all_weaker (label_char P) near char_near l a) in
        rw (label_encodable, le-leb (length (ace l)) 63 size)

  -- so row 14 does not apply to such a label
  pub label_fine : (l : List ℕ) → all_of (label_char P) l ≡ true → (is_japanese P l ≡ true → length l ≤ 15) → not (uncoded P l) ≡ true
  unfolding uncoded
  label_fine l a k = go (is_japanese P l) refl
    where
      go : (j : Bool) → is_japanese P l ≡ j → not (is_japanese P l && not (eqb (coder_number l 63) 0)) ≡ true
      go false p = rw p
      go true p = rw (p, label_coded l a p (k p))
