-- Encodable labels: decoding the encoding gives the label back, so no two share one, and an encoding is lower-case letters, digits and
-- hyphens, since the basic code points and the digits are.
-- Assumes nothing.
use mathlib.Core.Path.{◌≡◌, refl, ap}
use mathlib.Core.Bool.{Bool, true, ◌&&◌, false≢true, or-false}
use mathlib.Core.List.{List, [], ◌∷◌}
use mathlib.Core.Option.{some}
use Prim.Native.Nat.{ℕ, ◌≤◌, ◌<◌}
use native.Mathlib.Omega.{arith}
use lib.Dec.{leb}
use lib.ListN.{length, drop}
use borrow.Author.Tests.{lt-ltb, le-ltb, ne_eqb, eq-eqb}
use Rattle.lists.proofs.Laws.{both, or_left, outside, in_range, all_append, all_weaker}
use Rattle.lists.specs.Tests.{within, all_of, any_of}
use Rattle.punycode.specs.Decoding.{decode}
use Rattle.punycode.specs.Punycode.{alnum, ldh, wide, allowed, encodable, below, extended, delimiter, encode, ace}
use Rattle.punycode.proofs.Reading.{split}
use Rattle.punycode.proofs.RoundTrip.{extended_has, decode_encode}

-- ---- the code points of an encodable label

pub point_bounded : (c : ℕ) → allowed c ≡ true → c < 0x110000
unfolding allowed ldh alnum wide
point_bounded c h = split c 0x110000 (λ x. x)
    (λ g. absurd (false≢true (rw (
      outside 0x61 0x7A c (λ p q. omega arith),
      outside 0x30 0x39 c (λ p q. omega arith),
      ne_eqb c 45 (omega arith),
      outside 0x80 0x10FFFF c (λ p q. omega arith),
    ) at h)))

-- of a list whose entries are all below n, all is below n
module _ (f : ℕ → Bool) (n : ℕ) (small : (c : ℕ) → f c ≡ true → c < n) where
  pub all_below : (l : List ℕ) → all_of f l ≡ true → below n l ≡ l
  unfolding all_of below
  all_below [] h = refl
  all_below (c ∷ l) h =
      let e = both (f c) (all_of f l) h in
      rw (lt-ltb c n (small c e.0), all_below l e.1)

pub bounded : (l : List ℕ) → all_of allowed l ≡ true → below 0x110000 l ≡ l
bounded = all_below allowed 0x110000 point_bounded

point_basic : (c : ℕ) → c < 128 → allowed c ≡ true → ldh c ≡ true
unfolding allowed wide
point_basic c l h = rw (outside 0x80 0x10FFFF c (λ p q. omega arith), or-false) at h

basic_ldh : (l : List ℕ) → all_of allowed l ≡ true → all_of ldh (below 128 l) ≡ true
unfolding all_of below
basic_ldh [] h = refl
basic_ldh (c ∷ l) h =
    let e = both (allowed c) (all_of allowed l) h in
    split c 128
    (λ x. rw (lt-ltb c 128 x, point_basic c x e.0, basic_ldh l e.1))
    (λ x. rw (le-ltb c 128 x) (basic_ldh l e.1))

alnum_ldh : (c : ℕ) → alnum c ≡ true → ldh c ≡ true
unfolding ldh
alnum_ldh c h = or_left (alnum c) _ h

delimiter_ldh : (b : ℕ) → all_of ldh (delimiter b) ≡ true
unfolding all_of delimiter ldh alnum within
delimiter_ldh b = split 0 b (λ h. rw (ne_eqb b 0 (omega arith))) (λ h. rw (eq-eqb b 0 (omega arith)))

-- ---- the theorems

module _ (l : List ℕ) (h : encodable l ≡ true) where
  -- the parts of `encodable`
  pub encodable_parts : (length l ≤ 63) × (all_of allowed l ≡ true)
  unfolding encodable
  encodable_parts =
      let p = both (within 1 63 (length l)) (all_of allowed l && any_of (leb 0x80) l) h in
      ((in_range 1 63 (length l) p.0).1, (both (all_of allowed l) (any_of (leb 0x80) l) p.1).0)

  pub round_trip : decode (encode l) ≡ some l
  round_trip = decode_encode l encodable_parts.0 (bounded l encodable_parts.1)

  pub encode_ldh : all_of ldh (encode l) ≡ true
  unfolding encode
  encode_ldh =
      let few = encodable_parts.0 in
      let each = encodable_parts.1 in
      rw (all_append, all_append, basic_ldh l each, delimiter_ldh (length (below 128 l)))
      (all_weaker alnum ldh alnum_ldh (extended l) (extended_has l few (bounded l each)).clean)

  pub ace_ldh : all_of ldh (ace l) ≡ true
  unfolding ace all_of ldh alnum within
  ace_ldh = encode_ldh

-- the octets of an encoding are those of one label only
pub ace_injective : (l k : List ℕ) → encodable l ≡ true → encodable k ≡ true → ace l ≡ ace k → l ≡ k
unfolding ace
ace_injective l k a b e =
    let p = round_trip l a in
    let q = round_trip k b in
    let r : decode (encode l) ≡ decode (encode k) = ap (λ (x : List ℕ). decode (drop 4 x)) e in
    cc
