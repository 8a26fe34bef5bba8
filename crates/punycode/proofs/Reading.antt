-- The decoder reads a variable-length integer back: each digit's value times its weight adds up to what the coder took apart.
-- Assumes nothing.
use mathlib.Core.Path.{◌≡◌, refl, ap, ◌∙◌}
use mathlib.Core.Bool.{true}
use mathlib.Core.List.{List}
use Prim.Native.Nat.{ℕ, zero, suc, ◌+◌, ◌-◌, ◌*◌, ◌/◌, ◌%◌, ◌≤◌, ◌<◌}
use native.Mathlib.Decide.{dec_lt}
use native.Mathlib.Nat.{div-add-mod', div-le_self, mul-le-mul_right, mod-lt, not-suc-le-zero}
use native.Mathlib.Omega.{arith}
use borrow.Author.Tests.{lt-ltb, le-ltb, le-leb, lt-leb}
use Rattle.lists.proofs.Laws.{inside, outside}
use Rattle.lists.specs.Tests.{all_of}
use Rattle.punycode.specs.Decoding.{value, reading, place, octet, octets}
use Rattle.punycode.specs.Punycode.{threshold, digit, varint, alnum}

-- an order decided
pub split {ℓ} : {X : Type ℓ} (a b : ℕ) → (a < b → X) → (b ≤ a → X) → X
split a b f g = elim (dec_lt a b) [ yes h ↦ f h | no h ↦ g (omega arith) ]

-- ---- the threshold, from tmin to tmax

module _ (k bias : ℕ) where
  pub threshold_tmin : k ≤ bias → threshold k bias ≡ 1
  unfolding threshold
  threshold_tmin h = rw (le-leb k bias h)

  pub threshold_tmax : bias + 26 ≤ k → threshold k bias ≡ 26
  unfolding threshold
  threshold_tmax h = rw (lt-leb k bias (omega arith), le-leb (bias + 26) k h)

  pub threshold_between : bias < k → k < bias + 26 → threshold k bias ≡ k - bias
  unfolding threshold
  threshold_between h g = rw (lt-leb k bias h, lt-leb (bias + 26) k g)

  pub threshold_bounds : (1 ≤ threshold k bias) × (threshold k bias ≤ 26)
  threshold_bounds = split bias k
      (λ h. split k (bias + 26) (λ g. rw (threshold_between h g) (omega arith)) (λ g. rw (threshold_tmax g) (omega arith)))
      (λ h. rw (threshold_tmin h) (omega arith))

-- ---- one digit: a letter or a digit, with its value

module _ (d : ℕ) where
  pub digit_low : d < 26 → d + 0x61 ≡ digit d
  unfolding digit
  digit_low h = rw (lt-ltb d 26 h)

  pub digit_high : 26 ≤ d → d - 26 + 0x30 ≡ digit d
  unfolding digit
  digit_high h = rw (le-ltb d 26 h)

  value_digit : d < 36 → value (digit d) ≡ d
  unfolding value
  value_digit h = split d 26
      (λ l. rw (← digit_low l, inside 0x61 0x7A (d + 0x61) (omega arith) (omega arith)) (omega arith))
      (λ g. rw (← digit_high g, outside 0x61 0x7A (d - 26 + 0x30) (λ p q. omega arith), inside 0x30 0x39 (d - 26 + 0x30) (omega arith) (omega arith)) (omega arith))

  alnum_digit : d < 36 → alnum (digit d) ≡ true
  unfolding alnum
  alnum_digit h = split d 26
      (λ l. rw (← digit_low l, inside 0x61 0x7A (d + 0x61) (omega arith) (omega arith)))
      (λ g. rw (← digit_high g, outside 0x61 0x7A (d - 26 + 0x30) (λ p q. omega arith), inside 0x30 0x39 (d - 26 + 0x30) (omega arith) (omega arith)))

pub varint_alnum : (f bias k q : ℕ) → all_of alnum (varint f bias k q) ≡ true
unfolding all_of varint
varint_alnum zero bias k q = refl
varint_alnum (suc f) bias k q =
    let t = threshold k bias in
    let high = (threshold_bounds k bias).1 in
    split q t
    (λ l. rw (lt-ltb q t l, alnum_digit q (omega arith)))
    (λ g.
    rw (le-ltb q t g, alnum_digit (t + (q - t) % (36 - t)) (omega (arith, mod-lt (q - t) {m = 36 - t} (omega arith))))
    (varint_alnum f bias (k + 36) ((q - t) / (36 - t))))

-- ---- one integer

module _ (n bias : ℕ) (out : List ℕ) (oldi : ℕ) where
  octet_last : (i w k d : ℕ) → d < threshold k bias → i + d * w < 0x4400000
      → octet (digit d) (reading n bias out oldi i w k) ≡ place n out oldi (i + d * w)
  unfolding octet
  octet_last i w k d l fits =
      let h : d < 36 = omega (arith, (threshold_bounds k bias).1) in
      rw (value_digit d h, lt-ltb d 36 h, lt-ltb (i + d * w) 0x4400000 fits, lt-ltb d (threshold k bias) l)

  octet_more : (i w k d : ℕ) → threshold k bias ≤ d → d < 36 → i + d * w < 0x4400000
      → octet (digit d) (reading n bias out oldi i w k) ≡ reading n bias out oldi (i + d * w) (w * (36 - threshold k bias)) (k + 36)
  unfolding octet
  octet_more i w k d g h fits =
      rw (value_digit d h, lt-ltb d 36 h, lt-ltb (i + d * w) 0x4400000 fits, le-ltb d (threshold k bias) g)

  pub varint_read : (f k q i w : ℕ) → q < f → i + q * w < 0x4400000
      → octets (varint f bias k q) (reading n bias out oldi i w k) ≡ place n out oldi (i + q * w)
  unfolding octets varint
  varint_read zero k q i w lt fits = absurd (not-suc-le-zero lt)
  varint_read (suc f) k q i w lt fits = split q (threshold k bias)
      (λ l. rw (lt-ltb q (threshold k bias) l) (octet_last i w k q l fits))
      (λ g.
      let t = threshold k bias in
      let d = t + (q - t) % (36 - t) in
      let rest = (q - t) / (36 - t) in
      let low = (threshold_bounds k bias).0 in
      let high = (threshold_bounds k bias).1 in
      let whole : d + rest * (36 - t) ≡ q = omega (arith, div-add-mod' (q - t) (36 - t)) in
      let small : d < 36 = omega (arith, mod-lt (q - t) {m = 36 - t} (omega arith)) in
      let less : rest ≤ q - t = div-le_self (q - t) (36 - t) in
      let value : i + d * w + rest * (w * (36 - t)) ≡ i + q * w = omega (arith, ap (λ (x : ℕ). x * w) whole) in
      let fits' : i + d * w < 0x4400000 = omega (arith, mul-le-mul_right {m = d} {n = q} w (omega arith)) in
      rw (le-ltb q t g)
      (ap (octets (varint f bias (k + 36) rest)) (octet_more i w k d (omega arith) small fits')
      ∙ varint_read f (k + 36) rest (i + d * w) (w * (36 - t)) (omega arith) (rw value fits)
      ∙ ap (place n out oldi) value))
