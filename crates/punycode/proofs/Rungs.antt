-- A label is encodable by its code points, and an octet is put in lower case as the library does it.
-- Assumes nothing.
use mathlib.Core.Path.{◌≡◌, refl}
use mathlib.Core.Bool.{true, false, and-false}
use mathlib.Core.List.{List, [], ◌∷◌, map}
use Prim.Native.Nat.{ℕ, ◌≤◌, ◌<◌}
use native.Mathlib.Omega.{arith}
use lib.Dec.{leb}
use lib.ListN.{length}
use borrow.Author.Tests.{lt-ltb, le-ltb, le-leb, lt-leb}
use Rattle.std.specs.Char.{to_ascii_lowercase}
use Rattle.lists.proofs.Laws.{inside, outside}
use Rattle.lists.specs.Tests.{all_of, any_of}
use Rattle.punycode.specs.Calls.{lower}
use Rattle.punycode.specs.Punycode.{below, allowed, encodable}
use Rattle.punycode.proofs.Insertion.{length_below}
use Rattle.punycode.proofs.Reading.{split}

-- ---- lower case

pub lower_other : (c : ℕ) → (65 ≤ c → c ≤ 90 → ⊥) → c ≡ lower c
unfolding lower
lower_other c f = rw (outside 65 90 c f)

lower_is : (c : ℕ) → to_ascii_lowercase c ≡ lower c
unfolding lower
lower_is c = split c 65
    (λ h. rw (lt-ltb c 65 h, outside 65 90 c (λ p q. omega arith)))
    (λ h. split c 91
    (λ g. rw (le-ltb c 65 h, lt-ltb c 91 g, inside 65 90 c h (omega arith)))
    (λ g. rw (le-ltb c 65 h, le-ltb c 91 g, outside 65 90 c (λ p q. omega arith))))

pub lowered : (octets : List ℕ) → map to_ascii_lowercase octets ≡ map lower octets
lowered [] = refl
lowered (c ∷ octets) = rw (lower_is c, lowered octets)

-- ---- a whole label

no_high : (l : List ℕ) → length l ≤ length (below 0x80 l) → any_of (leb 0x80) l ≡ false
unfolding any_of below
no_high [] h = refl
no_high (c ∷ l) h = split c 0x80
    (λ x. rw (lt-leb 0x80 c x) (no_high l (omega (arith, rw (lt-ltb c 0x80 x) at h))))
    (λ x. absurd (omega (arith, rw (le-ltb c 0x80 x) at h, length_below 0x80 l)))

any_high : (l : List ℕ) → length (below 0x80 l) < length l → any_of (leb 0x80) l ≡ true
unfolding any_of below
any_high [] h = absurd (omega arith)
any_high (c ∷ l) h = split c 0x80
    (λ x. rw (lt-leb 0x80 c x) (any_high l (omega (arith, rw (lt-ltb c 0x80 x) at h))))
    (λ x. rw (le-leb 0x80 c x))

module _ (l : List ℕ) where
  pub encodable_size : (1 ≤ length l → length l ≤ 63 → ⊥) → encodable l ≡ false
  unfolding encodable
  encodable_size f = rw (outside 1 63 (length l) f)

  pub encodable_basic : length l ≤ length (below 0x80 l) → encodable l ≡ false
  unfolding encodable
  encodable_basic h = rw (no_high l h, and-false, and-false)

  pub encodable_bad : all_of allowed l ≡ false → encodable l ≡ false
  unfolding encodable
  encodable_bad e = rw (e, and-false)

  pub encodable_high : all_of allowed l ≡ true → length l ≤ 63 → length (below 0x80 l) < length l → encodable l ≡ true
  unfolding encodable
  encodable_high e g h = rw (inside 1 63 (length l) (omega arith) g, e, any_high l h)
