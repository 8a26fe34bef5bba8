-- The decoder's code follows the decoding procedure: each function's result is the procedure's step, and each turn of a loop one octet or entry.
-- Assumes nothing.
use Rattle.std.proofs.Common.{Bor, Option, Some, None}
use mathlib.Core.Path.{◌≡◌, refl, sym, ap, ◌∙◌}
use mathlib.Core.Option as maybe
use mathlib.Core.Logic.{◌≢◌}
use mathlib.Core.Bool.{Bool, true, false}
use mathlib.Core.List.{List, [], ◌∷◌}
use Prim.Native.Nat.{ℕ, zero, suc, ◌+◌, ◌-◌, ◌*◌, ◌/◌, ◌%◌, ◌≤◌, ◌<◌}
use native.Mathlib.Numerals.{add-one}
use native.Mathlib.Omega.{arith}
use lib.Dec.{eqb}
use lib.ListN.{length, get_or, take, drop, drop_of_length-le}
use lib.Seq.{drop-cons}
use borrow.Author.Tests.{lt-ltb, le-ltb, ne_eqb, eq-eqb}
use Rattle.std.specs.Bool.{then_some}
use Rattle.std.specs.Option.{IfSome}
use Rattle.std.specs.List.{AllWithin, HoldsAt}
use Rattle.lists.specs.Tests.{pick}
use Rattle.punycode.specs.Decoding.{value, Dec, stuck, reading, insert, place, octet, octets, mark, last_delimiter, label, decode}
use Rattle.punycode.specs.Inner.{read, answer}
use Rattle.punycode.specs.Punycode.{adapt, threshold}
use Rattle.punycode.specs.declared.decoder.Reader.{Reader}

-- ---- an integer is read

module _ (n : ℕ) (out : List ℕ) (len oldi i : ℕ) (sized : length out ≡ len) where
  pub place_large : 0x110000 ≤ n + i / (len + 1) → stuck ≡ place n out oldi i
  unfolding place
  place_large h = rw (sized, le-ltb (n + i / (len + 1)) 0x110000 h)

  pub place_done : (bias : ℕ) (text : List ℕ) → n + i / (len + 1) < 0x110000 → bias ≡ adapt (i - oldi) (len + 1) (eqb oldi 0)
      → text ≡ insert (i % (len + 1)) (n + i / (len + 1)) out
      → reading (n + i / (len + 1)) bias text (i % (len + 1) + 1) (i % (len + 1) + 1) 1 36 ≡ place n out oldi i
  unfolding place
  place_done bias text h p q = rw (sized, lt-ltb (n + i / (len + 1)) 0x110000 h, p, q)

-- ---- an octet

module _ (c : ℕ) (s : Reader) (text : List ℕ) where
  pub octet_none : value c ≡ 36 → stuck ≡ octet c (read (Some s) text)
  unfolding read octet
  octet_none e = rw e

  module _ (d : ℕ) (is : d ≡ value c) (small : d < 36) where
    pub octet_over : 0x4400000 ≤ s.i + d * s.w → stuck ≡ octet c (read (Some s) text)
    unfolding read octet
    octet_over g = rw (← is, lt-ltb d 36 small, le-ltb (s.i + d * s.w) 0x4400000 g)

    module _ (fits : s.i + d * s.w < 0x4400000) (t : ℕ) (t-is : t ≡ threshold s.k s.bias) where
      pub octet_last : (x : Dec) → d < t → x ≡ place s.n (take s.len text) s.oldi (s.i + d * s.w) → x ≡ octet c (read (Some s) text)
      unfolding read octet
      octet_last x h e = rw (← is, ← t-is, lt-ltb d 36 small, lt-ltb (s.i + d * s.w) 0x4400000 fits, lt-ltb d t h) e

      pub octet_more : t ≤ d → reading s.n s.bias (take s.len text) s.oldi (s.i + d * s.w) (s.w * (36 - t)) (s.k + 36) ≡ octet c (read (Some s) text)
      unfolding read octet
      octet_more h = rw (← is, ← t-is, lt-ltb d 36 small, lt-ltb (s.i + d * s.w) 0x4400000 fits, le-ltb d t h)

-- ---- the loops

octets_stuck : (e : List ℕ) → octets e stuck ≡ stuck
unfolding octets octet
octets_stuck [] = refl
octets_stuck (c ∷ e) = octets_stuck e

module _ (e : List ℕ) (j : ℕ) where
  pub octets_next : (s s' total : Dec) → j < length e → s' ≡ octet (get_or e j 0) s → octets (drop j e) s ≡ total → octets (drop (j + 1) e) s' ≡ total
  unfolding octets
  octets_next s s' total l p q = rw (p, add-one j) (rw (drop-cons e j 0 l) at q)

  pub octets_end : (s total : Dec) → length e ≤ j → octets (drop j e) s ≡ total → s ≡ total
  unfolding octets
  octets_end s total l q = rw (drop_of_length-le e l) at q

  -- an octet is refused, and then all that follow
  pub octets_stop : (s total : Dec) → j < length e → stuck ≡ octet (get_or e j 0) s → octets (drop j e) s ≡ total → stuck ≡ total
  unfolding octets
  octets_stop s total l p q = sym (octets_stuck (drop (suc j) e)) ∙ rw p (rw (drop-cons e j 0 l) at q)

-- ---- the last delimiter

none_marked : (e : List ℕ) (j r : ℕ) → AllWithin (λ c. c ≢ 45) e 0 (length e) → last_delimiter j r e ≡ r
unfolding last_delimiter mark
none_marked [] j r h = refl
none_marked (c ∷ e) j r h = rw (ne_eqb c 45 (h 0 0 (omega arith) (omega arith))) (none_marked e (j + 1) r (λ k d p q. h (suc k) d (omega arith) (omega arith)))

last_marked : (e : List ℕ) (i j r : ℕ) → i < length e → get_or e i 0 ≡ 45 → ((k d : ℕ) → i < k → k < length e → get_or e k d ≢ 45) → last_delimiter j r e ≡ j + i + 1
unfolding last_delimiter mark
last_marked [] i j r l x h = absurd (omega arith)
last_marked (c ∷ e) zero j r l x h = rw (eq-eqb c 45 x) (none_marked e (j + 1) (j + 1) (λ k d p q. h (suc k) d (omega arith) (omega arith)) ∙ omega arith)
last_marked (c ∷ e) (suc i) j r l x h = last_marked e i (j + 1) _ (omega arith) x (λ k d p q. h (suc k) d (omega arith) (omega arith)) ∙ omega arith

module _ (e : List ℕ) where
  pub no_delimiter : AllWithin (λ c. c ≢ 45) e 0 (length e) → last_delimiter 0 0 e ≡ 0
  no_delimiter h = none_marked e 0 0 h

  pub delimiter_at : (j : ℕ) → j < length e → HoldsAt (λ c. c ≡ 45) e j → AllWithin (λ c. c ≢ 45) e (j + 1) (length e) → last_delimiter 0 0 e ≡ j + 1
  delimiter_at j l x h = last_marked e j 0 0 l (x 0) (λ k d p q. h k d (omega arith) q) ∙ omega arith

-- ---- the whole

pub decode_is : (e basic rest text : List ℕ) (x : Dec) → basic ≡ take (last_delimiter 0 0 e - 1) e → rest ≡ drop (last_delimiter 0 0 e) e
    → take (length basic) text ≡ basic → x ≡ octets rest (reading 128 72 (take (length basic) text) 0 0 1 36) → decode e ≡ label x
unfolding decode
decode_is e basic rest text x p q r o = rw (o, r, p, q)

pub decode_stuck : label stuck ≡ answer None
unfolding label answer
decode_stuck = refl

-- the input ends between two integers
pub decode_ends : (s : Reader) (out : List ℕ) (l : Bor (List ℕ)) (r : Option (Bor (List ℕ))) → r ≡ then_some (eqb s.w 1) l → l.now ≡ take s.len out → length l.now ≤ 63
    → IfSome r (λ x. length x.now ≤ 63) × (label (read (Some s) out) ≡ answer r)
unfolding label read answer
decode_ends s out l r e is h = rw e (go (eqb s.w 1))
  where
    go : (b : Bool) → IfSome (then_some b l) (λ x. length x.now ≤ 63) × (pick b (maybe.some (take s.len out)) maybe.none ≡ answer (then_some b l))
    go true = (h, ap maybe.some (sym is))
    go false = (tt, refl)
