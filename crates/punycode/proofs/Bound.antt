-- At most fifteen code points, each basic or from 3003 to 9FA0 and not all basic, are encoded in at most 63 octets.
--
-- An octet costs 12,000, and each step that the code points' values rise pays 1; all their steps, from 80 to 9FA0, pay 40,736. After h code points
-- `pot h bias` bounds what the digits to come can cost beyond what the steps to come pay. It has two values: a large integer makes the bias large, and
-- with a bias of 54 or more a large integer has fewer digits. The inequality for one integer needs a test only where its digits become one more
-- (`fits`, at 8,424 places), since between these places only the rise grows. Assumes nothing.
use mathlib.Core.Path.{◌≡◌, refl, ap, ◌∙◌}
use mathlib.Core.Bool.{Bool, true, false, ◌&&◌, ◌||◌}
use mathlib.Core.List.{List, [], ◌∷◌, ◌++◌}
use Prim.Native.Nat.{ℕ, zero, suc, ◌+◌, ◌-◌, ◌*◌, ◌/◌, ◌%◌, ◌≤◌, ◌<◌}
use native.Mathlib.Nat.{div-le_self, div-lt_iff_lt-mul, le-div_iff_mul-le, mul-le-mul, mul-add, mul_comm, le_of_mul-le-mul_left}
use native.Mathlib.Omega.{arith}
use lib.Dec.{eqb, leb, ltb}
use lib.ListN.{length, get_or, length-append}
use borrow.Author.Tests.{lt-ltb, le-ltb, le-leb, lt-leb, ne_eqb, eq-eqb, leb-true}
use Rattle.lists.proofs.Laws.{both, in_range, all_append, clash}
use Rattle.lists.specs.Tests.{pick, within, all_of}
use Rattle.punycode.specs.Order.{keys_at, keys_from, keys, due, run, first, Climbs, step}
use Rattle.punycode.specs.Punycode.{adapt_loop, damped, adapt, threshold, varint, Enc, emit, below, delimiter, extended, encode, encodable, ace}
use Rattle.punycode.proofs.Clipped.{adapt_next, adapt_end}
use Rattle.punycode.proofs.Keys.{from_count}
use Rattle.punycode.proofs.Reading.{split, threshold_bounds}
use Rattle.punycode.proofs.Rungs.{encodable_basic}
use Rattle.punycode.proofs.Runs.{keys_go}
use Rattle.punycode.proofs.Theorems.{all_below}

-- ---- the digits of an integer

-- below this an integer has at most k digits, of which the first is at j
unfoldable cap : ℕ → ℕ → ℕ → ℕ
cap zero bias j = 0
cap (suc k) bias j = threshold j bias + (36 - threshold j bias) * cap k bias (j + 36)

cap_digits : (k f bias j q : ℕ) → q < cap k bias j → length (varint f bias j q) ≤ k
unfolding cap varint
cap_digits k zero bias j q h = omega arith
cap_digits zero (suc f) bias j q h = absurd (omega arith)
cap_digits (suc k) (suc f) bias j q h =
    let t = threshold j bias in
    let b = threshold_bounds j bias in
    split q t
    (λ l. rw (lt-ltb q t l) (omega arith))
    (λ g.
    let m = mul_comm (cap k bias (j + 36)) (36 - t) in
    let l : (q - t) / (36 - t) < cap k bias (j + 36) = (div-lt_iff_lt-mul {k = 36 - t} {x = q - t} {y = cap k bias (j + 36)} (omega (arith, b.1))).1 (omega arith) in
    let ih = cap_digits k f bias (j + 36) ((q - t) / (36 - t)) l in
    rw (le-ltb q t g) (omega arith))

-- q is between two of these
record Between (bias q label_room : ℕ) : Type 0 where
  k : ℕ
  under : k < label_room
  from : cap k bias 36 ≤ q
  to : q < cap (suc k) bias 36

ladder : (label_room bias q : ℕ) → q < cap label_room bias 36 → Between bias q label_room
unfolding cap
ladder zero bias q h = absurd (omega arith)
ladder (suc k) bias q h = split q (cap k bias 36)
    (λ l. let v = ladder k bias q l in record { k = v.k; under = omega (arith, v.under); from = v.from; to = v.to })
    (λ g. record { k = k; under = omega arith; from = g; to = h })

-- ---- the bias

loop_from : (f k d : ℕ) → k ≤ adapt_loop f k d
unfolding adapt_loop
loop_from zero k d = omega arith
loop_from (suc f) k d = split 455 d
    (λ l. rw (lt-ltb 455 d l) (omega (arith, loop_from f (k + 36) (d / 35))))
    (λ g. rw (le-ltb 455 d g) (omega arith))

share_low : (x : ℕ) → 38 ≤ x → 18 ≤ 36 * x / (x + 38)
share_low x h = (le-div_iff_mul-le {k = x + 38} {x = 18} {y = 36 * x} (omega arith)).1 (omega arith)

share_high : (x v : ℕ) → 36 * x < v * (x + 38) → 36 * x / (x + 38) < v
share_high x v h = (div-lt_iff_lt-mul {k = x + 38} {x = 36 * x} {y = v} (omega arith)).1 h

loop_low : (f e : ℕ) → e ≤ f → 1330 ≤ e → 54 ≤ adapt_loop f 0 e
loop_low f e h g =
    let a = adapt_next f 0 e h (omega arith) in
    split 455 (e / 35)
    (λ l. let b = adapt_next a.0 36 (e / 35) a.1 l in rw (a.2, b.2) (omega (arith, loop_from b.0 72 (e / 35 / 35))))
    (λ l. rw (a.2, adapt_end a.0 36 (e / 35) l) (omega (arith, share_low (e / 35) (omega arith))))

loop_high : (f e v : ℕ) → e ≤ f → e / 35 / 35 ≤ 455 → 36 * (e / 35 / 35) < v * (e / 35 / 35 + 38) → adapt_loop f 0 e < 72 + v
loop_high f e v h u g = split 455 e
    (λ l.
    let a = adapt_next f 0 e h l in
    split 455 (e / 35)
    (λ m.
    let b = adapt_next a.0 36 (e / 35) a.1 m in
    rw (a.2, b.2, adapt_end b.0 72 (e / 35 / 35) u) (omega (arith, share_high (e / 35 / 35) v g)))
    (λ m. rw (a.2, adapt_end a.0 36 (e / 35) m) (omega (arith, share_high (e / 35) 36 (omega arith)))))
    (λ l. rw (adapt_end f 0 e l) (omega (arith, share_high e 36 (omega arith))))

-- ---- the table

-- the potential after h code points, with a bias below 54 and with one of 54 or more
unfoldable low : ℕ → ℕ
low h = get_or (0 ∷ 651300 ∷ 611100 ∷ 568500 ∷ 524400 ∷ 479300 ∷ 433700 ∷ 387700 ∷ 341400 ∷ 294600 ∷ 247500 ∷ 200400 ∷ 153200 ∷ 106000 ∷ 58100 ∷ 0 ∷ []) h 0

unfoldable high : ℕ → ℕ
high h = get_or (0 ∷ 647100 ∷ 604700 ∷ 560700 ∷ 515700 ∷ 470100 ∷ 424100 ∷ 377800 ∷ 331300 ∷ 284600 ∷ 237400 ∷ 190100 ∷ 142800 ∷ 95400 ∷ 48000 ∷ 0 ∷ []) h 0

-- the largest bias after h code points
unfoldable top : ℕ → ℕ
top h = pick (ltb h 9) 98 101

unfoldable pot : ℕ → ℕ → ℕ
pot h bias = pick (ltb bias 54) (low h) (high h)

-- the test holds of all numbers below n
unfoldable up_to : ℕ → (ℕ → Bool) → Bool
up_to zero p = true
up_to (suc n) p = p n && up_to n p

up_at : (n : ℕ) (p : ℕ → Bool) (i : ℕ) → up_to n p ≡ true → i < n → p i ≡ true
unfolding up_to
up_at zero p i e h = absurd (omega arith)
up_at (suc n) p i e h =
    let v = both (p n) (up_to n p) e in
    split i n (λ l. up_at n p i v.1 l) (λ g. let q : i ≡ n = omega arith in rw q v.0)

-- what the potential is at most after an integer of at least q: from 2,660 on the bias is 54 or more
unfoldable next : ℕ → ℕ → ℕ
next h q = pick (leb 2660 q) (high h) (low h)

unfoldable fits : ℕ → ℕ → ℕ → Bool
fits h bias k = leb ((h + 1) * (12000 * (k + 1) + next (h + 1) (cap k bias 36))) ((h + 1) * pot h bias + (cap k bias 36 - 14))

fits_all : up_to 14 (λ j. up_to (suc (top (suc j))) (λ bias. up_to 6 (fits (suc j) bias))) ≡ true
unfolding up_to fits next pot top low high cap threshold
fits_all = refl

lower_all : up_to 16 (λ n. leb (high n) (low n)) ≡ true
unfolding up_to low high
lower_all = refl

six_all : up_to 102 (λ bias. leb 1000000 (cap 6 bias 36)) ≡ true
unfolding up_to cap threshold
six_all = refl

fits_at : (h bias k : ℕ) → 1 ≤ h → h ≤ 14 → bias ≤ top h → k < 6 → fits h bias k ≡ true
fits_at zero bias k l u t g = absurd (omega arith)
fits_at (suc j) bias k l u t g =
    up_at 6 (fits (suc j) bias) k
    (up_at (suc (top (suc j))) (λ x. up_to 6 (fits (suc j) x)) bias
    (up_at 14 (λ i. up_to (suc (top (suc i))) (λ x. up_to 6 (fits (suc i) x))) j fits_all (omega arith)) (omega arith)) g

top_most : (h : ℕ) → (98 ≤ top h) × (top h ≤ 101)
unfolding top
top_most h = split h 9 (λ l. rw (lt-ltb h 9 l) (omega arith, omega arith)) (λ g. rw (le-ltb h 9 g) (omega arith, omega arith))

pot_low : (n bias : ℕ) → n ≤ 15 → pot n bias ≤ low n
unfolding pot
pot_low n bias h = split bias 54
    (λ l. rw (lt-ltb bias 54 l) (omega arith))
    (λ g. rw (le-ltb bias 54 g) (leb-true (high n) (low n) (up_at 16 (λ x. leb (high x) (low x)) n lower_all (omega arith))))

adapt_low : (d n : ℕ) → 2660 ≤ d → 54 ≤ adapt d n false
unfolding adapt damped
adapt_low d n h = loop_low (d / 2 + d / 2 / n) (d / 2 + d / 2 / n) (omega arith) (omega arith)

adapt_top : (d n : ℕ) → 1 ≤ n → n ≤ 15 → d ≤ 28573 * n + 14 → adapt d n false ≤ top n
unfolding adapt damped top
adapt_top d n l u h =
    let s : d / 2 / n < 14295 = (div-lt_iff_lt-mul {k = n} {x = d / 2} {y = 14295} (omega arith)).1 (omega arith) in
    split n 9
    (λ g. rw (lt-ltb n 9 g) (omega (arith, loop_high (d / 2 + d / 2 / n) (d / 2 + d / 2 / n) 27 (omega arith) (omega arith) (omega arith))))
    (λ g. rw (le-ltb n 9 g) (omega (arith, loop_high (d / 2 + d / 2 / n) (d / 2 + d / 2 / n) 30 (omega arith) (omega arith) (omega arith))))

adapt_first : (d n : ℕ) → d < 1000000 → adapt d n true ≤ top n
adapt_first d n h =
    let e = d / 700 + d / 700 / n in
    let small : e ≤ 2856 = omega (arith, div-le_self (d / 700) n) in
    let s : adapt d n true < 72 + 27 = unfold adapt damped in loop_high e e 27 (omega arith) (omega arith) (omega arith) in
    omega (arith, (top_most n).0)

next_over : (n c d : ℕ) → n ≤ 15 → c ≤ d → pot n (adapt d n false) ≤ next n c
unfolding next
next_over n c d u h = split c 2660
    (λ l. rw (lt-leb 2660 c l) (pot_low n (adapt d n false) u))
    (λ g. rw (le-leb 2660 c g) (unfold pot in rw (le-ltb (adapt d n false) 54 (adapt_low d n (omega arith))) (omega arith)))

-- one integer: its digits and what may follow cost no more than what might follow before it, and what the rise r of the value pays
step_pays : (h bias d r : ℕ) → 1 ≤ h → h ≤ 14 → bias ≤ top h → d < 1000000 → d ≤ r * (h + 1) + 14
    → 12000 * length (varint (suc d) bias 36 d) + pot (h + 1) (adapt d (h + 1) false) ≤ pot h bias + r
step_pays h bias d r l u t small way =
    let six : 1000000 ≤ cap 6 bias 36 = leb-true 1000000 _ (up_at 102 (λ x. leb 1000000 (cap 6 x 36)) bias six_all (omega (arith, (top_most h).1))) in
    let v = ladder 6 bias d (omega arith) in
    let c = cap v.k bias 36 in
    let digits = cap_digits (suc v.k) (suc d) bias 36 d v.to in
    let f : (h + 1) * (12000 * (v.k + 1) + next (h + 1) c) ≤ (h + 1) * pot h bias + (c - 14) = leb-true _ _ (unfold fits in fits_at h bias v.k l u t v.under) in
    let m : (h + 1) * (12000 * (v.k + 1) + next (h + 1) c) ≤ (h + 1) * (pot h bias + r) = rw (mul-add (h + 1) (pot h bias) r, mul_comm (h + 1) r) (omega (arith, v.from)) in
    let g : 12000 * (v.k + 1) + next (h + 1) c ≤ pot h bias + r = le_of_mul-le-mul_left {m = 12000 * (v.k + 1) + next (h + 1) c} {n = pot h bias + r} {k = h + 1} m (omega arith) in
    omega (arith, next_over (h + 1) c d (omega arith) v.from)

-- what the digits of the whole may cost beyond the 40,736 that the way from 80 to 9FA0 pays: 63 octets less the prefix, the basic code points and the delimiter
unfoldable room : ℕ → ℕ
room b = 727263 - 12000 * (4 + b + length (delimiter b))

unfoldable starts : ℕ → ℕ → Bool
starts b k =
    leb (12000 * (k + 1) + low (b + 1)) (room b + 12163)
    || leb ((b + 1) * (12000 * (k + 1) + low (b + 1))) ((b + 1) * room b + (cap k 72 36 - 14))

starts_all : up_to 15 (λ b. up_to 6 (starts b)) ≡ true
unfolding up_to starts low room delimiter cap threshold
starts_all = refl

starts_says : (b k d r : ℕ) → starts b k ≡ true → cap k 72 36 ≤ d → 12163 ≤ r → d ≤ r * (b + 1) + 14 → 12000 * (k + 1) + low (b + 1) ≤ room b + r
unfolding starts
starts_says b k d r f from far way = go (leb (12000 * (k + 1) + low (b + 1)) (room b + 12163)) refl f
  where
    go : (x : Bool) → leb (12000 * (k + 1) + low (b + 1)) (room b + 12163) ≡ x
        → x || leb ((b + 1) * (12000 * (k + 1) + low (b + 1))) ((b + 1) * room b + (cap k 72 36 - 14)) ≡ true
        → 12000 * (k + 1) + low (b + 1) ≤ room b + r
    go true e f = omega (arith, leb-true (12000 * (k + 1) + low (b + 1)) (room b + 12163) e)
    go false e f =
        let g = leb-true ((b + 1) * (12000 * (k + 1) + low (b + 1))) ((b + 1) * room b + (cap k 72 36 - 14)) f in
        let m : (b + 1) * (12000 * (k + 1) + low (b + 1)) ≤ (b + 1) * (room b + r) = rw (mul-add (b + 1) (room b) r, mul_comm (b + 1) r) (omega arith) in
        le_of_mul-le-mul_left {m = 12000 * (k + 1) + low (b + 1)} {n = room b + r} {k = b + 1} m (omega arith)

-- the first integer, whose value is at least 12,163 above 80
start_pays : (b d r : ℕ) → b ≤ 14 → d < 1000000 → 12163 ≤ r → d ≤ r * (b + 1) + 14
    → 12000 * length (varint (suc d) 72 36 d) + low (b + 1) ≤ room b + r
start_pays b d r u small far way =
    let six : 1000000 ≤ cap 6 72 36 = leb-true 1000000 _ (up_at 102 (λ x. leb 1000000 (cap 6 x 36)) 72 six_all (omega arith)) in
    let v = ladder 6 72 d (omega arith) in
    let digits = cap_digits (suc v.k) (suc d) 72 36 d v.to in
    let f : starts b v.k ≡ true = up_at 6 (starts b) v.k (up_at 15 (λ x. up_to 6 (starts x)) b starts_all (omega arith)) v.under in
    omega (arith, starts_says b v.k d r f v.from far way)

-- ---- the keys

-- basic, or from 3003 to 9FA0
unfoldable pub near : ℕ → Bool
near c = ltb c 0x80 || within 0x3003 0x9FA0 c

-- the key of such a code point, of at most 15
unfoldable good : ℕ → Bool
good x = within 0x3003 0x9FA0 (x / 64) && leb (x % 64) 14

good_key : (m k : ℕ) → 0x80 ≤ m → near m ≡ true → k ≤ 14 → good (m * 64 + k) ≡ true
unfolding near good
good_key m k h e g =
    let value : (m * 64 + k) / 64 ≡ m = omega arith in
    let place : (m * 64 + k) % 64 ≡ k = omega arith in
    let w : within 0x3003 0x9FA0 m ≡ true = rw (le-ltb m 0x80 h) at e in
    rw (value, place, w, le-leb k 14 g)

good_parts : (x : ℕ) → good x ≡ true → (0x3003 ≤ x / 64) × (x / 64 ≤ 0x9FA0) × (x % 64 ≤ 14)
unfolding good
good_parts x e =
    let v = both (within 0x3003 0x9FA0 (x / 64)) (leb (x % 64) 14) e in
    let w = in_range 0x3003 0x9FA0 (x / 64) v.0 in
    (w.0, w.1, leb-true (x % 64) 14 v.1)

at_good : (m k : ℕ) (l : List ℕ) → 0x80 ≤ m → k + length l ≤ 15 → all_of near l ≡ true → all_of good (keys_at m k l) ≡ true
unfolding all_of keys_at
at_good m k [] h few e = refl
at_good m k (c ∷ l) h few e =
    let v = both (near c) (all_of near l) e in
    split c m
    (λ y. rw (lt-ltb c m y) (at_good m (k + 1) l h (omega arith) v.1))
    (λ g. split m c
    (λ y. rw (le-ltb c m g, ne_eqb c m (omega arith)) (at_good m k l h (omega arith) v.1))
    (λ y.
    let q : c ≡ m = omega arith in
    rw (le-ltb c m g, eq-eqb c m q, good_key m k h (rw q at v.0) (omega arith)) (at_good m (k + 1) l h (omega arith) v.1)))

from_good : (f n : ℕ) (l : List ℕ) → 0x80 ≤ n → length l ≤ 15 → all_of near l ≡ true → all_of good (keys_from f n l) ≡ true
unfolding all_of keys_from
from_good zero n l h few e = refl
from_good (suc f) n l h few e = rw (all_append, at_good n 0 l h (omega arith) e, from_good f (n + 1) l (omega arith) few e)

-- ---- the loop over the keys

module _ (b : ℕ) where
  -- what is written for the keys to come costs at most the potential, and what the way still to go pays
  run_costs : (xs : List ℕ) (n i : ℕ) (s : Enc) → Climbs n i s.h xs → all_of good xs ≡ true → 0x3003 ≤ n → n ≤ 0x9FA0 → b < s.h → s.h + length xs ≤ 15
      → s.bias ≤ top s.h → 12000 * length (run b xs n i s) ≤ 12000 * length s.out + pot s.h s.bias + (0x9FA0 - n)
  unfolding run emit due all_of
  run_costs [] n i s w g lo hi more few t = omega arith
  run_costs (x ∷ xs) n i s (step p q r w) g lo hi more few t =
      let v = both (good x) (all_of good xs) g in
      let parts = good_parts x v.0 in
      let m = x / 64 in
      let d = (m - n) * (s.h + 1) + x % 64 - i in
      let not_first : eqb s.h b ≡ false = ne_eqb s.h b (omega arith) in
      let rise = mul-le-mul {n₁ = m - n} {m₁ = s.h + 1} {n₂ = 28573} {m₂ = s.h + 1} (omega (arith, parts.1)) (omega arith) in
      let way : d ≤ (m - n) * (s.h + 1) + 14 = omega (arith, parts.2) in
      let pays = step_pays s.h s.bias d (m - n) (omega arith) (omega arith) t (omega arith) way in
      let t' = adapt_top d (s.h + 1) (omega arith) (omega arith) (omega arith) in
      let ih : 12000 * length (run b (x ∷ xs) n i s) ≤ 12000 * length (s.out ++ varint (suc d) s.bias 36 d) + pot (s.h + 1) (adapt d (s.h + 1) (eqb s.h b)) + (0x9FA0 - m) =
      run_costs xs m (x % 64 + 1) (emit b (due d s)) w v.1 parts.0 parts.1 (omega arith) (omega arith) (rw not_first t') in
      let same : pot (s.h + 1) (adapt d (s.h + 1) (eqb s.h b)) ≡ pot (s.h + 1) (adapt d (s.h + 1) false) = rw not_first in
      omega (arith, length-append s.out (varint (suc d) s.bias 36 d), parts.1)

  -- the whole, from 80 on
  whole_costs : (x : ℕ) (xs : List ℕ) → Climbs 0x80 0 b (x ∷ xs) → all_of good (x ∷ xs) ≡ true → b + length (x ∷ xs) ≤ 15
      → 12000 * length (run b (x ∷ xs) 0x80 0 (first b)) ≤ room b + 40736
  unfolding run emit due first all_of
  whole_costs x xs (step p q r w) g few =
      let v = both (good x) (all_of good xs) g in
      let parts = good_parts x v.0 in
      let m = x / 64 in
      let d = (m - 0x80) * (b + 1) + x % 64 - 0 in
      let is_first : eqb b b ≡ true = eq-eqb b b refl in
      let rise = mul-le-mul {n₁ = m - 0x80} {m₁ = b + 1} {n₂ = 40736} {m₂ = 15} (omega (arith, parts.1)) (omega arith) in
      let way : d ≤ (m - 0x80) * (b + 1) + 14 = omega (arith, parts.2) in
      let pays = start_pays b d (m - 0x80) (omega arith) (omega arith) (omega (arith, parts.0)) way in
      let ih : 12000 * length (run b (x ∷ xs) 0x80 0 (first b)) ≤ 12000 * length (varint (suc d) 72 36 d) + pot (b + 1) (adapt d (b + 1) (eqb b b)) + (0x9FA0 - m) =
      run_costs xs m (x % 64 + 1) (emit b (due d (first b))) w v.1 parts.0 parts.1 (omega arith) (omega arith) (rw is_first (adapt_first d (b + 1) (omega arith))) in
      omega (arith, ih, pot_low (b + 1) (adapt d (b + 1) (eqb b b)) (omega arith), parts.0, parts.1)

-- ---- the theorem

near_small : (c : ℕ) → near c ≡ true → c < 0x110000
unfolding near
near_small c e = split c 0x80 (λ y. omega arith) (λ y. omega (arith, (in_range 0x3003 0x9FA0 c (rw (le-ltb c 0x80 y) at e)).1))

near_bounded : (l : List ℕ) → all_of near l ≡ true → below 0x110000 l ≡ l
near_bounded = all_below near 0x110000 near_small

room_is : (b : ℕ) → b ≤ 14 → room b + 12000 * (4 + b + length (delimiter b)) ≡ 727263
unfolding room delimiter
room_is b h = split 0 b (λ y. rw (ne_eqb b 0 (omega arith)) (omega arith)) (λ y. rw (eq-eqb b 0 (omega arith)) (omega arith))

-- a label of at most 15 code points, each basic or from 3003 to 9FA0 and not all basic, has an encoding of at most 63 octets
pub ace_short : (l : List ℕ) → length l ≤ 15 → all_of near l ≡ true → length (below 0x80 l) < length l → length (ace l) ≤ 63
unfolding ace encode keys first
ace_short l few each more =
    let b = length (below 0x80 l) in
    let go = keys_go l (omega arith) (near_bounded l each) in
    let count : b + length (keys l) ≡ length l = from_count 0x10FF80 0x80 l ∙ ap length (near_bounded l each) in
    let label_room = cost (keys l) go.climbs (from_good 0x10FF80 0x80 l (omega arith) few each) count in
    let size : 12000 * length (extended l) ≤ room b + 40736 = rw go.writes at label_room in
    let parts : length (encode l) ≡ length (below 0x80 l ++ delimiter b) + length (extended l) = length-append (below 0x80 l ++ delimiter b) (extended l) in
    omega (arith, size, room_is b (omega arith), length-append (below 0x80 l) (delimiter b))
  where
    cost : (xs : List ℕ) → Climbs 0x80 0 (length (below 0x80 l)) xs → all_of good xs ≡ true → length (below 0x80 l) + length xs ≡ length l
        → 12000 * length (run (length (below 0x80 l)) xs 0x80 0 (first (length (below 0x80 l)))) ≤ room (length (below 0x80 l)) + 40736
    cost [] w g e = absurd (omega arith)
    cost (x ∷ xs) w g e = whole_costs (length (below 0x80 l)) x xs w g (omega arith)

-- so for an encodable label
pub encodable_short : (l : List ℕ) → encodable l ≡ true → length l ≤ 15 → all_of near l ≡ true → length (ace l) ≤ 63
encodable_short l h few each = split (length (below 0x80 l)) (length l)
    (λ y. ace_short l few each y)
    (λ y. clash h (encodable_basic l y))
