-- The decoder puts a code point where the coder stands: an integer read is divided by the length, and the remainder is the place.
-- Assumes nothing.
use mathlib.Core.Path.{◌≡◌, refl, sym, ap, ◌∙◌}
use mathlib.Core.Bool.{true}
use mathlib.Core.List.{List, [], ◌∷◌, ◌++◌, append-nil}
use Prim.Native.Nat.{ℕ, suc, ◌+◌, ◌*◌, ◌/◌, ◌%◌, ◌≤◌, ◌<◌}
use native.Mathlib.Nat.{div-eq_of_lt, mod-eq_of_lt, mul-add-div_right, mul-add-mod_self_right, add-sub_cancel_left, mul-le-mul, mul-one}
use native.Mathlib.Omega.{arith}
use lib.Dec.{eqb}
use lib.ListN.{length, length-append}
use lib.Seq.{take-append_seam, drop-append_seam, append_snoc}
use borrow.Author.Tests.{lt-ltb, le-ltb, ne_eqb, eq-eqb}
use Rattle.lists.proofs.Laws.{all_append}
use Rattle.lists.specs.Tests.{all_of}
use Rattle.punycode.specs.Decoding.{Dec, reading, insert, place, octet, octets}
use Rattle.punycode.specs.Punycode.{adapt, varint, Enc, emit, add, below, point, points, alnum}
use Rattle.punycode.proofs.Reading.{split, varint_read, varint_alnum}

pub octets_append : (xs ys : List ℕ) (s : Dec) → octets (xs ++ ys) s ≡ octets ys (octets xs s)
unfolding octets
octets_append [] ys s = refl
octets_append (x ∷ xs) ys s = octets_append xs ys (octet x s)

quotient : (k len p i : ℕ) → p < len → k * len + p ≡ i → i / len ≡ k
quotient k len p i l e = rw (← e, mul-add-div_right {m = len} (omega arith) k p, div-eq_of_lt l) (omega arith)

remainder : (k len p i : ℕ) → p < len → k * len + p ≡ i → i % len ≡ p
remainder k len p i l e = rw (← e, mul-add-mod_self_right k len p) (mod-eq_of_lt l)

-- the decoder between two integers
abbrev pub between : ℕ → ℕ → ℕ → List ℕ → Dec
between n i bias out = reading n bias out i i 1 36

module _ (n k i delta : ℕ) (pre post : List ℕ) (small : n + k < 0x110000)
    (steps : k * (length (pre ++ post) + 1) + length pre ≡ i + delta) where
  place_at : place n (pre ++ post) i (i + delta)
      ≡ between (n + k) (length pre + 1) (adapt delta (length (pre ++ post) + 1) (eqb i 0)) (pre ++ (n + k) ∷ post)
  unfolding place insert
  place_at =
      let l : length pre < length (pre ++ post) + 1 = omega (arith, length-append pre post) in
      rw (
        quotient k (length (pre ++ post) + 1) (length pre) (i + delta) l steps,
        remainder k (length (pre ++ post) + 1) (length pre) (i + delta) l steps,
        lt-ltb (n + k) 0x110000 small,
        add-sub_cancel_left i delta,
        take-append_seam pre post,
        drop-append_seam pre post,
      )

module _ (start : Dec) (b n k i : ℕ) (pre post : List ℕ) (s : Enc) (reads : octets s.out start ≡ between n i s.bias (pre ++ post))
    (count : s.h ≡ length (pre ++ post)) (steps : k * (s.h + 1) + length pre ≡ i + s.delta) (first : eqb s.h b ≡ eqb i 0)
    (small : n + k < 0x110000) (few : s.h < 63) where
  emit_read : octets (emit b s).out start ≡ between (n + k) (length pre + 1) (emit b s).bias (pre ++ (n + k) ∷ post)
  unfolding emit
  emit_read =
      let fits : i + s.delta * 1 < 0x4400000 =
      omega (arith, steps, count, length-append pre post, mul-le-mul {n₁ = k} {m₁ = s.h + 1} {n₂ = 0x110000} {m₂ = 63} (omega arith) (omega arith)) in
      octets_append s.out (varint (suc s.delta) s.bias 36 s.delta) start
      ∙ ap (octets (varint (suc s.delta) s.bias 36 s.delta)) reads
      ∙ varint_read n s.bias (pre ++ post) i (suc s.delta) 36 s.delta i 1 (omega arith) fits
      ∙ ap (λ (x : ℕ). place n (pre ++ post) i (i + x)) (mul-one s.delta)
      ∙ place_at n k i s.delta pre post small (rw count at steps)
      ∙ rw (first, count)

pub length_below : (m : ℕ) (l : List ℕ) → length (below m l) ≤ length l
unfolding below
length_below m [] = omega arith
length_below m (c ∷ l) = let ih = length_below m l in split c m (λ h. rw (lt-ltb c m h) (omega arith)) (λ h. rw (le-ltb c m h) (omega arith))

-- The decoder `start`, fed what the encoder has written, stands where the encoder does. The encoder is in its pass for m: `rest` is the input
-- that is still to pass, `pre` is what is at most m of the input passed, and the decoder's output is `pre` and what is below m of the rest.
pub record Inv (start : Dec) (b m : ℕ) (pre rest : List ℕ) (s : Enc) : Type 0 where
  pub n : ℕ
  pub k : ℕ
  pub i : ℕ
  pub reads : octets s.out start ≡ between n i s.bias (pre ++ below m rest)
  pub count : s.h ≡ length (pre ++ below m rest)
  pub steps : k * (s.h + 1) + length pre ≡ i + s.delta
  pub level : n + k ≡ m
  pub first : eqb s.h b ≡ eqb i 0
  pub more : b ≤ s.h
  pub clean : all_of alnum s.out ≡ true

module _ (start : Dec) (b m : ℕ) (pre rest : List ℕ) (s : Enc) where
  inv_low : (c : ℕ) → c < m → Inv start b m pre (c ∷ rest) s → Inv start b m (pre ++ (c ∷ [])) rest (add 1 s)
  unfolding add below
  inv_low c l v =
      let e : below m (c ∷ rest) ≡ c ∷ below m rest = rw (lt-ltb c m l) in
      record {
        n = v.n;
        k = v.k;
        i = v.i;
        reads = rw append_snoc (rw e at v.reads);
        count = rw append_snoc (rw e at v.count);
        steps = omega (arith, v.steps, length-append pre (c ∷ []));
        level = v.level;
        first = v.first;
        more = v.more;
        clean = v.clean;
      }

  inv_high : (c : ℕ) → m < c → Inv start b m pre (c ∷ rest) s → Inv start b m pre rest s
  unfolding below
  inv_high c l v =
      let e : below m (c ∷ rest) ≡ below m rest = rw (le-ltb c m (omega arith)) in
      record {
        n = v.n;
        k = v.k;
        i = v.i;
        reads = rw e at v.reads;
        count = rw e at v.count;
        steps = v.steps;
        level = v.level;
        first = v.first;
        more = v.more;
        clean = v.clean;
      }

  inv_at : (c : ℕ) → c ≡ m → c < 0x110000 → length pre + length rest < 63 → Inv start b m pre (c ∷ rest) s
      → Inv start b m (pre ++ (c ∷ [])) rest (emit b s)
  unfolding below emit
  inv_at c same small few v =
      let e : below m (c ∷ rest) ≡ below m rest = rw (le-ltb c m (omega arith)) in
      let count' : s.h ≡ length (pre ++ below m rest) = rw e at v.count in
      let few' : s.h < 63 = omega (arith, length-append pre (below m rest), length_below m rest) in
      let level' : v.n + v.k ≡ c = omega arith in
      let reads' = emit_read start b v.n v.k v.i pre (below m rest) s (rw e at v.reads) count' v.steps v.first (omega arith) few' in
      record {
        n = c;
        k = 0;
        i = length pre + 1;
        reads = rw append_snoc (rw level' at reads');
        count = rw append_snoc (omega (arith, length-append pre (below m rest), length-append pre (c ∷ below m rest)));
        steps = omega (arith, length-append pre (c ∷ []));
        level = omega arith;
        first = ne_eqb (s.h + 1) b (omega (arith, v.more)) ∙ sym (ne_eqb (length pre + 1) 0 (omega arith));
        more = omega arith;
        clean = rw (all_append, v.clean) (varint_alnum (suc s.delta) s.bias 36 s.delta);
      }

module _ (start : Dec) (b m : ℕ) (small : m < 0x110000) where
  points_step : (c : ℕ) (rest pre : List ℕ) (s : Enc) → length pre + length (c ∷ rest) ≤ 63 → Inv start b m pre (c ∷ rest) s
      → ((pre' : List ℕ) (s' : Enc) → length pre' + length rest ≤ 63 → Inv start b m pre' rest s'
      → Inv start b m (pre' ++ below (m + 1) rest) [] (points m b rest s'))
      → Inv start b m (pre ++ below (m + 1) (c ∷ rest)) [] (points m b (c ∷ rest) s)
  unfolding points point below
  points_step c rest pre s few v ih =
      let few' : length (pre ++ (c ∷ [])) + length rest ≤ 63 = omega (arith, length-append pre (c ∷ [])) in
      split c m
      (λ l. rw (lt-ltb c m l, lt-ltb c (m + 1) (omega arith))
      (rw append_snoc at (ih (pre ++ (c ∷ [])) (add 1 s) few' (inv_low start b m pre rest s c l v))))
      (λ g. split m c
      (λ l. rw (le-ltb c m g, ne_eqb c m (omega arith), le-ltb c (m + 1) (omega arith))
      (ih pre s (omega arith) (inv_high start b m pre rest s c l v)))
      (λ l. let e : c ≡ m = omega arith in
      rw (le-ltb c m g, eq-eqb c m e, lt-ltb c (m + 1) (omega arith))
      (rw append_snoc at (ih (pre ++ (c ∷ [])) (emit b s) few' (inv_at start b m pre rest s c e (omega arith) (omega arith) v)))))

  pub points_inv : (rest pre : List ℕ) (s : Enc) → length pre + length rest ≤ 63 → Inv start b m pre rest s
      → Inv start b m (pre ++ below (m + 1) rest) [] (points m b rest s)
  points_inv [] pre s few v = unfold points below in rw append-nil v
  points_inv (c ∷ rest) pre s few v = points_step c rest pre s few v (points_inv rest)
