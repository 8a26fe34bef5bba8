-- The decoder gives back what was encoded: after each pass for m it holds the label's code points up to m, in order, and after the last all.
-- Assumes nothing.
use mathlib.Core.Path.{◌≡◌, refl, ap, ◌∙◌}
use mathlib.Core.Bool.{true, false≢true}
use mathlib.Core.List.{List, [], ◌∷◌, ◌++◌, append-nil}
use mathlib.Core.Option.{some}
use Prim.Native.Nat.{ℕ, zero, suc, ◌+◌, ◌-◌, ◌*◌, ◌≤◌, ◌<◌}
use native.Mathlib.Nat.{add-mul, add-sub_cancel}
use native.Mathlib.Omega.{arith}
use lib.ListN.{length}
use lib.Seq.{append_snoc, take-append_seam, drop-append-add}
use borrow.Author.Tests.{lt-ltb, le-ltb, le-leb, lt-leb, ne_eqb, eq-eqb}
use Rattle.lists.proofs.Laws.{both}
use Rattle.lists.specs.Tests.{within, all_of}
use Rattle.punycode.specs.Decoding.{Dec, reading, octets, mark, last_delimiter, label, decode}
use Rattle.punycode.specs.Punycode.{nearer, alnum, Enc, add, below, initial, least, passes, extended, delimiter, encode}
use Rattle.punycode.proofs.Insertion.{between, Inv, length_below, points_inv}
use Rattle.punycode.proofs.Reading.{split}

-- ---- the minimum

nearer_is : (n c m : ℕ) → n ≤ m → (n ≤ nearer n c m) × (nearer n c m ≤ m) × (n ≤ c → nearer n c m ≤ c)
unfolding nearer
nearer_is n c m h = split c n
    (λ l. rw (lt-leb n c l) (h, omega arith, λ g. omega arith))
    (λ g. split c m
    (λ l. rw (le-leb n c g, lt-ltb c m l) (g, omega arith, λ e. omega arith))
    (λ k. rw (le-leb n c g, le-ltb c m k) (h, omega arith, λ e. omega arith)))

below_cons : (n m c : ℕ) (l : List ℕ) → n ≤ m → (n ≤ c → m ≤ c) → below m l ≡ below n l → below m (c ∷ l) ≡ below n (c ∷ l)
unfolding below
below_cons n m c l h k e = split c n
    (λ x. rw (lt-ltb c n x, lt-ltb c m (omega arith), e))
    (λ x. let y = k x in rw (le-ltb c n x, le-ltb c m y, e))

-- r is the least of l from n on, but at most m
pub record Least (n : ℕ) (l : List ℕ) (m r : ℕ) : Type 0 where
  pub low : n ≤ r
  pub high : r ≤ m
  pub same : below r l ≡ below n l

least_step : (n c : ℕ) (l : List ℕ) (m r : ℕ) → n ≤ m → Least n l (nearer n c m) r → Least n (c ∷ l) m r
least_step n c l m r h v =
    let x = nearer_is n c m h in
    record { low = v.low; high = omega arith; same = below_cons n r c l v.low (λ g. let y = x.2 g in omega arith) v.same }

pub least_is : (n : ℕ) (l : List ℕ) (m : ℕ) → n ≤ m → Least n l m (least n l m)
unfolding least
least_is n [] m h = record { low = h; high = omega arith; same = unfold below in refl }
least_is n (c ∷ l) m h = least_step n c l m _ h (least_is n l (nearer n c m) (nearer_is n c m h).0)

-- while fewer than all are below n, there is one from n on
pub least_under : (l : List ℕ) → below 0x110000 l ≡ l → (n h : ℕ) → n ≤ 0x110000 → h ≡ length (below n l) → h < length l → least n l 0x110000 < 0x110000
least_under l bounded n h g count x =
    let m = least n l 0x110000 in
    let w = least_is n l 0x110000 g in
    split m 0x110000 (λ y. y)
    (λ y. let e : m ≡ 0x110000 = omega arith in
    absurd (omega (arith, ap length w.same, ap (λ (z : ℕ). length (below z l)) e, ap length bounded)))

-- ---- all of the label is below n where as many are

below_all : (n : ℕ) (l : List ℕ) → length l ≤ length (below n l) → below n l ≡ l
unfolding below
below_all n [] h = refl
below_all n (c ∷ l) h = split c n
    (λ x. let h' : length l ≤ length (below n l) = omega (arith, rw (lt-ltb c n x) at h) in rw (lt-ltb c n x, below_all n l h'))
    (λ x. absurd (omega (arith, rw (le-ltb c n x) at h, length_below n l)))

-- ---- the outer loop

module _ (start : Dec) (b : ℕ) (l : List ℕ) (few : length l ≤ 63) (bounded : below 0x110000 l ≡ l) where
  -- to the least code point from n on
  rise : (n m : ℕ) (s : Enc) → n ≤ m → below m l ≡ below n l → Inv start b n [] l s → Inv start b m [] l (add ((m - n) * (s.h + 1)) s)
  unfolding add
  rise n m s h e v = record {
    n = v.n;
    k = v.k + (m - n);
    i = v.i;
    reads = rw e v.reads;
    count = rw e v.count;
    steps = rw add-mul (omega (arith, v.steps));
    level = omega (arith, v.level);
    first = v.first;
    more = v.more;
    clean = v.clean;
  }

  -- past the last code point that is m
  wrap : (m : ℕ) (s : Enc) → Inv start b m (below (m + 1) l) [] s → Inv start b (m + 1) [] l (add 1 s)
  unfolding add below
  wrap m s v =
      let count' : s.h ≡ length (below (m + 1) l) = rw append-nil at v.count in
      record {
        n = v.n;
        k = v.k + 1;
        i = v.i;
        reads = rw append-nil at v.reads;
        count = count';
        steps = rw add-mul (omega (arith, v.steps));
        level = omega (arith, v.level);
        first = v.first;
        more = v.more;
        clean = v.clean;
      }

  -- the decoder has the label
  pub record Has (out : List ℕ) : Type 0 where
    pub n : ℕ
    pub i : ℕ
    pub bias : ℕ
    pub reads : octets out start ≡ between n i bias l
    pub clean : all_of alnum out ≡ true

  has : (n : ℕ) (s : Enc) → below n l ≡ l → Inv start b n [] l s → Has s.out
  has n s e v = record { n = v.n; i = v.i; bias = s.bias; reads = rw e at v.reads; clean = v.clean }

  pass : (f n : ℕ) (s : Enc) → 0x110000 ≤ n + suc f → n ≤ 0x110000 → Inv start b n [] l s
      → ((n' : ℕ) (s' : Enc) → 0x110000 ≤ n' + f → n' ≤ 0x110000 → Inv start b n' [] l s' → Has (passes f l b n' s').out)
      → Has (passes (suc f) l b n s).out
  unfolding passes
  pass f n s h g v next = split s.h (length l)
      (λ x.
      let m = least n l 0x110000 in
      let w = least_is n l 0x110000 g in
      let under = least_under l bounded n s.h g v.count x in
      rw (lt-ltb s.h (length l) x)
      (next (m + 1) _ (omega arith) (omega arith) (wrap m _ (points_inv start b m under l [] _ (omega arith) (rise n m s w.low w.same v)))))
      (λ x. rw (le-ltb s.h (length l) x) (has n s (below_all n l (omega (arith, v.count))) v))

  passes_has : (f n : ℕ) (s : Enc) → 0x110000 ≤ n + f → n ≤ 0x110000 → Inv start b n [] l s → Has (passes f l b n s).out
  unfolding passes
  passes_has zero n s h g v = let e : n ≡ 0x110000 = omega arith in has n s (rw e bounded) v
  passes_has (suc f) n s h g v = pass f n s h g v (passes_has f)

-- ---- where the decoder starts

unfoldable pub first_dec : List ℕ → Dec
first_dec l = reading 128 72 (below 128 l) 0 0 1 36

-- ---- the last delimiter

no_delimiter : (j r : ℕ) (xs : List ℕ) → all_of alnum xs ≡ true → last_delimiter j r xs ≡ r
unfolding last_delimiter mark all_of
no_delimiter j r [] h = refl
no_delimiter j r (c ∷ xs) h =
    let e = both (alnum c) (all_of alnum xs) h in
    rw (ne_eqb c 45 (λ x. unfold alnum within in false≢true (rw x at e.0))) (no_delimiter (j + 1) r xs e.1)

the_delimiter : (j r : ℕ) (xs ys : List ℕ) → all_of alnum ys ≡ true → last_delimiter j r (xs ++ 45 ∷ ys) ≡ j + length xs + 1
unfolding last_delimiter mark
the_delimiter j r [] ys h = no_delimiter (j + 1) (j + 1) ys h ∙ omega arith
the_delimiter j r (c ∷ xs) ys h = the_delimiter (j + 1) (mark c j r) xs ys h ∙ omega arith

one_delimiter : (c : ℕ) (bs ext : List ℕ) → (c ∷ bs) ++ delimiter (length (c ∷ bs)) ++ ext ≡ (c ∷ bs) ++ 45 ∷ ext
unfolding delimiter
one_delimiter c bs ext = rw (ne_eqb (suc (length bs)) 0 (omega arith)) (append_snoc (c ∷ bs) 45 ext)

-- ---- the round trip

module _ (l : List ℕ) where
  decode_basic : (bs ext : List ℕ) (n i bias : ℕ) → all_of alnum ext ≡ true
      → octets ext (reading 128 72 bs 0 0 1 36) ≡ between n i bias l → decode (bs ++ 45 ∷ ext) ≡ some l
  unfolding decode label
  decode_basic bs ext n i bias a r =
      let k : last_delimiter 0 0 (bs ++ 45 ∷ ext) ≡ length bs + 1 = the_delimiter 0 0 bs ext a ∙ omega arith in
      rw (k, drop-append-add bs (45 ∷ ext) 1, add-sub_cancel (length bs) 1, take-append_seam bs (45 ∷ ext), r)

  decode_parts : (bs ext : List ℕ) (n i bias : ℕ) → all_of alnum ext ≡ true
      → octets ext (reading 128 72 bs 0 0 1 36) ≡ between n i bias l → decode (bs ++ delimiter (length bs) ++ ext) ≡ some l
  unfolding decode delimiter label
  decode_parts [] ext n i bias a r = rw (no_delimiter 0 0 ext a, r)
  decode_parts (c ∷ bs) ext n i bias a r = ap decode (one_delimiter c bs ext) ∙ decode_basic (c ∷ bs) ext n i bias a r

module _ (l : List ℕ) (few : length l ≤ 63) (bounded : below 0x110000 l ≡ l) where
  first_inv : Inv (first_dec l) (length (below 128 l)) 128 [] l (initial l)
  unfolding octets all_of first_dec initial
  first_inv = record {
    n = 128;
    k = 0;
    i = 0;
    reads = refl;
    count = refl;
    steps = omega arith;
    level = refl;
    first = eq-eqb (length (below 128 l)) (length (below 128 l)) refl;
    more = omega arith;
    clean = refl;
  }

  pub extended_has : Has (first_dec l) (length (below 128 l)) l few bounded (extended l)
  unfolding extended
  extended_has = passes_has (first_dec l) (length (below 128 l)) l few bounded 0x110000 128 (initial l) (omega arith) (omega arith) first_inv

  pub decode_encode : decode (encode l) ≡ some l
  unfolding encode first_dec
  decode_encode = let r = extended_has in decode_parts l (below 128 l) (extended l) r.n r.i r.bias r.clean r.reads
