-- The coder's code follows the encoding procedure, of whose output it keeps the first 64 octets: to cut what is cut already, and to write on
-- from there, loses nothing.
-- Assumes nothing.
use mathlib.Core.Path.{◌≡◌, refl, sym, ap, ◌∙◌}
use mathlib.Core.List.{List, [], ◌∷◌, ◌++◌, append_assoc, append-nil}
use Prim.Native.Nat.{ℕ, zero, suc, ◌+◌, ◌-◌, ◌*◌, ◌/◌, ◌%◌, ◌≤◌, ◌<◌}
use native.Mathlib.Nat.{div-le_self, mul-le-mul}
use native.Mathlib.Numerals.{add-one}
use native.Mathlib.Omega.{arith}
use lib.Dec.{eqb}
use lib.ListN.{length, get_or, take, drop, set, get_or-append, length-append, length-take, drop_of_length-le}
use lib.Seq.{drop-cons, get_or-append_seam, take-suc-set, take-append-le, length-take-le, take_all, take-take, append_snoc}
use borrow.Author.Tests.{lt-ltb, le-ltb, ne_eqb, eq-eqb}
use Rattle.lists.proofs.Laws.{no_entries}
use Rattle.punycode.specs.Inner.{Ahead, way, kept, held}
use Rattle.punycode.specs.Order.{due, run, first, Climbs, step}
use Rattle.punycode.specs.Punycode.{adapt_loop, adapt, threshold, digit, varint, Enc, emit, below, delimiter, extended, encode, ace}
use Rattle.punycode.specs.declared.coder.State.{State}
use Rattle.punycode.proofs.Keys.{below_append, one_basic, no_basic}
use Rattle.punycode.proofs.Reading.{split}

-- ---- the first 64 octets

clip_append : (xs ys : List ℕ) → take 64 (take 64 xs ++ ys) ≡ take 64 (xs ++ ys)
clip_append xs ys = split (length xs) 64
    (λ l. rw (take_all 64 xs (omega arith)))
    (λ g. rw (take-append-le 64 (take 64 xs) ys (omega (arith, length-take-le 64 xs g)), take-append-le 64 xs ys g, take-take 64 64 xs (omega arith)))

-- 63 octets or fewer are the whole
pub whole : (x t : List ℕ) → t ≡ take 64 x → length t ≤ 63 → t ≡ x
whole x t e h = split (length x) 64 (λ l. e ∙ take_all 64 x (omega arith)) (λ g. absurd (omega (arith, ap length e, length-take 64 x)))

pub store_is : (out : List ℕ) (at c : ℕ) → at < length out → take (at + 1) (set out at c) ≡ take at out ++ (c ∷ [])
store_is out at c h = rw (add-one at, take-suc-set out at c h)

module _ (out : List ℕ) (at c : ℕ) (e : length out ≡ 64) where
  pub clip_put : at < 64 → take (at + 1) (set out at c) ≡ take 64 (take at out ++ (c ∷ []))
  clip_put h =
      let n = length-take-le at out (omega arith) in
      store_is out at c (omega arith) ∙ sym (take_all 64 (take at out ++ (c ∷ [])) (omega (arith, length-append (take at out) (c ∷ []), n)))

  pub clip_full : at ≤ 64 → 64 ≤ at → take at out ≡ take 64 (take at out ++ (c ∷ []))
  clip_full h k =
      let n = length-take-le at out (omega arith) in
      sym (take-append-le 64 (take at out) (c ∷ []) (omega arith) ∙ take_all 64 (take at out) (omega arith))

-- ---- the loop of the bias

pub adapt_next : (f k d : ℕ) → d ≤ f → 455 < d → (g : ℕ) × (d / 35 ≤ g) × (adapt_loop f k d ≡ adapt_loop g (k + 36) (d / 35))
unfolding adapt_loop
adapt_next zero k d h l = absurd (omega arith)
adapt_next (suc f) k d h l = (f, omega arith, rw (lt-ltb 455 d l))

pub adapt_end : (f k d : ℕ) → d ≤ 455 → adapt_loop f k d ≡ k + 36 * d / (d + 38)
unfolding adapt_loop
adapt_end zero k d l = refl
adapt_end (suc f) k d l = rw (le-ltb 455 d l)

-- ---- the loop of an integer

varint_next : (f bias k q t : ℕ) → q < f → t ≡ threshold k bias → 1 ≤ t → t ≤ q
    → (g : ℕ) × ((q - t) / (36 - t) < g) × (varint f bias k q ≡ digit (t + (q - t) % (36 - t)) ∷ varint g bias (k + 36) ((q - t) / (36 - t)))
unfolding varint
varint_next zero bias k q t h e l g = absurd (omega arith)
varint_next (suc f) bias k q t h e l g = (f, omega (arith, div-le_self (q - t) (36 - t)), rw (← e, le-ltb q t g))

varint_end : (f bias k q t : ℕ) → q < f → t ≡ threshold k bias → q < t → varint f bias k q ≡ digit q ∷ []
unfolding varint
varint_end zero bias k q t h e l = absurd (omega arith)
varint_end (suc f) bias k q t h e l = rw (← e, lt-ltb q t l)

-- a turn of the loop that writes an integer, and what follows the loop: to `b` the digit d is added
module _ (f bias k q t : ℕ) (b total : List ℕ) (enough : q < f) (is : t ≡ threshold k bias) (all : take 64 (b ++ varint f bias k q) ≡ total) where
  pub varint_turn : 1 ≤ t → t ≤ q → (d : ℕ) (a : List ℕ) → d ≡ digit (t + (q - t) % (36 - t)) → a ≡ take 64 (b ++ (d ∷ []))
      → (g : ℕ) × ((q - t) / (36 - t) < g) × (take 64 (a ++ varint g bias (k + 36) ((q - t) / (36 - t))) ≡ total)
  varint_turn l h d a e w =
      let g = varint_next f bias k q t enough is l h in
      (g.0, g.1, rw (w, clip_append, append_snoc, e, ← g.2) all)

  pub varint_last : q < t → (d : ℕ) (a : List ℕ) → d ≡ digit q → a ≡ take 64 (b ++ (d ∷ [])) → a ≡ total
  varint_last l d a e w = rw (w, e, ← varint_end f bias k q t enough is l) all

-- ---- the coder's state

pub emit_held : (s : State) (text : List ℕ) (b key : ℕ) (s' : State) (text' : List ℕ) (d : ℕ) → d ≡ way s key → s'.h ≡ s.h + 1
    → s'.bias ≡ adapt d (s.h + 1) (eqb s.h b) → text' ≡ take 64 (text ++ varint (suc d) s.bias 36 d)
    → held s' text' ≡ kept [] (emit b (due (way s key) (held s text)))
unfolding held kept emit due
emit_held s text b key s' text' d e h p q = rw (h, p, q, e)

-- ---- the keys go on from what is kept as from the whole

due_kept : (p : List ℕ) (b d : ℕ) (s : Enc) → kept [] (emit b (due d (kept p s))) ≡ kept p (emit b (due d s))
unfolding emit kept due
due_kept p b d s = rw (clip_append, append_assoc)

run_kept : (p : List ℕ) (b : ℕ) (xs : List ℕ) (n i : ℕ) (s : Enc) → take 64 (run b xs n i (kept p s)) ≡ take 64 (p ++ run b xs n i s)
unfolding run kept
run_kept p b [] n i s = take-take 64 64 (p ++ s.out) (omega arith)
run_kept p b (x ∷ xs) n i s =
    let d = (x / 64 - n) * (s.h + 1) + x % 64 - i in
    sym (run_kept [] b xs (x / 64) (x % 64 + 1) (emit b (due d (kept p s))))
    ∙ ap (λ e. take 64 (run b xs (x / 64) (x % 64 + 1) e)) (due_kept p b d s)
    ∙ run_kept p b xs (x / 64) (x % 64 + 1) (emit b (due d s))

-- ---- the loop over the keys

pub run_first : (p : List ℕ) (b : ℕ) (keys : List ℕ) → take 64 p ≡ p
    → take 64 (run b keys 128 0 (record { delta = 0; bias = 72; h = b; out = p })) ≡ take 64 (p ++ run b keys 128 0 (first b))
unfolding kept first
run_first p b keys e = ap (λ (x : List ℕ). take 64 (run b keys 128 0 (record { delta = 0; bias = 72; h = b; out = x }))) (sym (rw append-nil e)) ∙ run_kept p b keys 128 0 (first b)

pub delta_fits : (x n h : ℕ) → x < 0x4400000 → h < 63 → (x / 64 - n) * (h + 1) + x % 64 < 0x4400000
delta_fits x n h l g = omega (arith, mul-le-mul {n₁ = x / 64 - n} {m₁ = h + 1} {n₂ = 0x10FFFF} {m₂ = 63} (omega arith) (omega arith))

module _ (b : ℕ) (keys : List ℕ) (j n i : ℕ) (s : Enc) where
  pub climbs_next : j < length keys → Climbs n i s.h (drop j keys) → let x = get_or keys j 0 in
      (n ≤ x / 64) × (i ≤ (x / 64 - n) * (s.h + 1) + x % 64) × (x < 0x4400000) × Climbs (x / 64) (x % 64 + 1) (s.h + 1) (drop (j + 1) keys)
  climbs_next h v = rw (add-one j) (go (rw (drop-cons keys j 0 h) at v))
    where
      go : {x : ℕ} {xs : List ℕ} → Climbs n i s.h (x ∷ xs) → (n ≤ x / 64) × (i ≤ (x / 64 - n) * (s.h + 1) + x % 64) × (x < 0x4400000) × Climbs (x / 64) (x % 64 + 1) (s.h + 1) xs
      go (step p q r w) = (p, q, r, w)

  pub run_next : (e : Enc) (total : List ℕ) → j < length keys
      → e ≡ kept [] (emit b (due ((get_or keys j 0 / 64 - n) * (s.h + 1) + get_or keys j 0 % 64 - i) s)) → take 64 (run b (drop j keys) n i s) ≡ total
      → take 64 (run b (drop (j + 1) keys) (get_or keys j 0 / 64) (get_or keys j 0 % 64 + 1) e) ≡ total
  unfolding run
  run_next e total h p q = rw (p, run_kept, add-one j) (rw (drop-cons keys j 0 h) at q)

  -- of the last key only the integer is asked
  pub run_last : (total : List ℕ) → j + 1 ≡ length keys → let d = (get_or keys j 0 / 64 - n) * (s.h + 1) + get_or keys j 0 % 64 - i in
      take 64 (run b (drop j keys) n i s) ≡ total → take 64 (s.out ++ varint (suc d) s.bias 36 d) ≡ total
  unfolding run emit due
  run_last total h q = rw (drop-cons keys j 0 (omega arith), drop_of_length-le keys {i = suc j} (omega arith)) at q

-- the coder's loop is at the key j: of what is written, `total` are the first 64 octets
pub record Running (b : ℕ) (keys : List ℕ) (total : List ℕ) (j : ℕ) (s : State) (text : List ℕ) : Type 0 where
  pub count : s.h ≡ b + j
  pub climbs : Climbs s.n s.i s.h (drop j keys)
  pub writes : take 64 (run b (drop j keys) s.n s.i (held s text)) ≡ total

module _ (b : ℕ) (keys : List ℕ) where
  pub running_first : (text : List ℕ) → length text ≤ 64 → Climbs 128 0 b keys
      → Running b keys (take 64 (text ++ run b keys 128 0 (first b))) 0 (record { n = 128; i = 0; bias = 72; h = b }) text
  unfolding held
  running_first text h v = record { count = omega arith; climbs = v; writes = run_first text b keys (take_all 64 text h) }

  pub running_none : (text : List ℕ) → length text ≤ 64 → length keys ≡ 0 → text ≡ take 64 (text ++ run b keys 128 0 (first b))
  unfolding run first
  running_none text h e = rw (no_entries keys e, append-nil) (sym (take_all 64 text h))

  module _ (few : b + length keys ≤ 63) (total : List ℕ) (j : ℕ) (s : State) (text : List ℕ) (v : Running b keys total j s text) where
    pub running_ahead : j < length keys → Ahead s (get_or keys j 0)
    unfolding held
    running_ahead h =
        let k = climbs_next b keys j s.n s.i (held s text) h v.climbs in
        record { value = k.0; place = k.1; top = k.2; few = omega (arith, v.count) }

    pub running_next : j < length keys → (s' : State) (text' : List ℕ) → s'.n ≡ get_or keys j 0 / 64 → s'.i ≡ get_or keys j 0 % 64 + 1 → s'.h ≡ s.h + 1
        → held s' text' ≡ kept [] (emit b (due (way s (get_or keys j 0)) (held s text))) → Running b keys total (j + 1) s' text'
    unfolding held way
    running_next h s' text' p q r e =
        let k = climbs_next b keys j s.n s.i (held s text) h v.climbs in
        record {
          count = omega (arith, v.count);
          climbs = rw (p, q, r) k.3;
          writes = rw (p, q) (run_next b keys j s.n s.i (held s text) _ _ h e v.writes);
        }

    pub running_last : j + 1 ≡ length keys → (d : ℕ) (text' : List ℕ) → d ≡ way s (get_or keys j 0) → text' ≡ take 64 (text ++ varint (suc d) s.bias 36 d) → text' ≡ total
    unfolding held way
    running_last h d text' e w = w ∙ rw e (run_last b keys j s.n s.i (held s text) _ h v.writes)

-- ---- the last key and the others

module _ (keys rest : List ℕ) (last : ℕ) (is : keys ≡ rest ++ (last ∷ [])) where
  pub other_key : (j : ℕ) → j < length rest → get_or rest j 0 ≡ get_or keys j 0
  other_key j h = sym (ap (λ (x : List ℕ). get_or x j 0) is ∙ get_or-append rest (last ∷ []) 0 j h)

  pub last_key : (j : ℕ) → j ≡ length rest → last ≡ get_or keys j 0
  last_key j e = sym (ap (λ (x : List ℕ). get_or x j 0) is ∙ rw e (get_or-append_seam rest last [] 0))

-- ---- the basic code points

-- the loop is at j: `text` is written, of what the whole loop writes after p
module _ (p l : List ℕ) (j : ℕ) (text : List ℕ) (v : take 64 (text ++ below 128 (drop j l)) ≡ take 64 (p ++ below 128 l)) where
  module _ (h : j < length l) where
    here : below 128 (drop j l) ≡ below 128 (get_or l j 0 ∷ []) ++ below 128 (drop (j + 1) l)
    here = rw (drop-cons l j 0 h, add-one j) (below_append 128 (get_or l j 0 ∷ []) (drop (suc j) l))

    pub basics_put : get_or l j 0 < 128 → (text' : List ℕ) → text' ≡ take 64 (text ++ (get_or l j 0 ∷ []))
        → take 64 (text' ++ below 128 (drop (j + 1) l)) ≡ take 64 (p ++ below 128 l)
    basics_put x text' r = let e = rw (one_basic (get_or l j 0) x) at here in rw (r, clip_append, append_assoc, ← e) v

    pub basics_pass : 128 ≤ get_or l j 0 → take 64 (text ++ below 128 (drop (j + 1) l)) ≡ take 64 (p ++ below 128 l)
    basics_pass x = rw (here, no_basic (get_or l j 0) x) at v

  pub basics_end : (b : ℕ) (text' : List ℕ) → length l ≤ j → (b ≡ 0 → ⊥) → text' ≡ take 64 (text ++ (45 ∷ [])) → text' ≡ take 64 (p ++ below 128 l ++ delimiter b)
  unfolding below delimiter
  basics_end b text' h z r =
      let e : below 128 (drop j l) ≡ [] = rw (drop_of_length-le l h) in
      let q : take 64 text ≡ take 64 (p ++ below 128 l) = rw (e, append-nil) at v in
      r ∙ sym (clip_append text _) ∙ rw (q, clip_append, ne_eqb b 0 z)

pub basics_none : (p l out : List ℕ) (b : ℕ) → b ≡ length (below 128 l) → b ≡ 0 → out ≡ take 64 p → out ≡ take 64 (p ++ below 128 l ++ delimiter b)
unfolding delimiter
basics_none p l out b h z q = let e = no_entries (below 128 l) (omega arith) in rw (q, e, eq-eqb b 0 z) (simp append-nil)

-- ---- the whole

pub ace_is : (l p bs out : List ℕ) → p ≡ 120 ∷ 110 ∷ 45 ∷ 45 ∷ [] → bs ≡ take 64 (p ++ below 128 l ++ delimiter (length (below 128 l)))
    → out ≡ take 64 (bs ++ extended l) → out ≡ take 64 (ace l)
unfolding ace encode
ace_is l p bs out e f h = rw (h, f, clip_append, e)
