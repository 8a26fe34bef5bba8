-- What `first_code` and `read_name` read, on plain lists: a value of one byte or of three; and so the encoding of what was written.
-- Assumes nothing.
use mathlib.Core.Path.{◌≡◌, refl, sym, ap, ◌∙◌}
use mathlib.Core.Bool.{Bool, true, false, not, ◌||◌}
use mathlib.Core.List.{List, [], ◌∷◌, ◌++◌, append_assoc, append-nil}
use Prim.Native.Nat.{ℕ, suc, ◌+◌, ◌-◌, ◌*◌, ◌%◌, ◌≤◌, ◌<◌, min}
use native.Mathlib.Numerals.{add-one}
use native.Mathlib.Omega.{arith}
use lib.Dec.{eqb, leb, ltb}
use lib.ListN.{length, take, drop, set, get_or, length-append, length-take, take-append-drop}
use lib.Seq.{take_all, take-suc-set, take_at, get_or-append-add}
use borrow.Author.Tests.{eqb-false, ltb-false, le-leb, not-true}
use Rattle.lists.specs.Tests.{within, all_of}
use Rattle.lists.proofs.Laws.{both, inside, in_range, all_append}
use Rattle.utf8.specs.Utf8.{scalar, encode, encodes}
use Rattle.answer.specs.Usual.{leads_three, has_no_controls, FirstCode, Reads}
use Rattle.utf8.proofs.Encoding.{enc1, enc_three, small_scalar, exactly}

encodes_more : (cs : List ℕ) (c : ℕ) → encodes (cs ++ c ∷ []) ≡ encodes cs ++ encode c
unfolding encodes
encodes_more [] c = append-nil (encode c)
encodes_more (a ∷ cs) c = ap (λ (l : List ℕ). encode a ++ l) (encodes_more cs c) ∙ sym (append_assoc (encode a) (encodes cs) (encode c))

module _ (a : ℕ) (w : leads_three a ≡ true) where
  parts : (not (eqb a 0xED) ≡ true) × (within 0xE1 0xEF a ≡ true)
  unfolding leads_three
  parts = both (not (eqb a 0xED)) (within 0xE1 0xEF a) w

  first_range : (0xE1 ≤ a) × (a ≤ 0xEF)
  first_range = in_range 0xE1 0xEF a parts.1

  first_scalar : (y z v : ℕ) → v ≡ ((a - 0xE0) * 64 + y) * 64 + z → y < 64 → z < 64 → scalar v ≡ true
  unfolding scalar
  first_scalar y z v e p q = go (ltb v 0xD800) refl
    where
      go : (b : Bool) → ltb v 0xD800 ≡ b → b || within 0xE000 0x10FFFF v ≡ true
      go true k = refl
      go false k =
          let n = eqb-false a 0xED (not-true (eqb a 0xED) parts.0) in
          let l = ltb-false v 0xD800 k in
          inside 0xE000 0x10FFFF v (omega (arith, first_range)) (omega (arith, first_range))

-- ---- a code point

module _ {a : ℕ} (rest : List ℕ) where
  pub one : a < 0x80 → 0x20 ≤ a → FirstCode (a ∷ rest) a rest
  unfolding all_of
  one p q =
      let b : encode a ≡ a ∷ [] = enc1 a p in
      record { bytes = rw b; no_controls = rw (b, le-leb 0x20 a q); scalar = small_scalar a [] p; shorter = omega arith }

  pub three : {b c : ℕ} → leads_three a ≡ true → within 0x80 0xBF b ≡ true → within 0x80 0xBF c ≡ true
      → FirstCode (a ∷ b ∷ c ∷ rest) (a % 16 * 4096 + b % 64 * 64 + c % 64) rest
  unfolding all_of
  three {b} {c} wa wb wc =
      let ra = first_range a wa in
      let rb = in_range 0x80 0xBF b wb in
      let rc = in_range 0x80 0xBF c wc in
      let v : ℕ = a % 16 * 4096 + b % 64 * 64 + c % 64 in
      let x : ℕ = a - 0xE0 in
      let y : ℕ = b - 0x80 in
      let z : ℕ = c - 0x80 in
      let mx : a % 16 ≡ x = omega (arith, ra) in
      let my : b % 64 ≡ y = omega (arith, rb) in
      let mz : c % 64 ≡ z = omega (arith, rc) in
      let ev : v ≡ (x * 64 + y) * 64 + z = rw (mx, my, mz) (omega arith) in
      let ex : 0xE0 + x ≡ a = omega (arith, ra) in
      let ey : 0x80 + y ≡ b = omega (arith, rb) in
      let ez : 0x80 + z ≡ c = omega (arith, rc) in
      let bytes : encode v ≡ a ∷ b ∷ c ∷ [] =
      ap encode ev ∙ enc_three x y 0 z [] (omega (arith, rb)) (omega arith) (omega (arith, rc)) (omega (arith, ra)) (omega (arith, ra)) ∙ cc (ex, ey, ez) in
      record {
        bytes = rw bytes;
        no_controls = rw (bytes, le-leb 0x20 a (omega (arith, ra)), le-leb 0x20 b (omega (arith, rb)), le-leb 0x20 c (omega (arith, rc)));
        scalar = first_scalar a wa y z v ev (omega (arith, rb)) (omega (arith, rc));
        shorter = omega arith;
      }

-- .. of s, as its bytes are read
module _ (s : List ℕ) {v : ℕ} where
  pub one_of : 0 < length s → v ≡ get_or s 0 0 → 0x20 ≤ get_or s 0 0 → get_or s 0 0 < 0x80 → FirstCode s v (take (length s - 1) (drop 1 s))
  one_of = go s
    where
      go : (s : List ℕ) → 0 < length s → v ≡ get_or s 0 0 → 0x20 ≤ get_or s 0 0 → get_or s 0 0 < 0x80 → FirstCode s v (take (length s - 1) (drop 1 s))
      go [] h e p q = absurd (omega arith)
      go (x ∷ xs) h e p q = rw (e, take_all (suc (length xs) - 1) xs (omega arith)) (one xs q p)

  pub three_of : 3 ≤ length s → v ≡ get_or s 0 0 % 16 * 4096 + get_or s 1 0 % 64 * 64 + get_or s 2 0 % 64
      → leads_three (get_or s 0 0) ≡ true → within 0x80 0xBF (get_or s 1 0) ≡ true → within 0x80 0xBF (get_or s 2 0) ≡ true
      → FirstCode s v (take (length s - 3) (drop 3 s))
  three_of = go s
    where
      go : (s : List ℕ) → 3 ≤ length s → v ≡ get_or s 0 0 % 16 * 4096 + get_or s 1 0 % 64 * 64 + get_or s 2 0 % 64
          → leads_three (get_or s 0 0) ≡ true → within 0x80 0xBF (get_or s 1 0) ≡ true → within 0x80 0xBF (get_or s 2 0) ≡ true
          → FirstCode s v (take (length s - 3) (drop 3 s))
      go [] h e p q r = absurd (omega arith)
      go (x ∷ []) h e p q r = absurd (omega arith)
      go (x ∷ y ∷ []) h e p q r = absurd (omega arith)
      go (x ∷ y ∷ z ∷ xs) h e p q r = rw (e, take_all (suc (suc (suc (length xs))) - 3) xs (omega arith)) (three xs p q r)

first_stays : (xs ys : List ℕ) → 1 ≤ length xs → get_or (xs ++ ys) 0 0 ≡ get_or xs 0 0
first_stays [] ys h = absurd (omega arith)
first_stays (x ∷ xs) ys h = refl

-- ---- the loop: what was read of the first bytes of s, of which `rest` is left, is the encoding of the first n values

pub record Seen (s out : List ℕ) (reach n : ℕ) (rest : List ℕ) : Type 0 where
  pub read : List ℕ
  pub parts : s ≡ read ++ (rest ++ drop reach s)
  pub long : length read + length rest ≡ reach
  pub few : n ≤ length read
  pub no_controls : has_no_controls read ≡ true
  pub good : all_of scalar (take n out) ≡ true
  pub same : read ≡ encodes (take n out)

pub begins : (s out : List ℕ) {reach : ℕ} → reach ≡ min (length s) 64 → Seen s out reach 0 (take reach s)
unfolding all_of encodes
begins s out {reach} e =
    record { read = []; parts = sym (take-append-drop reach s); long = omega (arith, length-take reach s); few = omega arith; no_controls = refl; good = refl; same = refl }

module _ {s out : List ℕ} {reach n : ℕ} {rest : List ℕ} (k : Seen s out reach n rest) where
  pub more : {code : ℕ} {after : List ℕ} → n < length out → FirstCode rest code after → Seen s (set out n code) reach (n + 1) after
  unfolding all_of
  more {code} {after} room c =
      let codes : take (n + 1) (set out n code) ≡ take n out ++ code ∷ [] = rw add-one (take-suc-set out n code room) in
      let long : length rest ≡ length (encode code) + length after = ap length c.bytes ∙ length-append (encode code) after in
      record {
        read = k.read ++ encode code;
        parts =
            k.parts ∙ ap (λ (l : List ℕ). k.read ++ (l ++ drop reach s)) c.bytes ∙ ap (λ (l : List ℕ). k.read ++ l) (append_assoc (encode code) after (drop reach s))
            ∙ sym (append_assoc k.read (encode code) (after ++ drop reach s));
        long = omega (arith, length-append k.read (encode code), long, k.long);
        few = omega (arith, length-append k.read (encode code), long, c.shorter, k.few);
        no_controls = rw (all_append (leb 0x20) k.read (encode code), k.no_controls) c.no_controls;
        good = rw (codes, all_append scalar (take n out) (code ∷ []), k.good, c.scalar);
        same = rw codes (ap (λ (l : List ℕ). l ++ encode code) k.same ∙ sym (encodes_more (take n out) code));
      }

  -- an LF ends the name
  pub ends : 1 ≤ length rest → get_or rest 0 0 ≡ 0x0A → reach ≡ min (length s) 64 → {e : ℕ} → e ≡ reach - length rest → Reads s out (record { count = n; end = e })
  ends h l m {e} d =
      let w : length k.read ≡ e = omega (arith, k.long) in
      let z : e ≡ length k.read + 0 = omega (arith, w) in
      let t : take e s ≡ k.read = ap (take e) k.parts ∙ take_at k.read (rest ++ drop reach s) e w in
      record {
        inside = omega (arith, k.long);
        ends =
            ap (λ (x : List ℕ). get_or x e 0) k.parts ∙ ap (λ (i : ℕ). get_or (k.read ++ (rest ++ drop reach s)) i 0) z
            ∙ get_or-append-add k.read (rest ++ drop reach s) 0 0 ∙ first_stays rest (drop reach s) h ∙ l;
        no_controls = rw t k.no_controls;
        few = omega (arith, w, k.few);
        text = rw t ((exactly k.read (take n out)).1 (k.same, k.good));
      }
