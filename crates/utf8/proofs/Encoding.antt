-- Decoding is the inverse of encoding, both ways: a scalar value is read back digit by digit, and bytes that are read without a
-- fault begin with the encoding of the code point that was read.
-- Assumes nothing.
use mathlib.Core.Path.{◌≡◌, refl, sym, ap, ◌∙◌}
use mathlib.Core.Bool.{Bool, true, false, false≢true}
use mathlib.Core.List.{List, [], ◌∷◌, ◌++◌}
use mathlib.Core.Logic.{⊎_elim}
use Prim.Native.Nat.{ℕ, zero, suc, ◌+◌, ◌-◌, ◌*◌, ◌/◌, ◌%◌, ◌≤◌, ◌<◌}
use native.Mathlib.Omega.{arith}
use lib.Dec.{leb, ltb}
use lib.ListN.{length, length-append}
use borrow.Author.Tests.{lt-ltb, le-ltb, le-leb, ltb-true, leb-true}
use Rattle.lists.specs.Tests.{pick, within, all_of}
use Rattle.lists.proofs.Laws.{both, by_test, inside, in_range, lt_or_le}
use Rattle.utf8.specs.Utf8.{scalar, encode, encodes, Text, put, fault, proper, decode_from, decoded}

proper_is : (least v : ℕ) → least ≤ v → scalar v ≡ true → proper least v ≡ true
unfolding proper
proper_is least v p q = rw (le-leb least v p) q

-- ---- a continuation byte

module _ (least acc l : ℕ) (h : l < 64) (s : List ℕ) where
  last : proper least (acc * 64 + l) ≡ true → decode_from 1 least acc ((0x80 + l) ∷ s) ≡ put (acc * 64 + l) (decoded s)
  unfolding decode_from
  last w =
      let e : 0x80 + l - 0x80 ≡ l = omega arith in
      rw (inside 0x80 0xBF (0x80 + l) (omega arith) (omega arith), e, w)

  more : (k : ℕ) → decode_from (suc (suc k)) least acc ((0x80 + l) ∷ s) ≡ decode_from (suc k) least (acc * 64 + l) s
  unfolding decode_from
  more k =
      let e : 0x80 + l - 0x80 ≡ l = omega arith in
      rw (inside 0x80 0xBF (0x80 + l) (omega arith) (omega arith), e)

-- ---- a first byte

module _ (b : ℕ) (s : List ℕ) where
  one : b < 0x80 → decoded (b ∷ s) ≡ put b (decoded s)
  unfolding decode_from
  one h = rw (lt-ltb b 0x80 h)

  two : 0xC0 ≤ b → b < 0xE0 → decoded (b ∷ s) ≡ decode_from 1 0x80 (b - 0xC0) s
  unfolding decode_from
  two h g = rw (le-ltb b 0x80 (omega arith), le-ltb b 0xC0 h, lt-ltb b 0xE0 g)

  three : 0xE0 ≤ b → b < 0xF0 → decoded (b ∷ s) ≡ decode_from 2 0x800 (b - 0xE0) s
  unfolding decode_from
  three h g = rw (le-ltb b 0x80 (omega arith), le-ltb b 0xC0 (omega arith), le-ltb b 0xE0 h, lt-ltb b 0xF0 g)

  four : 0xF0 ≤ b → b < 0xF8 → decoded (b ∷ s) ≡ decode_from 3 0x10000 (b - 0xF0) s
  unfolding decode_from
  four h g = rw (le-ltb b 0x80 (omega arith), le-ltb b 0xC0 (omega arith), le-ltb b 0xE0 (omega arith), le-ltb b 0xF0 h, lt-ltb b 0xF8 g)

-- ---- encoding by digits

module _ (c : ℕ) where
  pub enc1 : c < 0x80 → encode c ≡ c ∷ []
  unfolding encode
  enc1 h = rw (lt-ltb c 0x80 h)

  enc2 : 0x80 ≤ c → c < 0x800 → encode c ≡ (0xC0 + c / 64) ∷ (0x80 + c % 64) ∷ []
  unfolding encode
  enc2 h g = rw (le-ltb c 0x80 h, lt-ltb c 0x800 g)

  enc3 : 0x800 ≤ c → c < 0x10000 → encode c ≡ (0xE0 + c / 64 / 64) ∷ (0x80 + c / 64 % 64) ∷ (0x80 + c % 64) ∷ []
  unfolding encode
  enc3 h g = rw (le-ltb c 0x80 (omega arith), le-ltb c 0x800 h, lt-ltb c 0x10000 g)

  enc4 : 0x10000 ≤ c → encode c ≡ (0xF0 + c / 64 / 64 / 64) ∷ (0x80 + c / 64 / 64 % 64) ∷ (0x80 + c / 64 % 64) ∷ (0x80 + c % 64) ∷ []
  unfolding encode
  enc4 h = rw (le-ltb c 0x80 (omega arith), le-ltb c 0x800 (omega arith), le-ltb c 0x10000 h)

-- by the four rows of the table
by_row : (c : ℕ) {G : Type 0} → (c < 0x80 → G) → (0x80 ≤ c → c < 0x800 → G) → (0x800 ≤ c → c < 0x10000 → G) → (0x10000 ≤ c → G) → G
by_row c f g h k =
    ⊎_elim f (λ p. ⊎_elim (g p) (λ q. ⊎_elim (h q) k (lt_or_le c 0x10000)) (lt_or_le c 0x800)) (lt_or_le c 0x80)

some_bytes : (c : ℕ) → 0 < length (encode c)
some_bytes c =
    by_row c (λ h. rw (enc1 c h) (omega arith)) (λ h g. rw (enc2 c h g) (omega arith)) (λ h g. rw (enc3 c h g) (omega arith))
    (λ h. rw (enc4 c h) (omega arith))

-- a scalar value is at most 10FFFF
top : (c : ℕ) → scalar c ≡ true → c ≤ 0x10FFFF
unfolding scalar
top c e = go (ltb c 0xD800) refl (within 0xE000 0x10FFFF c) refl
  where
    go : (x : Bool) → ltb c 0xD800 ≡ x → (y : Bool) → within 0xE000 0x10FFFF c ≡ y → c ≤ 0x10FFFF
    go true p y q = omega (arith, ltb-true c 0xD800 p)
    go false p true q = (in_range 0xE000 0x10FFFF c q).1
    go false p false q = absurd (false≢true (simp (p, q) at e))

-- ---- bytes by digits

module _ (h m n l : ℕ) (s : List ℕ) (pm : m < 64) (pn : n < 64) (pl : l < 64) where
  enc_two : h < 32 → 0x80 ≤ h * 64 + l → encode (h * 64 + l) ≡ (0xC0 + h) ∷ (0x80 + l) ∷ []
  enc_two p q =
      let a : (h * 64 + l) / 64 ≡ h = omega arith in
      let b : (h * 64 + l) % 64 ≡ l = omega arith in
      enc2 (h * 64 + l) q (omega arith) ∙ rw (a, b)

  pub enc_three : h < 16 → 0x800 ≤ (h * 64 + m) * 64 + l → encode ((h * 64 + m) * 64 + l) ≡ (0xE0 + h) ∷ (0x80 + m) ∷ (0x80 + l) ∷ []
  enc_three p q =
      let a : ((h * 64 + m) * 64 + l) / 64 ≡ h * 64 + m = omega arith in
      let b : ((h * 64 + m) * 64 + l) % 64 ≡ l = omega arith in
      let d : (h * 64 + m) / 64 ≡ h = omega arith in
      let e : (h * 64 + m) % 64 ≡ m = omega arith in
      enc3 ((h * 64 + m) * 64 + l) q (omega arith) ∙ rw (a, b, d, e)

  enc_four : 0x10000 ≤ ((h * 64 + m) * 64 + n) * 64 + l
      → encode (((h * 64 + m) * 64 + n) * 64 + l) ≡ (0xF0 + h) ∷ (0x80 + m) ∷ (0x80 + n) ∷ (0x80 + l) ∷ []
  enc_four q =
      let a : (((h * 64 + m) * 64 + n) * 64 + l) / 64 ≡ (h * 64 + m) * 64 + n = omega arith in
      let b : (((h * 64 + m) * 64 + n) * 64 + l) % 64 ≡ l = omega arith in
      let d : ((h * 64 + m) * 64 + n) / 64 ≡ h * 64 + m = omega arith in
      let e : ((h * 64 + m) * 64 + n) % 64 ≡ n = omega arith in
      let f : (h * 64 + m) / 64 ≡ h = omega arith in
      let g : (h * 64 + m) % 64 ≡ m = omega arith in
      enc4 (((h * 64 + m) * 64 + n) * 64 + l) q ∙ rw (a, b, d, e, f, g)

  dec_two : h < 32 → 0x80 ≤ h * 64 + l → scalar (h * 64 + l) ≡ true
      → decoded ((0xC0 + h) ∷ (0x80 + l) ∷ s) ≡ put (h * 64 + l) (decoded s)
  dec_two p q r =
      let z : 0xC0 + h - 0xC0 ≡ h = omega arith in
      two (0xC0 + h) ((0x80 + l) ∷ s) (omega arith) (omega arith) ∙ rw z (last 0x80 h l pl s (proper_is 0x80 _ q r))

  dec_three : h < 16 → 0x800 ≤ (h * 64 + m) * 64 + l → scalar ((h * 64 + m) * 64 + l) ≡ true
      → decoded ((0xE0 + h) ∷ (0x80 + m) ∷ (0x80 + l) ∷ s) ≡ put ((h * 64 + m) * 64 + l) (decoded s)
  dec_three p q r =
      let z : 0xE0 + h - 0xE0 ≡ h = omega arith in
      three (0xE0 + h) ((0x80 + m) ∷ (0x80 + l) ∷ s) (omega arith) (omega arith)
      ∙ rw z (more 0x800 h m pm ((0x80 + l) ∷ s) 0 ∙ last 0x800 (h * 64 + m) l pl s (proper_is 0x800 _ q r))

  dec_four : h < 8 → 0x10000 ≤ ((h * 64 + m) * 64 + n) * 64 + l → scalar (((h * 64 + m) * 64 + n) * 64 + l) ≡ true
      → decoded ((0xF0 + h) ∷ (0x80 + m) ∷ (0x80 + n) ∷ (0x80 + l) ∷ s) ≡ put (((h * 64 + m) * 64 + n) * 64 + l) (decoded s)
  dec_four p q r =
      let z : 0xF0 + h - 0xF0 ≡ h = omega arith in
      four (0xF0 + h) ((0x80 + m) ∷ (0x80 + n) ∷ (0x80 + l) ∷ s) (omega arith) (omega arith)
      ∙ rw z (more 0x10000 h m pm ((0x80 + n) ∷ (0x80 + l) ∷ s) 1 ∙ more 0x10000 (h * 64 + m) n pn ((0x80 + l) ∷ s) 0
      ∙ last 0x10000 ((h * 64 + m) * 64 + n) l pl s (proper_is 0x10000 _ q r))

-- ---- one code point there

there : (c : ℕ) (s : List ℕ) → scalar c ≡ true → decoded (encode c ++ s) ≡ put c (decoded s)
there c s e = by_row c small pair triple quad
  where
    small : c < 0x80 → decoded (encode c ++ s) ≡ put c (decoded s)
    small h = rw (enc1 c h) (one c s h)

    pair : 0x80 ≤ c → c < 0x800 → decoded (encode c ++ s) ≡ put c (decoded s)
    pair h g =
        let z : c / 64 * 64 + c % 64 ≡ c = omega arith in
        rw (enc2 c h g)
        (dec_two (c / 64) 0 0 (c % 64) s (omega arith) (omega arith) (omega arith) (omega arith) (omega arith) (ap scalar z ∙ e)
        ∙ ap (λ (v : ℕ). put v (decoded s)) z)

    triple : 0x800 ≤ c → c < 0x10000 → decoded (encode c ++ s) ≡ put c (decoded s)
    triple h g =
        let z : (c / 64 / 64 * 64 + c / 64 % 64) * 64 + c % 64 ≡ c = omega arith in
        rw (enc3 c h g)
        (dec_three (c / 64 / 64) (c / 64 % 64) 0 (c % 64) s (omega arith) (omega arith) (omega arith) (omega arith) (omega arith) (ap scalar z ∙ e)
        ∙ ap (λ (v : ℕ). put v (decoded s)) z)

    quad : 0x10000 ≤ c → decoded (encode c ++ s) ≡ put c (decoded s)
    quad h =
        let t = top c e in
        let z : ((c / 64 / 64 / 64 * 64 + c / 64 / 64 % 64) * 64 + c / 64 % 64) * 64 + c % 64 ≡ c = omega arith in
        rw (enc4 c h)
        (dec_four (c / 64 / 64 / 64) (c / 64 / 64 % 64) (c / 64 % 64) (c % 64) s (omega arith) (omega arith) (omega arith) (omega arith) (omega arith) (ap scalar z ∙ e)
        ∙ ap (λ (v : ℕ). put v (decoded s)) z)

-- ---- and back

-- s begins with a continuation byte, of which P holds
record Next (s : List ℕ) (P : ℕ → List ℕ → Type 0) : Type 0 where
  digit : ℕ
  rest : List ℕ
  small : digit < 64
  parts : s ≡ (0x80 + digit) ∷ rest
  then : P digit rest

next : (b : ℕ) (s : List ℕ) (P : ℕ → List ℕ → Type 0) → within 0x80 0xBF b ≡ true → P (b - 0x80) s → Next (b ∷ s) P
next b s P e p =
    let r = in_range 0x80 0xBF b e in
    let z : b ≡ 0x80 + (b - 0x80) = omega (arith, r.0) in
    record { digit = b - 0x80; rest = s; small = omega (arith, r.1); parts = ap (λ (x : ℕ). x ∷ s) z; then = p }

proper_parts : (least v : ℕ) → proper least v ≡ true → (least ≤ v) × (scalar v ≡ true)
unfolding proper
proper_parts least v e = let p = both (leb least v) (scalar v) e in (leb-true least v p.0, p.1)

abbrev Fine : ℕ → ℕ → ℕ → List ℕ → Type 0
Fine least acc l rest = (least ≤ acc * 64 + l) × (scalar (acc * 64 + l) ≡ true)

last_back : (least acc : ℕ) (s : List ℕ) → (decode_from 1 least acc s).ok ≡ true → Next s (Fine least acc)
unfolding decode_from
last_back least acc [] e = absurd (false≢true e)
last_back least acc (b ∷ s) e =
    let v : ℕ = acc * 64 + (b - 0x80) in
    by_test (λ x. (pick x (pick (proper least v) (put v (decoded s)) fault) fault).ok ≡ true → Next (b ∷ s) (Fine least acc)) (within 0x80 0xBF b)
    (λ p. by_test (λ y. (pick y (put v (decoded s)) fault).ok ≡ true → Next (b ∷ s) (Fine least acc)) (proper least v)
    (λ r t. next b s (Fine least acc) p (proper_parts least v r)) (λ r t. absurd (false≢true t)))
    (λ p q. absurd (false≢true q)) e

abbrev Onward : ℕ → ℕ → ℕ → ℕ → List ℕ → Type 0
Onward k least acc l rest = (decode_from (suc k) least (acc * 64 + l) rest).ok ≡ true

more_back : (k least acc : ℕ) (s : List ℕ) → (decode_from (suc (suc k)) least acc s).ok ≡ true → Next s (Onward k least acc)
unfolding decode_from
more_back k least acc [] e = absurd (false≢true e)
more_back k least acc (b ∷ s) e =
    by_test (λ x. (pick x (decode_from (suc k) least (acc * 64 + (b - 0x80)) s) fault).ok ≡ true → Next (b ∷ s) (Onward k least acc)) (within 0x80 0xBF b)
    (λ p q. next b s (Onward k least acc) p q) (λ p q. absurd (false≢true q)) e

-- the first code point of s
record First (s : List ℕ) : Type 0 where
  code : ℕ
  rest : List ℕ
  good : scalar code ≡ true
  parts : s ≡ encode code ++ rest

module _ (a : ℕ) (s : List ℕ) where
  back_two : 0xC0 ≤ a → a < 0xE0 → (decode_from 1 0x80 (a - 0xC0) s).ok ≡ true → First (a ∷ s)
  back_two h g e =
      let x = last_back 0x80 (a - 0xC0) s e in
      let l = x.digit in
      let z : a ≡ 0xC0 + (a - 0xC0) = omega arith in
      record {
        code = (a - 0xC0) * 64 + l;
        rest = x.rest;
        good = x.then.1;
        parts = rw (enc_two (a - 0xC0) 0 0 l [] (omega arith) (omega arith) x.small (omega arith) x.then.0) (cc (x.parts, z));
      }

  back_three : 0xE0 ≤ a → a < 0xF0 → (decode_from 2 0x800 (a - 0xE0) s).ok ≡ true → First (a ∷ s)
  back_three h g e =
      let x = more_back 0 0x800 (a - 0xE0) s e in
      let y = last_back 0x800 ((a - 0xE0) * 64 + x.digit) x.rest x.then in
      let z : a ≡ 0xE0 + (a - 0xE0) = omega arith in
      record {
        code = ((a - 0xE0) * 64 + x.digit) * 64 + y.digit;
        rest = y.rest;
        good = y.then.1;
        parts = rw (enc_three (a - 0xE0) x.digit 0 y.digit [] x.small (omega arith) y.small (omega arith) y.then.0) (cc (x.parts, y.parts, z));
      }

  back_four : 0xF0 ≤ a → (decode_from 3 0x10000 (a - 0xF0) s).ok ≡ true → First (a ∷ s)
  back_four h e =
      let x = more_back 1 0x10000 (a - 0xF0) s e in
      let y = more_back 0 0x10000 ((a - 0xF0) * 64 + x.digit) x.rest x.then in
      let w = last_back 0x10000 (((a - 0xF0) * 64 + x.digit) * 64 + y.digit) y.rest y.then in
      let z : a ≡ 0xF0 + (a - 0xF0) = omega arith in
      record {
        code = (((a - 0xF0) * 64 + x.digit) * 64 + y.digit) * 64 + w.digit;
        rest = w.rest;
        good = w.then.1;
        parts = rw (enc_four (a - 0xF0) x.digit y.digit w.digit [] x.small y.small w.small w.then.0) (cc (x.parts, y.parts, w.parts, z));
      }

  pub small_scalar : a < 0x80 → scalar a ≡ true
  unfolding scalar
  small_scalar h = rw (lt-ltb a 0xD800 (omega arith))

  none_low : 0x80 ≤ a → a < 0xC0 → decoded (a ∷ s) ≡ fault
  unfolding decode_from
  none_low h g = rw (le-ltb a 0x80 h, lt-ltb a 0xC0 g)

  none_high : 0xF8 ≤ a → decoded (a ∷ s) ≡ fault
  unfolding decode_from
  none_high h = rw (le-ltb a 0x80 (omega arith), le-ltb a 0xC0 (omega arith), le-ltb a 0xE0 (omega arith), le-ltb a 0xF0 (omega arith), le-ltb a 0xF8 h)

  is_fault : decoded (a ∷ s) ≡ fault → (decoded (a ∷ s)).ok ≡ true → First (a ∷ s)
  is_fault p q = absurd (false≢true (sym (ap (λ (t : Text). t.ok) p) ∙ q))

  first : (decoded (a ∷ s)).ok ≡ true → First (a ∷ s)
  first e = cut 0x80 (λ h. record { code = a; rest = s; good = small_scalar h; parts = rw (enc1 a h) })
      (λ h. cut 0xC0 (λ g. is_fault (none_low h g) e)
      (λ i. cut 0xE0 (λ g. back_two i g (rw (two a s i g) at e))
      (λ j. cut 0xF0 (λ g. back_three j g (rw (three a s j g) at e))
      (λ k. cut 0xF8 (λ g. back_four k (rw (four a s k g) at e)) (λ m. is_fault (none_high m) e)))))
    where
      cut : (n : ℕ) → (a < n → First (a ∷ s)) → (n ≤ a → First (a ∷ s)) → First (a ∷ s)
      cut n f g = ⊎_elim f g (lt_or_le a n)

-- ---- all of a text

forth : (cs : List ℕ) → all_of scalar cs ≡ true → decoded (encodes cs) ≡ record { codes = cs; ok = true }
unfolding encodes all_of decode_from
forth [] e = refl
forth (c ∷ cs) e =
    let p = both (scalar c) (all_of scalar cs) e in
    there c (encodes cs) p.0 ∙ ap (put c) (forth cs p.1)

record Back (s : List ℕ) : Type 0 where
  same : encodes (decoded s).codes ≡ s
  good : all_of scalar (decoded s).codes ≡ true

back_from : (n : ℕ) (s : List ℕ) → length s ≤ n → (decoded s).ok ≡ true → Back s
unfolding encodes all_of decode_from
back_from zero [] h e = record { same = refl; good = refl }
back_from zero (a ∷ s) h e = absurd (omega arith)
back_from (suc n) [] h e = record { same = refl; good = refl }
back_from (suc n) (a ∷ s) h e =
    let f = first a s e in
    let told : decoded (a ∷ s) ≡ put f.code (decoded f.rest) = ap decoded f.parts ∙ there f.code f.rest f.good in
    let r = back_from n f.rest
    (omega (arith, ap length f.parts, length-append (encode f.code) f.rest, some_bytes f.code))
    (sym (ap (λ (t : Text). t.ok) told) ∙ e) in
    record {
      same = ap (λ (t : Text). encodes t.codes) told ∙ ap (λ (l : List ℕ). encode f.code ++ l) r.same ∙ sym f.parts;
      good = ap (λ (t : Text). all_of scalar t.codes) told ∙ rw f.good r.good;
    }

-- THE THEOREM: bytes decode to code points exactly when they are the encoding of those, and those are scalar values
pub exactly : (s cs : List ℕ)
    → (decoded s ≡ record { codes = cs; ok = true } → (s ≡ encodes cs) × (all_of scalar cs ≡ true))
    × ((s ≡ encodes cs) × (all_of scalar cs ≡ true) → decoded s ≡ record { codes = cs; ok = true })
exactly s cs = (
  (λ e.
      let b = back_from (length s) s (omega arith) (ap (λ (t : Text). t.ok) e) in
      let k : (decoded s).codes ≡ cs = ap (λ (t : Text). t.codes) e in
      (sym b.same ∙ ap encodes k, sym (ap (all_of scalar) k) ∙ b.good)),
  (λ p. ap decoded p.0 ∙ forth cs p.1),
)
