-- The loop of `decode_up_to_fault`, on plain lists: what was seen and what is left to decode make the whole, and each byte is one case of
-- `decode_from`.
-- Assumes nothing.
use mathlib.Core.Path.{◌≡◌, refl, sym, ap, ◌∙◌}
use mathlib.Core.Bool.{Bool, true, false, not, false≢true}
use mathlib.Core.List.{List, [], ◌∷◌, ◌++◌, append-nil}
use Prim.Native.Nat.{ℕ, ◌+◌, ◌-◌, ◌*◌, ◌≤◌, ◌<◌}
use native.Mathlib.Numerals.{add-one}
use native.Mathlib.Omega.{arith}
use lib.ListN.{length, take, drop, set, get_or, length-append, drop_of_length-le}
use lib.Seq.{take-nil, append_snoc, drop-cons}
use borrow.Author.Tests.{lt-ltb, le-ltb, eq-eqb, ne_eqb}
use Rattle.lists.specs.Tests.{pick, within}
use Rattle.lists.specs.Front.{written}
use Rattle.lists.proofs.Laws.{inside}
use Rattle.std.specs.Prelude.{Option, None, Some}
use Rattle.std.specs.Bool.{then_some}
use Rattle.std.specs.Option.{is_some}
use Rattle.utf8.specs.declared.Begun.{Begun}
use Rattle.utf8.specs.declared.Step.{Step}
use Rattle.utf8.specs.declared.Step.TheVariants.{Code, More}
use Rattle.utf8.specs.Utf8.{Text, put, fault, need_of, least_of, bits_of, proper, decode_from, decoded}
use Rattle.utf8.specs.Decodes.{Decoded, decoded_told, codes_of, Decodes, DecodesUpToFault, Bound, Waits, decode_on, decode_past, Steps}
use Rattle.utf8.specs.Decodes.Bound.{b1, b2, b3}

-- ---- the buffer: what has room of w, at its start

abbrev laid : List ℕ → List ℕ → List ℕ
laid w out = written (take (length out) w) out

laid_none : (out : List ℕ) → out ≡ laid [] out
unfolding written
laid_none [] = refl
laid_none (x ∷ out) = refl

-- one more: written where it fits
laid_more : (w out : List ℕ) (v : ℕ) → set (laid w out) (length w) v ≡ laid (w ++ v ∷ []) out
unfolding written
laid_more [] [] v = refl
laid_more [] (x ∷ out) v = ap (λ (l : List ℕ). v ∷ l ++ drop (length l) out) (sym (take-nil (length out)))
laid_more (y ∷ w) [] v = refl
laid_more (y ∷ w) (x ∷ out) v = ap (λ (l : List ℕ). y ∷ l) (laid_more w out v)

-- ---- a value of which bytes are yet to follow

pub fits : {need acc : ℕ} → Bound need acc → acc < 0x8000
fits (b1 p) = p
fits (b2 p) = omega arith
fits (b3 p) = omega arith

pub grows : {need acc l : ℕ} → Bound need acc → 1 < need → l < 64 → Bound (need - 1) (acc * 64 + l)
grows (b1 p) h g = absurd (omega arith)
grows {acc = acc} {l = l} (b2 p) h g = b1 {a = acc * 64 + l} (omega arith)
grows {acc = acc} {l = l} (b3 p) h g = b2 {a = acc * 64 + l} (omega arith)

-- ---- a first byte

module _ (b : ℕ) where
  pub ascii : b < 0x80 → Steps b None (Some (Code b))
  unfolding decode_from
  ascii h = record { rest = λ s. rw (lt-ltb b 0x80 h); small = tt }

  module _ (need least bits : ℕ) (g : 0x80 ≤ b) where
    begins_with : need_of b ≡ need → least_of b ≡ least → bits_of b ≡ bits → (need ≡ 0 → ⊥) → (s : List ℕ) → decoded (b ∷ s) ≡ decode_from need least bits s
    unfolding decode_from
    begins_with e f h z s = rw (le-ltb b 0x80 g, e, f, h, ne_eqb need 0 z)

  pub two_bytes : 0xC0 ≤ b → b < 0xE0 → Steps b None (Some (More (record { need = 1; least = 0x80; bits = b - 0xC0 })))
  two_bytes p q =
      let i = le-ltb b 0xC0 p in
      let j = lt-ltb b 0xE0 q in
      record { rest = begins_with 1 0x80 (b - 0xC0) (omega arith) (rw (i, j)) (rw j) (rw j) (λ z. omega arith); small = b1 {a = b - 0xC0} (omega arith) }

  pub three_bytes : 0xE0 ≤ b → b < 0xF0 → Steps b None (Some (More (record { need = 2; least = 0x800; bits = b - 0xE0 })))
  three_bytes p q =
      let i = le-ltb b 0xC0 (omega arith) in
      let j = le-ltb b 0xE0 p in
      let k = lt-ltb b 0xF0 q in
      record { rest = begins_with 2 0x800 (b - 0xE0) (omega arith) (rw (i, j, k)) (rw (j, k)) (rw (j, k)) (λ z. omega arith); small = b2 {a = b - 0xE0} (omega arith) }

  pub four_bytes : 0xF0 ≤ b → b < 0xF8 → Steps b None (Some (More (record { need = 3; least = 0x10000; bits = b - 0xF0 })))
  four_bytes p q =
      let i = le-ltb b 0xC0 (omega arith) in
      let j = le-ltb b 0xE0 (omega arith) in
      let k = le-ltb b 0xF0 p in
      let m = lt-ltb b 0xF8 q in
      record { rest = begins_with 3 0x10000 (b - 0xF0) (omega arith) (rw (i, j, k, m)) (rw (j, k)) (rw (j, k)) (λ z. omega arith); small = b3 {a = b - 0xF0} (omega arith) }

  no_first : 0x80 ≤ b → need_of b ≡ 0 → Steps b None None
  unfolding decode_from
  no_first h e = record { rest = λ s. rw (le-ltb b 0x80 h, eq-eqb (need_of b) 0 e); small = tt }

  pub low : 0x80 ≤ b → b < 0xC0 → Steps b None None
  low p q = no_first p (rw (lt-ltb b 0xC0 q))

  pub high : 0xF8 ≤ b → Steps b None None
  high p = no_first (omega arith) (rw (le-ltb b 0xC0 (omega arith), le-ltb b 0xE0 (omega arith), le-ltb b 0xF0 (omega arith), le-ltb b 0xF8 p))

-- ---- a byte that goes on a value

module _ (least b : ℕ) where
  faulty : within 0x80 0xBF b ≡ false → {need acc : ℕ} → Bound need acc → (s : List ℕ) → decode_from need least acc (b ∷ s) ≡ fault
  unfolding decode_from
  faulty e (b1 p) s = rw e
  faulty e (b2 p) s = rw e
  faulty e (b3 p) s = rw e

  onward : within 0x80 0xBF b ≡ true → {need acc : ℕ} → Bound need acc → 1 < need → (s : List ℕ)
      → decode_from need least acc (b ∷ s) ≡ decode_from (need - 1) least (acc * 64 + (b - 0x80)) s
  unfolding decode_from
  onward e (b1 p) h s = absurd (omega arith)
  onward e (b2 p) h s = rw e
  onward e (b3 p) h s = rw e

  ending : within 0x80 0xBF b ≡ true → {need acc : ℕ} → Bound need acc → need ≤ 1 → (s : List ℕ)
      → decode_from need least acc (b ∷ s)
      ≡ pick (proper least (acc * 64 + (b - 0x80))) (put (acc * 64 + (b - 0x80)) (decoded s)) fault
  unfolding decode_from
  ending e (b1 p) h s = rw e
  ending e (b2 p) h s = absurd (omega arith)
  ending e (b3 p) h s = absurd (omega arith)

module _ (v : Begun) (b : ℕ) (k : Bound v.need v.bits) where
  pub no_next : within 0x80 0xBF b ≡ false → Steps b (Some v) None
  no_next e = record { rest = faulty v.least b e k; small = tt }

  module _ (p : 0x80 ≤ b) (q : b ≤ 0xBF) where
    pub goes_on : 1 < v.need → Steps b (Some v) (Some (More (record { need = v.need - 1; least = v.least; bits = v.bits * 64 + (b - 0x80) })))
    goes_on h = record { rest = onward v.least b (inside 0x80 0xBF b p q) k h; small = grows k h (omega arith) }

    -- .. to a code point, if the value is a proper one
    pub last : v.need ≤ 1 → (t : Bool) → t ≡ proper v.least (v.bits * 64 + (b - 0x80)) → Steps b (Some v) (then_some t (Code (v.bits * 64 + (b - 0x80))))
    last h true e = record { rest = λ s. ending v.least b (inside 0x80 0xBF b p q) k h s ∙ rw (← e) refl; small = tt }
    last h false e = record { rest = λ s. ending v.least b (inside 0x80 0xBF b p q) k h s ∙ rw (← e) refl; small = tt }

-- ---- the loop

abbrev puts : List ℕ → Text → Text
puts w t = record { codes = w ++ t.codes; ok = t.ok }

-- what is told of the code points of well-formed bytes
counted : (b : Bool) (n : ℕ) (bytes : List ℕ) → (decoded bytes).ok ≡ b → n ≡ length (decoded bytes).codes
    → decoded_told (then_some b n) ≡ record { ok = (decoded bytes).ok; count = length (codes_of bytes) }
unfolding codes_of
counted true n bytes e c = rw (e, c) refl
counted false n bytes e c = rw e refl

pub record Kept (bytes out₀ out : List ℕ) (begun : Option Begun) (n i : ℕ) : Type 0 where
  pub seen : List ℕ
  pub inside : i ≤ length bytes
  pub fewer : n ≤ i
  pub told : decoded bytes ≡ puts seen (decode_on begun (drop i bytes))
  pub count : n ≡ length seen
  pub lay : out ≡ written (take (length out₀) seen) out₀
  pub small : Waits begun

pub starts : (bytes out : List ℕ) → Kept bytes out out None 0 0
starts bytes out =
    record { seen = []; inside = omega arith; fewer = omega arith; told = refl; count = refl; lay = laid_none out; small = tt }

at_end : (begun : Option Begun) → Waits begun → (b : Bool) → is_some begun ≡ not b → decode_on begun [] ≡ record { codes = []; ok = b }
unfolding decode_from
at_end None k true e = refl
at_end None k false e = absurd (false≢true e)
at_end (Some v) k true e = absurd (false≢true (sym e))
at_end (Some v) k false e = go k
  where
    go : {need acc : ℕ} → Bound need acc → decode_from need v.least acc [] ≡ fault
    go (b1 p) = refl
    go (b2 p) = refl
    go (b3 p) = refl

module _ {bytes out₀ out : List ℕ} {begun : Option Begun} {n i : ℕ} (k : Kept bytes out₀ out begun n i) where
  -- nothing more is decoded
  done : {b : _} → decode_on begun (drop i bytes) ≡ record { codes = []; ok = b } → DecodesUpToFault bytes out₀ out (decoded_told (then_some b n))
  done {b} e =
      let t : decoded bytes ≡ puts k.seen (record { codes = []; ok = b }) = k.told ∙ ap (puts k.seen) e in
      let c : (decoded bytes).codes ≡ k.seen = ap (λ (x : Text). x.codes) t ∙ append-nil k.seen in
      record { result = counted b n bytes (ap (λ (x : Text). x.ok) t) (k.count ∙ ap length (sym c)); buffer = k.lay ∙ ap (λ (l : List ℕ). laid l out₀) (sym c) }

  pub ends : length bytes ≤ i → (b : Bool) → is_some begun ≡ not b → DecodesUpToFault bytes out₀ out (decoded_told (then_some b n))
  ends h b e = done (ap (decode_on begun) (drop_of_length-le bytes h) ∙ at_end begun k.small b e)

  module _ (h : i < length bytes) {b : ℕ} (eb : b ≡ get_or bytes i 0) where
    there : {r : Option Step} → Steps b begun r → decode_on begun (drop i bytes) ≡ decode_past r (drop (i + 1) bytes)
    there s = ap (decode_on begun) (rw (add-one, eb) (drop-cons bytes i 0 h)) ∙ s.rest (drop (i + 1) bytes)

    pub faults : Steps b begun None → DecodesUpToFault bytes out₀ out (decoded_told None)
    faults s = done (there s)

    pub stays : {v : Begun} → Steps b begun (Some (More v)) → Kept bytes out₀ out (Some v) n (i + 1)
    stays s = record {
      seen = k.seen;
      inside = omega arith;
      fewer = omega (arith, k.fewer);
      told = k.told ∙ ap (puts k.seen) (there s);
      count = k.count;
      lay = k.lay;
      small = s.small;
    }

    pub puts_one : {v : ℕ} {out' : List ℕ} → Steps b begun (Some (Code v)) → {n' : ℕ} → (n' ≡ n + 1) × (out' ≡ set out n v)
        → Kept bytes out₀ out' None n' (i + 1)
    puts_one {v} {out'} s {n'} pf =
        let t : Text = decoded (drop (i + 1) bytes) in
        record {
          seen = k.seen ++ v ∷ [];
          inside = omega arith;
          fewer = omega (arith, k.fewer, pf.0);
          told = k.told ∙ ap (puts k.seen) (there s) ∙ ap (λ (l : List ℕ). record { codes = l; ok = t.ok }) (sym (append_snoc k.seen v t.codes));
          count = omega (arith, k.count, pf.0, length-append k.seen (v ∷ []));
          lay = pf.1 ∙ rw (k.lay, k.count) (laid_more k.seen out₀ v);
          small = tt;
        }

-- ---- `decode`: a refusal, or what the pass leaves where there is no fault

pub codes_well : (bytes : List ℕ) → (decoded bytes).ok ≡ true → codes_of bytes ≡ (decoded bytes).codes
unfolding codes_of
codes_well bytes e = rw e

module _ (bytes before : List ℕ) where
  pub refused : (decoded bytes).ok ≡ false → Decodes bytes before before (decoded_told None)
  unfolding codes_of
  refused e = rw e (record { result = refl; buffer = laid_none before })

  pub well : (decoded bytes).ok ≡ true → {after : List ℕ} {r : _} → DecodesUpToFault bytes before after r → Decodes bytes before after r
  well e d = record { result = d.result; buffer = rw (codes_well bytes e) d.buffer }

-- a count is told where there is no fault
pub some_well : (r : Option ℕ) {well : Bool} {count : ℕ} → decoded_told r ≡ record { ok = well; count = count } → is_some r ≡ well
some_well None e = ap (λ (x : Decoded). x.ok) e
some_well (Some n) e = ap (λ (x : Decoded). x.ok) e
