-- The public calls' answers: the coder's by its tests; the decoder's by the comparison, which makes it sound, and the round trip, which makes
-- it complete.
-- Assumes nothing.
use mathlib.Core.Path.{◌≡◌, refl, sym, ap, ◌∙◌}
use mathlib.Core.Bool.{Bool, true, false}
use mathlib.Core.List.{List, [], ◌++◌, map}
use mathlib.Core.Option as maybe
use mathlib.Core.Option.{none-ne-some}
use Rattle.std.proofs.Common.{Bor, Option, None, Some}
use Rattle.std.specs.Bool.{then_some}
use Rattle.std.specs.Option.{IfSome}
use Prim.Native.Nat.{ℕ, ◌-◌, ◌≤◌, ◌<◌}
use native.Mathlib.Omega.{arith}
use lib.Dec.{eqb}
use lib.ListN.{length, take, drop, length-take, length-drop, drop_of_length-le}
use lib.Seq.{take_all}
use borrow.Author.Tests.{lt-ltb, le-ltb, le-leb, lt-leb}
use Rattle.lists.proofs.Fronts.{untouched}
use Rattle.lists.proofs.Laws.{both, same_refl, same_is}
use Rattle.lists.specs.Front.{written}
use Rattle.lists.specs.Tests.{pick, within, same}
use Rattle.punycode.specs.Calls.{coder_number, coder_writes, coder_answers, Encodes, lower, Encoding, small, taken, left, decoder_answers, Decodes}
use Rattle.punycode.specs.Decoding.{decode, last_delimiter, octets, label, encodes, keep, found}
use Rattle.punycode.specs.Inner.{answer}
use Rattle.punycode.specs.Punycode.{encodable, ace}
use Rattle.refusals.specs.Refusals.{Filled}
use Rattle.punycode.proofs.Clipped.{whole}
use Rattle.punycode.proofs.Theorems.{round_trip}

-- ---- a part of a slice

pub to_end : (k : ℕ) (text : List ℕ) → take (length text - k) (drop k text) ≡ drop k text
to_end k text = take_all (length text - k) (drop k text) (omega (arith, length-drop k text))

-- ---- the coder

module _ (l before : List ℕ) (r : Filled) where
  refuses : (n : ℕ) → coder_number l (length before) ≡ n → eqb n 0 ≡ false → r ≡ coder_answers n [] → Encodes l before before r
  refuses n e z p =
      let w : coder_writes l (length before) ≡ [] = unfold coder_writes in rw (e, z) in
      record { answer = rw (w, e) p; buffer = rw w (sym (untouched before)) }

  pub encodes_short : length before < 63 → r ≡ coder_answers 1 [] → Encodes l before before r
  encodes_short h p = refuses 1 (unfold coder_number in rw (lt-ltb (length before) 63 h)) refl p

  module _ (room : 63 ≤ length before) where
    pub encodes_unfit : encodable l ≡ false → r ≡ coder_answers 13 [] → Encodes l before before r
    encodes_unfit h p = refuses 13 (unfold coder_number in rw (le-ltb (length before) 63 room, h)) refl p

    module _ (fit : encodable l ≡ true) where
      number_long : 63 < length (ace l) → coder_number l (length before) ≡ 14
      unfolding coder_number
      number_long h = rw (le-ltb (length before) 63 room, fit, lt-leb (length (ace l)) 63 h)

      number_done : length (ace l) ≤ 63 → coder_number l (length before) ≡ 0
      unfolding coder_number
      number_done h = rw (le-ltb (length before) 63 room, fit, le-leb (length (ace l)) 63 h)

      writes_done : length (ace l) ≤ 63 → coder_writes l (length before) ≡ ace l
      unfolding coder_writes
      writes_done h = rw (number_done h)

      module _ (t : List ℕ) (is : t ≡ take 64 (ace l)) where
        pub encodes_long : 63 < length t → r ≡ coder_answers 14 [] → Encodes l before before r
        encodes_long g p = refuses 14 (number_long (omega (arith, ap length is, length-take 64 (ace l)))) refl p

        pub encodes_done : (after : List ℕ) → length t ≤ 63 → r ≡ coder_answers 0 t → after ≡ t ++ drop (length t) before → Encodes l before after r
        unfolding written
        encodes_done after g p q =
            let w : t ≡ ace l = whole (ace l) t is g in
            let short : length (ace l) ≤ 63 = omega (arith, ap length w) in
            record { answer = rw (writes_done short, number_done short, ← w) p; buffer = rw (writes_done short, ← w) q }

-- ---- encoding again and comparing

module _ (l low : List ℕ) where
  pub encodes_no : encodable l ≡ false → false ≡ encodes l low
  unfolding encodes
  encodes_no h = rw h

  -- t is what was written, and the comparison r of t with low says whether they are the same
  pub encodes_if : (r : Bool) (t : List ℕ) → encodable l ≡ true → length low ≤ 63 → t ≡ take 64 (ace l) → (r ≡ true → t ≡ low) → (t ≡ low → r ≡ true) → r ≡ encodes l low
  unfolding encodes
  encodes_if true t h k e f g =
      let p : ace l ≡ low = sym (whole (ace l) t e (omega (arith, ap length (f refl)))) ∙ f refl in
      rw (h, p) (sym (same_refl low))
  encodes_if false t h k e f g = rw h (go (same (ace l) low) refl)
    where
      go : (x : Bool) → same (ace l) low ≡ x → false ≡ x
      go true q = g (e ∙ rw (same_is (ace l) low q) (take_all 64 low (omega arith)))
      go false q = refl

-- ---- the label that is found

module _ (low : List ℕ) where
  pub found_short : length low < 4 → found low ≡ answer None
  unfolding found keep decode last_delimiter octets label encodes encodable within answer
  found_short h = rw (drop_of_length-le low {i = 4} (omega arith))

  pub found_none : decode (drop 4 low) ≡ answer None → found low ≡ answer None
  unfolding found keep answer
  found_none e = rw e

  pub found_some : (l : Bor (List ℕ)) (b : Bool) (r : Option (Bor (List ℕ))) → decode (drop 4 low) ≡ answer (Some l) → b ≡ encodes l.now low → length l.now ≤ 63 → r ≡ then_some b l
      → IfSome r (λ x. length x.now ≤ 63) × (found low ≡ answer r)
  unfolding found keep answer
  found_some l b r e h few q = rw (q, e) (go b h)
    where
      go : (t : Bool) → t ≡ encodes l.now low → IfSome (then_some t l) (λ x. length x.now ≤ 63) × (keep low (maybe.some l.now) ≡ answer (then_some t l))
      go true p = (few, rw (← p))
      go false p = (tt, rw (← p))

keep_sound : (low l : List ℕ) (o : maybe.Option (List ℕ)) → keep low o ≡ maybe.some l → (encodable l ≡ true) × (ace l ≡ low)
unfolding keep
keep_sound low l maybe.none e = absurd (none-ne-some l e)
keep_sound low l (maybe.some x) e = go (encodes x low) refl e
  where
    go : (t : Bool) → encodes x low ≡ t → pick t (maybe.some x) maybe.none ≡ maybe.some l → (encodable l ≡ true) × (ace l ≡ low)
    go true p q =
        let b = both (encodable x) (same (ace x) low) (unfold encodes in p) in
        let i : x ≡ l = cc in
        (rw (← i) b.0, rw (← i) (same_is (ace x) low b.1))
    go false p q = absurd (none-ne-some l q)

pub found_sound : (low l : List ℕ) → found low ≡ maybe.some l → (encodable l ≡ true) × (ace l ≡ low)
unfolding found
found_sound low l e = keep_sound low l (decode (drop 4 low)) e

pub found_complete : (low l : List ℕ) → encodable l ≡ true → ace l ≡ low → found low ≡ maybe.some l
unfolding found keep encodes
found_complete low l h e =
    let d : decode (drop 4 low) ≡ maybe.some l = unfold ace in ap (λ (y : List ℕ). decode (drop 4 y)) (sym e) ∙ round_trip l h in
    rw (d, h, e, same_refl low)

-- ---- the decoder

module _ (octets before : List ℕ) (r : Filled) where
  pub decodes_small : length before < 63 → r ≡ decoder_answers 1 [] → Decodes octets before before r
  decodes_small h p = record { number = 1; label = []; says = small h; answer = p; buffer = sym (untouched before) }

  module _ (room : 63 ≤ length before) where
    refuses_15 : ((l : List ℕ) → Encoding octets l → ⊥) → r ≡ decoder_answers 15 [] → Decodes octets before before r
    refuses_15 f p = record { number = 15; label = []; says = left room f; answer = p; buffer = sym (untouched before) }

    pub decodes_long : 63 < length octets → r ≡ decoder_answers 15 [] → Decodes octets before before r
    decodes_long h p = refuses_15 (λ l e. omega (arith, e.short)) p

    pub decodes_left : found (map lower octets) ≡ answer None → r ≡ decoder_answers 15 [] → Decodes octets before before r
    unfolding answer
    decodes_left is p = refuses_15 (λ l e. none-ne-some l (sym is ∙ found_complete (map lower octets) l e.fit e.is)) p

    pub decodes_taken : (l : Bor (List ℕ)) (after : List ℕ) → found (map lower octets) ≡ answer (Some l) → length octets ≤ 63
        → r ≡ decoder_answers 0 l.now → after ≡ written l.now before → Decodes octets before after r
    unfolding answer
    decodes_taken l after is short p q =
        let s = found_sound (map lower octets) l.now is in
        record { number = 0; label = l.now; says = taken l.now room (record { fit = s.0; is = s.1; short = short }); answer = p; buffer = q }
