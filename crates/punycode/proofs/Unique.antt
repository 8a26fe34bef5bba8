-- What the calls answer is settled: two results that meet a call's statement are equal, since equations say all of it and no octets are
-- the encodings of two labels. What the coder wrote, the decoder takes back.
-- Assumes nothing.
use mathlib.Core.Path.{◌≡◌, refl, sym, ap, ◌∙◌}
use mathlib.Core.Bool.{Bool, true, false}
use mathlib.Core.List.{List, [], ◌∷◌, map}
use Prim.Native.Nat.{ℕ, ◌≤◌}
use native.Mathlib.Omega.{arith}
use lib.Dec.{leb, ltb}
use lib.ListN.{length, take}
use borrow.Author.Tests.{leb-true, ne_eqb}
use Rattle.lists.proofs.Fronts.{front}
use Rattle.lists.proofs.Laws.{both, clash, outside}
use Rattle.lists.proofs.Unique.{decided}
use Rattle.lists.specs.Front.{written}
use Rattle.lists.specs.Tests.{pick, all_of}
use Rattle.punycode.specs.Calls.{coder_number, coder_writes, Encodes, lower, Encoding, DecoderSays, small, taken, left, decoder_answers, Decodes}
use Rattle.punycode.specs.Punycode.{alnum, ldh, encodable, ace}
use Rattle.std.specs.Prelude.{Result}
use Rattle.refusals.specs.Refusals.{Filled, filled}
use Rattle.refusals.specs.declared.Refused.{Refused}
use Rattle.refusals.proofs.Once.{filled_once}
use Rattle.punycode.proofs.Rungs.{lower_other}
use Rattle.punycode.proofs.Theorems.{ace_ldh, ace_injective}

-- ---- each call has one result

module _ {label before after after' : List ℕ} {r r' : Filled} where
  pub encodes_once : Encodes label before after r → Encodes label before after' r' → (after ≡ after') × (r ≡ r')
  encodes_once u v = (decided u.buffer v.buffer, decided u.answer v.answer)

pub encoding_once : {octets l k : List ℕ} → Encoding octets l → Encoding octets k → l ≡ k
encoding_once {octets} {l} {k} u v = ace_injective l k u.fit v.fit (u.is ∙ sym v.is)

decoding_once : {octets : List ℕ} {room n n' : ℕ} {l l' : List ℕ} → DecoderSays octets room n l → DecoderSays octets room n' l' → (n ≡ n') × (l ≡ l')
decoding_once (small h) (small g) = (refl, refl)
decoding_once (small h) (taken l g e) = absurd (omega arith)
decoding_once (small h) (left g f) = absurd (omega arith)
decoding_once (taken l h e) (small g) = absurd (omega arith)
decoding_once (taken l h e) (taken k g d) = (refl, encoding_once e d)
decoding_once (taken l h e) (left g f) = absurd (f l e)
decoding_once (left h f) (small g) = absurd (omega arith)
decoding_once (left h f) (taken l g e) = absurd (f l e)
decoding_once (left h f) (left g f') = (refl, refl)

module _ {octets before after after' : List ℕ} {r r' : Filled} where
  pub decodes_once : Decodes octets before after r → Decodes octets before after' r' → (after ≡ after') × (r ≡ r')
  decodes_once u v =
      let e = decoding_once u.says v.says in (
        u.buffer ∙ ap (λ x. written x before) e.1 ∙ sym v.buffer,
        u.answer ∙ (λ i. decoder_answers (e.0 i) (e.1 i)) ∙ sym v.answer,
      )

-- and so of what the two calls themselves answer
module _ {before after after' : List ℕ} {r s : Result ℕ Refused} where
  pub encoded_once : {label : List ℕ} → Encodes label before after (filled r) → Encodes label before after' (filled s) → (after ≡ after') × (r ≡ s)
  encoded_once u v = let o = encodes_once u v in (o.0, filled_once r s o.1)

  pub decoded_once : {octets : List ℕ} → Decodes octets before after (filled r) → Decodes octets before after' (filled s) → (after ≡ after') × (r ≡ s)
  decoded_once u v = let o = decodes_once u v in (o.0, filled_once r s o.1)

-- ---- there and back

upper_not : (c : ℕ) → 65 ≤ c → c ≤ 90 → ldh c ≡ false
unfolding ldh alnum
upper_not c h g = rw (outside 0x61 0x7A c (λ p q. omega arith), outside 0x30 0x39 c (λ p q. omega arith), ne_eqb c 45 (omega arith))

lower_ldh : (c : ℕ) → ldh c ≡ true → c ≡ lower c
lower_ldh c h = lower_other c (λ g l. clash h (upper_not c g l))

lower_all : (l : List ℕ) → all_of ldh l ≡ true → l ≡ map lower l
unfolding all_of
lower_all [] h = refl
lower_all (c ∷ l) h = let e = both (ldh c) (all_of ldh l) h in rw (← lower_ldh c e.0, ← lower_all l e.1)

pub own_encoding : (l : List ℕ) → encodable l ≡ true → length (ace l) ≤ 63 → Encoding (ace l) l
own_encoding l h k = record { fit = h; is = lower_all (ace l) (ace_ldh l h); short = k }

-- the number is 0 where the label is encodable and its encoding is short enough, and only there
pub number_zero : (l : List ℕ) (room : ℕ) → coder_number l room ≡ 0 → (encodable l ≡ true) × (length (ace l) ≤ 63)
unfolding coder_number
number_zero l room e = go (ltb room 63) (encodable l) (leb (length (ace l)) 63) refl refl e
  where
    go : (a b c : Bool) → encodable l ≡ b → leb (length (ace l)) 63 ≡ c → ◌≡◌ {A = ℕ} (pick a 1 (pick b (pick c 0 14) 13)) 0 → (encodable l ≡ true) × (length (ace l) ≤ 63)
    go true b c p q z = absurd (omega arith)
    go false true true p q z = (p, leb-true _ _ q)
    go false true false p q z = absurd (omega arith)
    go false false c p q z = absurd (omega arith)

writes_ace : (l : List ℕ) (room : ℕ) → coder_number l room ≡ 0 → coder_writes l room ≡ ace l
unfolding coder_writes
writes_ace l room e = rw e

-- what a coder wrote with the number 0, a decoder that has room takes back to the label
module _ {l before after : List ℕ} {r : Filled} (coded : Encodes l before after r) (accepted : r.number ≡ 0) where
  wrote : take r.length after ≡ ace l
  wrote =
      let zero : coder_number l (length before) ≡ 0 = sym (ap (λ x. x.number) coded.answer) ∙ accepted in
      let w = writes_ace l (length before) zero in
      rw (coded.answer, coded.buffer, w) (front (ace l) before)

  pub there_and_back : {buffer last : List ℕ} {q : Filled} → 63 ≤ length buffer → Decodes (take r.length after) buffer last q
      → (last ≡ written l buffer) × (q ≡ decoder_answers 0 l)
  there_and_back {buffer} {last} {q} room d =
      let zero : coder_number l (length before) ≡ 0 = sym (ap (λ x. x.number) coded.answer) ∙ accepted in
      let z = number_zero l (length before) zero in
      decodes_once d (record {
        number = 0;
        label = l;
        says = taken l room (rw wrote (own_encoding l z.0 z.1));
        answer = refl;
        buffer = refl;
      })
