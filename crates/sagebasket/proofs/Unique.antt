-- A call's statement leaves room for one result only: where the call below has one result, its numbers are one list, and the buffer is one.
-- Where a statement is an equation, `decided` (lists, proofs/Unique) says it; of an answer line `puts_once` (lists, proofs/Pieces) does.
-- Assumes nothing.
use mathlib.Core.Path.{◌≡◌, sym, ap, ◌∙◌}
use mathlib.Core.List.{List, [], ◌∷◌, ◌++◌}
use Prim.Native.Nat.{ℕ}
use native.Mathlib.Omega.{arith}
use lib.ListN.{length, get_or, take-append-drop, drop_of_length-le}
use lib.Seq.{drop-cons}
use Rattle.lists.proofs.Laws.{clash}
use Rattle.lists.proofs.Unique.{decided}
use Rattle.rules.specs.Permits.{Permits}
use Rattle.names.specs.Calls.{Checks, AsciiForms}
use Rattle.names.proofs.Unique.{unique}
use Rattle.hosts.specs.Hosts.{HostForms}
use Rattle.hosts.proofs.Unique as hosts
use Rattle.punycode.specs.Calls.{Encodes, Decodes}
use Rattle.punycode.proofs.Unique.{encodes_once, decodes_once}
use Rattle.searches.specs.declared.Searched.{Searched}
use Rattle.wishes.specs.Wishes.{Wished}
use Rattle.live.specs.declared.Live.{Live}
use Rattle.sagebasket.specs.Outside.{of_checked, of_ascii_form, of_host_form, of_encoded, of_decoded, Tells, OfUtf8, Counts, Wins, Shows, held}

-- all that a call leaves: the buffer, the lent answer and what it returns
pub record Same (after after' answer answer' : List ℕ) (n n' : ℕ) : Type 0 where
  pub buffer : after ≡ after'
  pub numbers : answer ≡ answer'
  pub number : n ≡ n'

module _ {after after' answer answer' : List ℕ} {n n' : ℕ} where
  -- what is told of a call below that has one result
  pub tells_once : {R : Type 0} {inNumbers : R → List ℕ} {Meets Meets' : R → Type 0}
      → ((r s : R) → Meets r → Meets' s → (r ≡ s) × (after ≡ after'))
      → Tells inNumbers Meets answer n → Tells inNumbers Meets' answer' n' → Same after after' answer answer' n n'
  tells_once {inNumbers = inNumbers} once p q =
      let e = once p.result q.result p.meets q.meets in
      let a : answer ≡ answer' = p.told ∙ ap inNumbers e.0 ∙ sym q.told in
      record { buffer = e.1; numbers = a; number = p.number ∙ ap (λ (xs : List ℕ). get_or xs 0 0) a ∙ sym q.number }

  module _ {before : List ℕ} where
    module _ (P : Permits) {text : List ℕ} where
      pub check_once : Tells of_checked (Checks P text before after) answer n → Tells of_checked (Checks P text before after') answer' n'
          → Same after after' answer answer' n n'
      check_once = tells_once (λ r s p q. unique p q)

      pub ascii_once : Tells of_ascii_form (AsciiForms P text before after) answer n → Tells of_ascii_form (AsciiForms P text before after') answer' n'
          → Same after after' answer answer' n n'
      ascii_once = tells_once (λ r s p q. unique p q)

      pub host_once : Tells of_host_form (HostForms P text before after) answer n → Tells of_host_form (HostForms P text before after') answer' n'
          → Same after after' answer answer' n n'
      host_once = tells_once (λ r s p q. hosts.unique p q)

    pub encode_once : {label : List ℕ} → Tells of_encoded (Encodes label before after) answer n → Tells of_encoded (Encodes label before after') answer' n'
        → Same after after' answer answer' n n'
    encode_once = tells_once (λ r s p q. let e = encodes_once p q in (e.1, e.0))

    pub decode_once : {octets : List ℕ} → Tells of_decoded (Decodes octets before after) answer n → Tells of_decoded (Decodes octets before after') answer' n'
        → Same after after' answer answer' n n'
    decode_once = tells_once (λ r s p q. let e = decodes_once p q in (e.1, e.0))

    -- a call on a text in UTF-8, where the call on code points has one result
    pub utf8_once : {octets : List ℕ} {Says Says' : List ℕ → Type 0} → ((t : List ℕ) → Says t → Says' t → Same after after' answer answer' n n')
        → OfUtf8 octets Says before after answer n → OfUtf8 octets Says' before after' answer' n' → Same after after' answer answer' n n'
    utf8_once once (OfUtf8.read p x) (OfUtf8.read q y) = once _ x y
    utf8_once once (OfUtf8.read p x) (OfUtf8.left q a m b) = absurd (clash p q)
    utf8_once once (OfUtf8.left p a m b) (OfUtf8.read q y) = absurd (clash q p)
    utf8_once once (OfUtf8.left p a m b) (OfUtf8.left q c k d) = record { buffer = decided b d; numbers = decided a c; number = decided m k }

  pub shows_once : {xs text : List ℕ} → Shows xs text after answer n → Shows xs text after' answer' n' → Same after after' answer answer' n n'
  shows_once p q =
      let a = decided p.told q.told in
      record { buffer = decided p.shown q.shown; numbers = a; number = p.number ∙ ap (λ (xs : List ℕ). get_or xs 0 0) a ∙ sym q.number }

-- of the search box: the count and what is returned
pub counts_once : {s : Searched} {read read' n n' : ℕ} → Counts s read n → Counts s read' n' → (read ≡ read') × (n ≡ n')
counts_once p q = (decided p.count q.count, decided p.said q.said)

-- of two wishes: the six numbers and what is returned
pub wins_once : {w : Wished} {part : ℕ} {answer answer' : List ℕ} {n n' : ℕ} → Wins w part answer n → Wins w part answer' n'
    → (answer ≡ answer') × (n ≡ n')
wins_once p q = (decided p.told q.told, decided p.won q.won)

-- what 258 numbers hold settles each of them, so what is held after a fresh state or a step does
whole : (u : List ℕ) → length u ≡ 258 → u ≡ (held u).text ++ (held u).count ∷ (held u).edition ∷ []
unfolding held
whole u k =
    sym (take-append-drop 256 u)
    ∙ rw (drop-cons u 256 0 (omega (arith, k)), drop-cons u 257 0 (omega (arith, k)), drop_of_length-le u {i = 258} (omega (arith, k)))

pub held_once : {l : Live} (s t : List ℕ) → length s ≡ 258 → length t ≡ 258 → held s ≡ l → held t ≡ l → s ≡ t
held_once s t k m p q = whole s k ∙ ap (λ (h : Live). h.text ++ h.count ∷ h.edition ∷ []) (decided p q) ∙ sym (whole t m)
