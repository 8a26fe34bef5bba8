-- The answer to a text, put around its ASCII form, which the call for it wrote straight to its place: what that call answered and
-- wrote is what the line says, and a refused call wrote nothing.
-- Assumes nothing.
use mathlib.Core.Path.{◌≡◌, refl, sym, ap, ◌∙◌}
use mathlib.Core.List.{List, [], ◌∷◌, ◌++◌, append_assoc}
use Prim.Native.Nat.{ℕ, ◌+◌, ◌-◌, ◌≤◌}
use native.Mathlib.Omega.{arith}
use lib.Dec.{eqb}
use lib.ListN.{length, take, drop, length-append, length-drop, take-append-drop}
use lib.Seq.{drop_at, drop-drop, drop-append-le, length-take-le}
use borrow.Author.Tests.{eq-eqb, ne_eqb}
use Rattle.lists.specs.Tests.{pick}
use Rattle.lists.specs.Front.{written, Puts}
use Rattle.lists.specs.Rows.{first, given}
use Rattle.lists.specs.Rows.{Answer}
use Rattle.lists.proofs.Pieces.{then}
use Rattle.lists.proofs.Tables.{clear, given_all, given_none}
use Rattle.normal.specs.Normal.{normal_form}
use Rattle.rules.specs.Labels.{labels}
use Rattle.rules.specs.Permits.{Permits}
use Rattle.rules.specs.Rules.{verdict}
use Rattle.rules.specs.Verdicts.{Verdict}
use Rattle.ascii.specs.Ascii.{ascii_form}
use Rattle.names.specs.Calls.{Answers, kinds_said, ascii_formed, ascii_rows, AsciiForms}
use Rattle.names.specs.Calls.{AsciiForm}
use Rattle.names.proofs.Answering.{ascii_cleared}
use Rattle.answer.specs.Answer.{answer_line, refused_answer, good_answer}
use Rattle.answer.specs.Answers.{before_form, after_form}
use Rattle.answer.proofs.Pieces.{before_length, accepted_laid}

-- ---- a piece in the middle

-- what is written to a lent part stands where the part begins
put_lent : (o k : ℕ) (out after xs : List ℕ) → o + k ≤ length out → length xs ≤ k → after ≡ written xs (take k (drop o out))
    → Puts xs out (take o out ++ (after ++ drop k (drop o out))) o (o + length xs)
unfolding written
put_lent o k out after xs h g e =
    let d : List ℕ = drop o out in
    let n : length (take k d) ≡ k = length-take-le k d (omega (arith, length-drop o out)) in
    let back : drop (length xs) (take k d) ++ drop k d ≡ drop (o + length xs) out =
    sym (drop-append-le (length xs) (take k d) (drop k d) (omega (arith, n))) ∙ ap (drop (length xs)) (take-append-drop k d) ∙ drop-drop (length xs) o out in
    record {
      place = refl;
      room = omega arith;
      buffer =
          ap (λ (l : List ℕ). take o out ++ (l ++ drop k d)) e
          ∙ ap (λ (l : List ℕ). take o out ++ l) (append_assoc xs (drop (length xs) (take k d)) (drop k d) ∙ ap (λ (l : List ℕ). xs ++ l) back)
          ∙ sym (append_assoc (take o out) xs (drop (o + length xs) out));
    }

-- and a piece is put ahead of it
ahead : {p q b₀ b₁ b₂ : List ℕ} {m r : ℕ} → Puts q b₀ b₁ m r → Puts p b₁ b₂ 0 m → Puts (p ++ q) b₀ b₂ 0 r
ahead {p} {q} {b₀} {b₁} {b₂} {m} {r} x y =
    let head : length (take m b₀) ≡ m = length-take-le m b₀ (omega (arith, x.place, x.room)) in
    let back : drop m b₁ ≡ q ++ drop r b₀ = ap (drop m) (x.buffer ∙ append_assoc (take m b₀) q (drop r b₀)) ∙ drop_at (take m b₀) (q ++ drop r b₀) m head in
    record {
      place = omega (arith, length-append p q, x.place, y.place);
      room = x.room;
      buffer = y.buffer ∙ ap (λ (l : List ℕ). p ++ l) back ∙ sym (append_assoc p q (drop r b₀));
    }

-- ---- what the call says

abbrev told : Permits → List ℕ → Answer
told P text = first (ascii_rows P text 192)

abbrev form : Permits → List ℕ → List ℕ
form P text = ascii_form P (normal_form text)

module _ (P : Permits) (text : List ℕ) {before after : List ℕ} {r : AsciiForm} (A : Answers (ascii_formed P (labels (normal_form text))) (ascii_rows P text 192) text (form P text) before after r) where
  says_number : r.number ≡ (told P text).number
  unfolding verdict
  says_number = ap (λ (x : AsciiForm). x.number) A.gives.result

  says_place : r.place ≡ (told P text).place
  unfolding verdict
  says_place = ap (λ (x : AsciiForm). x.place) A.gives.result

  says_length : r.length ≡ length (given (told P text) (form P text))
  says_length = ap (λ (x : AsciiForm). x.length) A.gives.result

  -- what was written had room
  had_room : length after ≡ length before → r.length ≤ length before
  unfolding written
  had_room e =
      let g : List ℕ = given (told P text) (form P text) in
      omega (arith, says_length, ap length A.gives.buffer ∙ length-append g (drop (length g) before), e)

  module _ (id : List ℕ) where
    with_form : (l : List ℕ) → l ≡ pick (eqb (told P text).number 0) (form P text) (0x2D ∷ [])
        → answer_line id r.number r.place r.class l r.kinds ≡ good_answer P id text
    unfolding good_answer
    with_form l e =
        let v : Verdict = verdict (told P text) (labels (normal_form text)) in
        ap (λ (x : AsciiForm). answer_line id x.number x.place x.class l x.kinds) A.gives.result
        ∙ ap (λ (k : List ℕ). answer_line id v.number v.place v.class k (kinds_said P (labels (normal_form text)) v.number)) e

    accepted_line : r.number ≡ 0 → answer_line id 0 0 r.class (form P text) r.kinds ≡ good_answer P id text
    accepted_line e =
        let z : (told P text).number ≡ 0 = sym says_number ∙ e in
        let w : r.place ≡ 0 = says_place ∙ ap (λ (a : Answer). a.place) (clear (ascii_rows P text 192) (ascii_cleared P text 192 z)) in
        rw (e, w) at (with_form (form P text) (rw (eq-eqb (told P text).number 0 z)))

    refused_line : (r.number ≡ 0 → ⊥) → refused_answer id r.number r.place ≡ good_answer P id text
    unfolding good_answer refused_answer verdict kinds_said
    refused_line e = rw (says_number, says_place, ne_eqb (told P text).number 0 (λ z. e (says_number ∙ z)))

-- ---- the line around the form

-- where the form stands in the line, and the 192 bytes from there on, as they are lent
abbrev start_of : List ℕ → ℕ
start_of id = length id + 7

abbrev lent_of : List ℕ → ℕ
lent_of id = start_of id + 192 - start_of id

module _ (P : Permits) (id text out : List ℕ) {after : List ℕ} {r : AsciiForm} (h : length id ≤ 32) (g : 256 ≤ length out)
    (same : length after ≡ length (take (lent_of id) (drop (start_of id) out))) (A : AsciiForms P text (take (lent_of id) (drop (start_of id) out)) after r) where
  abbrev start : ℕ
  start = start_of id

  abbrev k : ℕ
  k = lent_of id

  abbrev back : List ℕ
  back = take start out ++ (after ++ drop k (drop start out))

  room : length (take k (drop start out)) ≡ 192
  room = omega (arith, length-take-le k (drop start out) (omega (arith, length-drop start out)))

  said : Answers (ascii_formed P (labels (normal_form text))) (ascii_rows P text 192) text (form P text) (take k (drop start out)) after r
  said = rw room at A

  pub form_fits : r.length ≤ 192
  form_fits = omega (arith, room, had_room P text said same)

  pub accepted_puts : r.number ≡ 0 → {b₁ b₂ : List ℕ} {c n : ℕ} → Puts (before_form id r.class) back b₁ 0 c → Puts (after_form r.kinds) b₁ b₂ (c + r.length) n
      → Puts (good_answer P id text) out b₂ 0 n
  accepted_puts z {c = c} x y =
      let f : List ℕ = form P text in
      let all : given (told P text) f ≡ f = given_all (told P text) f (sym (says_number P text said) ∙ z) in
      let long : r.length ≡ length f = says_length P text said ∙ ap length all in
      let at : c ≡ start = omega (arith, before_length id r.class, x.place) in
      let placed : Puts f out back c (c + r.length) =
      rw (long, at) (put_lent start k out after f (omega arith) (omega (arith, form_fits, long)) (said.gives.buffer ∙ ap (λ (s : List ℕ). written s (take k (drop start out))) all)) in
      rw (← accepted_line P text said id z, accepted_laid id r.class f r.kinds) (then (ahead placed x) y)

  pub refused_puts : (r.number ≡ 0 → ⊥) → {b : List ℕ} {n : ℕ} → Puts (refused_answer id r.number r.place) back b 0 n
      → Puts (good_answer P id text) out b 0 n
  unfolding written
  refused_puts z x =
      let none : after ≡ take k (drop start out) =
      said.gives.buffer ∙ ap (λ (s : List ℕ). written s (take k (drop start out))) (given_none (told P text) (form P text) (λ e. z (says_number P text said ∙ e))) in
      let kept : back ≡ out = ap (λ (l : List ℕ). take start out ++ (l ++ drop k (drop start out))) none ∙ ap (λ (l : List ℕ). take start out ++ l) (take-append-drop k (drop start out)) ∙ take-append-drop start out in
      rw (← refused_line P text said id z) (rw kept at x)
