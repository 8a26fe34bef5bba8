-- What follows of the calls that feed a stream: two answers that meet a contract are one, a call with room goes on, and any
-- sequence of calls and then a finish wrote the batch of all that was used, since each takes up where the last one stopped.
-- Assumes nothing.
use mathlib.Core.Path.{◌≡◌, refl, sym, ap, ◌∙◌}
use mathlib.Core.Bool.{Bool, true, false≢true}
use mathlib.Core.List.{List, [], ◌∷◌, ◌++◌}
use Rattle.std.specs.Prelude.{Option, None, Some}
use Prim.Native.Nat.{ℕ, suc, ◌-◌, ◌*◌, ◌≤◌, ◌<◌}
use native.Mathlib.Omega.{arith}
use lib.Dec.{leb}
use lib.ListN.{length, take, drop, take-append-drop, length-append}
use borrow.Author.Tests.{le-leb}
use Rattle.lists.specs.Tests.{pick}
use Rattle.lists.proofs.Laws.{by_test}
use Rattle.lists.proofs.Pieces.{puts_once, puts_front}
use Rattle.characters.specs.KanjiBits.{kanji_bits}
use Rattle.rules.specs.Permits.{Permits}
use Rattle.rules.specs.Editions.{today, today_with}
use Rattle.rules.proofs.Editions.{lending}
use Rattle.answer.specs.Answers.{most}
use Rattle.batch.specs.declared.stream.Fed.{Fed}
use Rattle.batch.specs.declared.stream.Line.{Line}
use Rattle.answer.specs.Answer.{answer_to, bad_answer}
use Rattle.lines.specs.Lines.{lf}
use Rattle.batch.specs.Batch.{batch}
use Rattle.batch.specs.Stream.{fresh, pushed, after, closed, wrote, ended, used_from, used}
use Rattle.batch.specs.Feed.{Feeds, Finished, finish_told, Finishes, Calls, begin, call}
use Rattle.batch.proofs.AnyPieces.{after_append, wrote_append, one_piece}
use Rattle.answer.proofs.Answering.{long_line}

-- ---- two answers that meet a contract are one, the buffers too

finish_told_once : (r q : Option ℕ) → finish_told r ≡ finish_told q → r ≡ q
finish_told_once None None e = refl
finish_told_once None (Some m) e = absurd (false≢true (ap (λ (x : Finished). x.done) e))
finish_told_once (Some n) None e = absurd (false≢true (sym (ap (λ (x : Finished). x.done) e)))
finish_told_once (Some n) (Some m) e = ap Some (ap (λ (x : Finished). x.wrote) e)

module _ {answer : List ℕ → List ℕ} {bad : List ℕ} {l : Line} {before a b : List ℕ} where
  pub feeds_one : {s : List ℕ} {r q : Fed} → Feeds answer bad l s before a r → Feeds answer bad l s before b q → (a ≡ b) × (r ≡ q)
  feeds_one {s} {r} {q} f g =
      let u : r.used ≡ q.used = f.amount ∙ sym g.amount in
      let t = puts_once (ap (λ (n : ℕ). wrote answer bad l (take n s)) u) f.text g.text in
      let n : r.line ≡ q.line = f.next ∙ ap (λ (n : ℕ). after l (take n s)) u ∙ sym g.next in
      let w : r.wrote ≡ q.wrote = t.1 in
      (t.0, λ i. record { used = u i; wrote = w i; line = n i })

  pub finishes_one : {r q : Finished} → Finishes answer bad l before a r → Finishes answer bad l before b q → (a ≡ b) × (r ≡ q)
  finishes_one {r} {q} f g =
      let d : r.done ≡ q.done = f.done ∙ sym g.done in
      let t = puts_once refl f.text g.text in
      let w : r.wrote ≡ q.wrote = t.1 in
      (t.0, λ i. record { done = d i; wrote = w i })

  -- what is told of a result decides it, so two calls for one end answer the same
  pub ends_one : (r q : Option ℕ) → Finishes answer bad l before a (finish_told r) → Finishes answer bad l before b (finish_told q) → (a ≡ b) × (r ≡ q)
  ends_one r q f g = let e = finishes_one f g in (e.0, finish_told_once r q e.1)

module _ (answer : List ℕ → List ℕ) (bad : List ℕ) where
  -- ---- no more of a piece is used than there is, and with room for an answer some of it is

  used_from_lem : (l : Line) (s : List ℕ) (room : ℕ) → used_from answer bad l s room ≤ length s
  unfolding used_from
  used_from_lem l [] room = omega arith
  used_from_lem l (b ∷ s) room =
      let r : ℕ = room - length (closed answer bad l) in
      by_test (λ (x : Bool). pick x (pick (leb most r) (suc (used_from answer bad fresh s r)) 1) (suc (used_from answer bad (pushed l b) s room)) ≤ suc (length s)) (lf b)
      (λ e. by_test (λ (y : Bool). pick y (suc (used_from answer bad fresh s r)) 1 ≤ suc (length s)) (leb most r) (λ f. omega (arith, used_from_lem fresh s r)) (λ f. omega arith))
      (λ e. omega (arith, used_from_lem (pushed l b) s room))

  pub used_within : (l : Line) (s : List ℕ) (room : ℕ) → used answer bad l s room ≤ length s
  unfolding used
  used_within l s room = by_test (λ (x : Bool). pick x (used_from answer bad l s room) 0 ≤ length s) (leb most room) (λ e. used_from_lem l s room) (λ e. omega arith)

  pub goes_on : (l : Line) (b : ℕ) (s : List ℕ) {room : ℕ} → most ≤ room → 0 < used answer bad l (b ∷ s) room
  unfolding used used_from
  goes_on l b s {room} h =
      let r : ℕ = room - length (closed answer bad l) in
      rw (le-leb most room h)
      (by_test (λ (x : Bool). 0 < pick x (pick (leb most r) (suc (used_from answer bad fresh s r)) 1) (suc (used_from answer bad (pushed l b) s room))) (lf b)
      (λ e. by_test (λ (y : Bool). 0 < pick y (suc (used_from answer bad fresh s r)) 1) (leb most r) (λ f. omega arith) (λ f. omega arith))
      (λ e. omega arith))

  -- ---- a sequence of calls

  called : {i w : List ℕ} {l : Line} → Calls answer bad i w l → (w ≡ wrote answer bad fresh i) × (l ≡ after fresh i)
  unfolding wrote after
  called begin = (refl, refl)
  called (call {i} {w} {l} {s} {r = r} k f) =
      let h = called k in
      let t : List ℕ = take r.used s in
      (rw (puts_front f.text, h.0, h.1) (sym (wrote_append answer bad fresh i t)), f.next ∙ rw h.1 (sym (after_append fresh i t)))

  -- THE THEOREM for the code: what was used by a sequence of calls, and then its end, wrote the batch of it
  pub calls_are_batch : ((l : List ℕ) → 1024 < length l → answer l ≡ bad)
      → {i w : List ℕ} {l : Line} {before after' : List ℕ} {r : Finished} → Calls answer bad i w l → Finishes answer bad l before after' r → r.done ≡ true
      → w ++ take r.wrote after' ≡ batch answer i
  calls_are_batch over {i} {w} {l} {before} {after'} {r} k f d =
      let h = called k in
      let e : leb most (length before) ≡ true = sym f.done ∙ d in
      let t : take r.wrote after' ≡ ended answer bad l = puts_front (rw e at f.text) in
      rw (t, h.0, h.1) (sym (one_piece answer bad over i))

-- what is left of a piece is fed as a piece: the line that is carried on, and what is written
pub again : (l : Line) (s : List ℕ) (u : ℕ) → after l s ≡ after (after l (take u s)) (drop u s)
again l s u = ap (after l) (sym (take-append-drop u s)) ∙ after_append l (take u s) (drop u s)

pub wrote_again : (answer : List ℕ → List ℕ) (bad : List ℕ) (l : Line) (s : List ℕ) (u : ℕ)
    → wrote answer bad l s ≡ wrote answer bad l (take u s) ++ wrote answer bad (after l (take u s)) (drop u s)
wrote_again answer bad l s u = ap (wrote answer bad l) (sym (take-append-drop u s)) ∙ wrote_append answer bad l (take u s) (drop u s)

-- where no answer is longer than `most`, no piece writes more than that for each of its bytes
module _ (answer : List ℕ → List ℕ) (bad : List ℕ) (short : (l : List ℕ) → length (answer l) ≤ most) (bad-short : length bad ≤ most) where
  closed_few : (l : Line) → length (closed answer bad l) ≤ most
  unfolding closed
  closed_few l =
      by_test (λ (x : Bool). length (pick x (answer (take l.n l.held)) bad) ≤ most) (leb l.n 1024) (λ e. short (take l.n l.held)) (λ e. bad-short)

  pub wrote_few : (l : Line) (s : List ℕ) → length (wrote answer bad l s) ≤ most * length s
  unfolding wrote
  wrote_few l [] = omega arith
  wrote_few l (b ∷ s) =
      by_test (λ (x : Bool). length (pick x (closed answer bad l ++ wrote answer bad fresh s) (wrote answer bad (pushed l b) s)) ≤ most * suc (length s)) (lf b)
      (λ e. omega (arith, length-append (closed answer bad l) (wrote answer bad fresh s), closed_few l, wrote_few fresh s))
      (λ e. omega (arith, wrote_few (pushed l b) s))

-- and at the answers of the edition in force: what the calls wrote, with what the end wrote, is the batch of all that they used
pub batch_today : {i w : List ℕ} {l : Line} {before after' : List ℕ} {r : Finished} → Calls (answer_to today) bad_answer i w l
    → Finishes (answer_to today) bad_answer l before after' r → r.done ≡ true
    → w ++ take r.wrote after' ≡ batch (answer_to today) i
batch_today = calls_are_batch (answer_to today) bad_answer (long_line today)

-- of the calls as their contracts say it, each lent the table that `characters::kanji_bits` gives
pub batch_lent : {table : List ℕ} → table ≡ kanji_bits → {i w : List ℕ} {l : Line} {before after' : List ℕ} {r : Finished}
    → Calls (answer_to (today_with table)) bad_answer i w l → Finishes (answer_to (today_with table)) bad_answer l before after' r → r.done ≡ true
    → w ++ take r.wrote after' ≡ batch (answer_to today) i
batch_lent t {i} {w} {l} {before} {after'} {r} k f =
    batch_today (lending (λ (P : Permits). Calls (answer_to P) bad_answer i w l) 4 t k) (lending (λ (P : Permits). Finishes (answer_to P) bad_answer l before after' r) 4 t f)
