-- What the loops keep, and what the answer to a carried line is, on plain lists: each turn takes one byte, or one line.
-- Assumes nothing.
use mathlib.Core.Path.{◌≡◌, refl, sym, ap, ◌∙◌}
use mathlib.Core.Bool.{true, false, ◌&&◌}
use mathlib.Core.List.{List, [], ◌∷◌, ◌++◌, append_assoc}
use mathlib.Core.Logic.{⊎_elim}
use Rattle.std.specs.Prelude.{Some}
use Prim.Native.Nat.{ℕ, suc, ◌+◌, ◌-◌, ◌≤◌, ◌<◌, min}
use native.Mathlib.Numerals.{add-one}
use native.Mathlib.Omega.{arith}
use lib.Dec.{leb}
use borrow.Rule.Slice.PartMut.{put_mid}
use lib.ListN.{length, take, drop, set, get_or, replicate, length-drop, length-replicate, take-append-drop}
use lib.Seq.{take-add, drop-drop, drop-cons, length-take-le, sets, sets-eq, take_all}
use borrow.Author.Tests.{lt-ltb, le-ltb, le-leb, lt-leb, leb-true}
use Rattle.lists.specs.Tests.{any_of, index_of}
use Rattle.lists.specs.Front.{Puts}
use Rattle.lists.proofs.Laws.{both, clash, lt_or_le}
use Rattle.lists.proofs.Pieces.{then, puts_length, puts_once, nothing}
use Rattle.lists.proofs.Scan.{found, found_inside}
use Rattle.lines.specs.Lines.{lf}
use Rattle.batch.specs.declared.stream.Line.{Line}
use Rattle.batch.specs.Stream.{fresh, pushed, pushed_all, after, closed, wrote, used_from, used}
use Rattle.answer.specs.Answers.{most, Wrote, wrote_told, Writes, Next, AnswersFirst}
use Rattle.batch.specs.Feed.{Scans}
use Rattle.batch.proofs.AnyPieces.{after_append, wrote_append, holds_fresh, closed_all}
use Rattle.batch.proofs.Cuts.{none_used, line_after, line_wrote, line_used}
use Rattle.answer.proofs.Parts.{tail_part, lent, lent_back}

-- ---- carried

-- where there is room the bytes are set one after the other
fitting : (l : Line) (s : List ℕ) → l.n + length s ≤ 1024 → pushed_all l s ≡ record { held = sets l.held l.n s; n = l.n + length s }
unfolding pushed pushed_all
fitting l [] h = let e : l.n ≡ l.n + 0 = omega arith in λ i. record { held = l.held; n = e i }
fitting l (b ∷ s) h =
    let e : l.n + 1 + length s ≡ l.n + suc (length s) = omega arith in
    rw (lt-ltb l.n 1024 (omega arith)) (fitting (record { held = set l.held l.n b; n = l.n + 1 }) s (omega arith) ∙ rw (e, add-one l.n))

-- where there is none, only the mark is
full : (l : Line) (b : ℕ) (s : List ℕ) → 1024 ≤ l.n → pushed_all l (b ∷ s) ≡ record { held = l.held; n = 1025 }
unfolding pushed pushed_all
full l b [] h = rw (le-ltb l.n 1024 h)
full l b (c ∷ s) h = rw (le-ltb l.n 1024 h) (full (record { held = l.held; n = 1025 }) c s (omega arith))

pushed_append : (l : Line) (s t : List ℕ) → pushed_all l (s ++ t) ≡ pushed_all (pushed_all l s) t
unfolding pushed_all
pushed_append l [] t = refl
pushed_append l (b ∷ s) t = pushed_append (pushed l b) s t

-- the first n bytes of a piece are those that fit, from `start` on
module _ (l : Line) (s : List ℕ) {start n : ℕ} (long : length l.held ≡ 1024) (from : start ≡ min l.n 1024) (most : n ≡ min (length s) (1024 - start)) where
  few : length (take n s) ≡ n
  few = length-take-le n s (omega arith)

  begun : pushed_all l (take n s) ≡ record { held = sets l.held start (take n s); n = l.n + n }
  unfolding pushed_all
  begun =
      ⊎_elim
      (λ h. let e : n ≡ 0 = omega arith in let z : l.n ≡ l.n + 0 = omega arith in rw e (λ i. record { held = l.held; n = z i }))
      (λ h. let e : start ≡ l.n = omega arith in rw e (fitting l (take n s) (omega (arith, few)) ∙ rw few))
      (lt_or_le 1024 l.n)

  -- as the code has it: they are copied to where the line goes on
  put : {copied : List ℕ} → copied ≡ take n s → put_mid start (start + n - start) l.held copied ≡ sets l.held start (take n s)
  put {copied} c =
      let e : start + n - start ≡ length (take n s) = omega (arith, few) in
      rw (c, e, drop-drop (length (take n s)) start l.held) (sym (sets-eq (take n s) l.held start (omega (arith, few, long)) ∙ append_assoc (take start l.held) (take n s) _))

  pub carries_all : {copied : List ℕ} → copied ≡ take n s → length s ≤ n
      → record { held = put_mid start (start + n - start) l.held copied; n = l.n + n } ≡ pushed_all l s
  carries_all c h = rw (put c) (sym begun ∙ ap (pushed_all l) (take_all n s h))

  pub carries_over : {copied : List ℕ} → copied ≡ take n s → n < length s
      → record { held = put_mid start (start + n - start) l.held copied; n = 1025 } ≡ pushed_all l s
  carries_over c h =
      let k : Line = record { held = sets l.held start (take n s); n = l.n + n } in
      rw (put c)
      (sym (ap (pushed_all l) (sym (take-append-drop n s)) ∙ pushed_append l (take n s) (drop n s) ∙ ap (λ (x : Line). pushed_all x (drop n s)) begun
      ∙ ap (pushed_all k) (drop-cons s n 0 h) ∙ full k (get_or s n 0) (drop (suc n) s) (omega arith)))

-- ---- close

-- with room, the text is put at the start, and its length is told
pub in_full : {xs before after : List ℕ} {n : ℕ} → Writes xs before after (wrote_told (Some n)) → Puts xs before after 0 n
in_full w = rw (← w.done) at w.text

module _ (answer : List ℕ → List ℕ) (bad : List ℕ) (over : (l : List ℕ) → 1024 < length l → answer l ≡ bad) (l : Line)
    {before after : List ℕ} {r : Wrote} where
  pub closes_short : l.n ≤ 1024 → Writes (answer (take l.n l.held)) before after r → Writes (closed answer bad l) before after r
  unfolding closed
  closes_short h w = rw (le-leb _ _ h) w

  pub closes_over : 1024 < l.n → Writes (answer (replicate 1025 0)) before after r → Writes (closed answer bad l) before after r
  unfolding closed
  closes_over h w =
      let e : answer (replicate 1025 0) ≡ bad = over (replicate 1025 0) (omega (arith, length-replicate {A = ℕ} 1025 0)) in
      rw (lt-leb _ _ h) (rw e at w)

-- ---- scan

module _ (answer : List ℕ → List ℕ) (bad : List ℕ) where
  pub used_open : (l : Line) (s : List ℕ) {room : ℕ} → most ≤ room → used answer bad l s room ≡ used_from answer bad l s room
  unfolding used
  used_open l s {room} h = rw (le-leb most room h)

  pub used_shut : (l : Line) (s : List ℕ) {room : ℕ} → room < most → used answer bad l s room ≡ 0
  unfolding used
  used_shut l s {room} h = rw (lt-leb most room h)

  -- the lines up to `at` are answered, in o bytes, and `at` is the start of a line
  pub record Kept (s out₀ out : List ℕ) (at o : ℕ) : Type 0 where
    pub inside : at ≤ length s
    pub text : Puts (wrote answer bad fresh (take at s)) out₀ out 0 o
    pub long : length out ≡ length out₀
    pub none_carried : after fresh (take at s) ≡ fresh
    pub all : used answer bad fresh s (length out₀) ≡ at + used answer bad fresh (drop at s) (length out₀ - o)

  pub begins : (s out : List ℕ) → Kept s out out 0 0
  unfolding wrote after
  begins s out =
      let e : length out ≡ length out - 0 = omega arith in
      let z : used answer bad fresh s (length out - 0) ≡ 0 + used answer bad fresh s (length out - 0) = omega arith in
      record { inside = omega arith; text = nothing; long = refl; none_carried = refl; all = ap (used answer bad fresh s) e ∙ z }

module _ {answer : List ℕ → List ℕ} {bad : List ℕ} {s out₀ out : List ℕ} {at o : ℕ} (k : Kept answer bad s out₀ out at o) where
  -- there is no room for a further answer
  stops : length out - o < most → Scans answer bad s out₀ out (record { at = at; length = o })
  stops h =
      let r : length out₀ - o < most = omega (arith, k.long) in
      record {
        inside = k.inside;
        text = k.text;
        none_carried = k.none_carried;
        all = rw (lt-leb _ _ r) (k.all ∙ omega (arith, used_shut answer bad fresh (drop at s) r));
        last = λ z. absurd (omega (arith, k.long));
      }

  module _ (room : most ≤ length out - o) where
    room₀ : most ≤ length out₀ - o
    room₀ = omega (arith, k.long)

    -- a line ends, and its answer is put where those before it ended
    turns : (over : (l : List ℕ) → 1024 < length l → answer l ≡ bad) (n : ℕ) {out' : List ℕ} → index_of lf (drop at s) < length (drop at s)
        → Puts (answer (take (index_of lf (drop at s)) (drop at s))) out out' o (o + n)
        → Kept answer bad s out₀ out' (at + suc (index_of lf (drop at s))) (o + n)
    turns over n {out'} h w =
        let t : List ℕ = drop at s in
        let v : ℕ = index_of lf (drop at s) in
        let one : take (at + suc v) s ≡ take at s ++ take (suc v) t = take-add at (suc v) s in
        let c = closed_all answer bad over holds_fresh (take v t) in
        let text : wrote answer bad fresh (take (at + suc v) s) ≡ wrote answer bad fresh (take at s) ++ answer (take v t) =
        rw (one, wrote_append answer bad fresh (take at s) (take (suc v) t), k.none_carried, line_wrote fresh t h answer bad, c) in
        let room' : length out₀ - o - length (closed answer bad (pushed_all fresh (take v t))) ≡ length out₀ - (o + n) =
        omega (arith, w.place, ap length c) in
        record {
          inside = omega (arith, length-drop at s);
          text = rw text (then k.text w);
          long = puts_length w ∙ k.long;
          none_carried = rw (one, after_append fresh (take at s) (take (suc v) t), k.none_carried) (line_after fresh t h);
          all =
              k.all ∙ ap (λ (x : ℕ). at + x) (used_open answer bad fresh t room₀ ∙ line_used fresh t h answer bad (length out₀ - o)
              ∙ ap (λ (x : ℕ). suc v + used answer bad fresh (drop (suc v) t) x) room'
              ∙ ap (λ (x : List ℕ). suc v + used answer bad fresh x (length out₀ - (o + n))) (drop-drop (suc v) at s))
              ∙ omega arith;
        }

    -- no line ends in the rest
    rests : length (drop at s) ≤ index_of lf (drop at s) → Scans answer bad s out₀ out (record { at = at; length = o })
    rests q =
        record {
          inside = k.inside;
          text = k.text;
          none_carried = k.none_carried;
          all = rw (le-leb _ _ room₀) (k.all ∙ omega (arith, used_open answer bad fresh (drop at s) room₀, none_used fresh (drop at s) q answer bad (length out₀ - o), k.inside, length-drop at s));
          last = λ z. q;
        }

  -- the same as the code has it: what is left of the piece and of the buffer are lent
  module _ {last : List ℕ} {r : Next} (n : AnswersFirst answer (take (length s - at) (drop at s)) (take (length out - o) (drop o out)) last r) where
    first : AnswersFirst answer (drop at s) (take (length out - o) (drop o out)) last r
    first = rw (tail_part s at) at n

    answered : r.done ≡ leb most (length out - o) && any_of lf (drop at s)
    answered =
        let room : length (take (length out - o) (drop o out)) ≡ length out - o = omega (arith, ap length (tail_part out o), length-drop o out) in
        rw room at first.done

    -- no line is answered
    pub stays : r.done ≡ false → Scans answer bad s out₀ (take o out ++ (last ++ drop (length out - o) (drop o out))) (record { at = at; length = o })
    stays e =
        let text : Puts [] (take (length out - o) (drop o out)) last 0 r.length = rw e at first.text in
        let full = λ (room : most ≤ length out - o). λ (h : index_of lf (drop at s) < length (drop at s)).
        clash (rw (le-leb _ _ room, found lf (drop at s) h) at answered) e in
        rw (lent_back o out (puts_once refl text nothing).0)
        (⊎_elim stops (λ room. rests room (⊎_elim (full room) (λ h. h) (lt_or_le (index_of lf (drop at s)) (length (drop at s))))) (lt_or_le (length out - o) most))

    module _ (e : r.done ≡ true) where
      both_hold : (leb most (length out - o) ≡ true) × (any_of lf (drop at s) ≡ true)
      both_hold = both _ _ (sym answered ∙ e)

      inside : index_of lf (drop at s) < length (drop at s)
      inside = found_inside lf (drop at s) both_hold.1

      placed : Puts (answer (take (index_of lf (drop at s)) (drop at s))) out (take o out ++ (last ++ drop (length out - o) (drop o out))) o (o + r.length)
      placed = lent o (length out - o) out (omega (arith, k.text.room, k.long)) (rw e at first.text)

      end : r.end ≡ index_of lf (drop at s)
      end = rw e at first.end

      pub turn_on : at + r.end < length s
      turn_on = omega (arith, end, inside, length-drop at s)

      pub turn : ((l : List ℕ) → 1024 < length l → answer l ≡ bad)
          → Kept answer bad s out₀ (take o out ++ (last ++ drop (length out - o) (drop o out))) (at + (r.end + 1)) (o + r.length)
      turn over =
          let z : at + (r.end + 1) ≡ at + suc (index_of lf (drop at s)) = omega (arith, end) in
          rw z (turns (leb-true _ _ both_hold.0) over r.length inside placed)
