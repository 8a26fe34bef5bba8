-- The ways in which `feed_with` and `finish_with` return, on plain lists: a first line that was carried is closed, the others are scanned, the rest is
-- carried on; with no byte carried all lines are scanned, since what the array held before is never asked.
-- Assumes nothing.
use mathlib.Core.Path.{◌≡◌, refl, sym, ap, ◌∙◌}
use mathlib.Core.Bool.{Bool}
use mathlib.Core.List.{List, [], ◌++◌, append-nil}
use Rattle.std.specs.Bool.{then_some}
use Rattle.std.specs.Prelude.{Option, None, Some}
use Prim.Native.Nat.{ℕ, suc, ◌+◌, ◌-◌, ◌≤◌, ◌<◌}
use native.Mathlib.Omega.{arith}
use lib.Dec.{leb}
use lib.ListN.{length, take, drop, length-drop, take-append-drop}
use lib.Seq.{take-add, drop-drop, take-length, length-take-le}
use borrow.Author.Tests.{le-leb, lt-leb, leb-true, eq-eqb, ne_eqb}
use Rattle.lists.specs.Tests.{pick, index_of}
use Rattle.lists.specs.Front.{Puts}
use Rattle.lists.proofs.Laws.{by_test}
use Rattle.lists.proofs.Pieces.{then, puts_length, puts_once, nothing}
use Rattle.lines.specs.Lines.{lf}
use Rattle.batch.specs.declared.stream.Fed.{Fed}
use Rattle.batch.specs.declared.stream.Line.{Line}
use Rattle.batch.specs.declared.stream.Scanned.{Scanned}
use Rattle.batch.specs.Stream.{fresh, pushed_all, after, closed, wrote, ended, used}
use Rattle.answer.specs.Answers.{most, wrote_told, Writes}
use Rattle.batch.specs.Feed.{Scans, Feeds, rest_of, Finishes, finish_told}
use Rattle.batch.proofs.AnyPieces.{holds_none, holds_fresh, after_append, wrote_append, closed_all}
use Rattle.batch.proofs.Cuts.{Alike, wrote_alike, used_alike, after_alike, line_after, line_wrote, line_used, none_after, none_wrote, none_used}
use Rattle.answer.proofs.Parts.{tail_part, lent}
use Rattle.batch.proofs.Turns.{in_full, used_open, used_shut}

-- ---- rest

-- from `at` on the bytes up to where the piece is used are carried on: none without room, and otherwise all that are left
module _ (s : List ℕ) (at o : ℕ) {room used : ℕ} {line kept : Line} (e : line ≡ fresh) (k : kept ≡ pushed_all line (take (used - at) (drop at s))) where
  pub rest_full : room < most → used ≡ at → record { used = used; wrote = o; line = kept } ≡ rest_of s at o room
  unfolding rest_of pushed_all
  rest_full h u = let z : used - at ≡ 0 = omega arith in rw (lt-leb _ _ h, k, e, z, u)

  pub rest_on : most ≤ room → used ≡ length s → record { used = used; wrote = o; line = kept } ≡ rest_of s at o room
  unfolding rest_of
  rest_on h u = rw (le-leb _ _ h, k, e, u, tail_part s at)

module _ (answer : List ℕ → List ℕ) (bad : List ℕ) where
  -- ---- nothing is written

  pub no_room : (l : Line) (s out : List ℕ) → length out < most → Feeds answer bad l s out out (record { used = 0; wrote = 0; line = l })
  unfolding wrote after
  no_room l s out h = record { amount = sym (used_shut answer bad l s h); text = nothing; next = refl }

  pub no_line : (l kept : Line) (s out : List ℕ) {e : ℕ} → most ≤ length out → e ≡ 0 + index_of lf s → length s ≤ e → kept ≡ pushed_all l s
      → Feeds answer bad l s out out (record { used = length s; wrote = 0; line = kept })
  no_line l kept s out {e} room h g k =
      let q : length s ≤ index_of lf s = omega arith in
      record {
        amount = sym (used_open answer bad l s room ∙ none_used l s q answer bad (length out));
        text = rw (take-length, none_wrote l s q answer bad) nothing;
        next = rw take-length (k ∙ sym (none_after l s q));
      }

  -- ---- the lines up to `at` are answered, in o bytes, and the rest is carried on

  record Upto (l : Line) (s before after' : List ℕ) (at o : ℕ) : Type 0 where
    text : Puts (wrote answer bad l (take at s)) before after' 0 o
    none_carried : after l (take at s) ≡ fresh
    all : used answer bad l s (length before) ≡ pick (leb most (length before - o)) (length s) at
    last : most ≤ length before - o → length (drop at s) ≤ index_of lf (drop at s)

  rests : {l : Line} {s before after' : List ℕ} {at o : ℕ} → Upto l s before after' at o → Feeds answer bad l s before after' (rest_of s at o (length before - o))
  unfolding rest_of
  rests {l} {s} {before} {after'} {at} {o} u =
      let rest : Fed = record { used = length s; wrote = o; line = pushed_all fresh (drop at s) } in
      let full : Fed = record { used = at; wrote = o; line = fresh } in
      by_test (λ (x : Bool). leb most (length before - o) ≡ x → Feeds answer bad l s before after' (pick x rest full)) (leb most (length before - o))
      (λ z e.
      let q : length (drop at s) ≤ index_of lf (drop at s) = u.last (leb-true _ _ e) in
      let parts : s ≡ take at s ++ drop at s = sym (take-append-drop at s) in
      let text : wrote answer bad l s ≡ wrote answer bad l (take at s) =
      ap (wrote answer bad l) parts ∙ wrote_append answer bad l (take at s) (drop at s)
      ∙ (rw (u.none_carried, none_wrote fresh (drop at s) q answer bad) (append-nil _)) in
      record {
        amount = sym (rw e at u.all);
        text = rw (take-length, text) u.text;
        next =
            rw take-length
            (sym (ap (after l) parts ∙ after_append l (take at s) (drop at s) ∙ (rw u.none_carried (none_after fresh (drop at s) q))));
      })
      (λ z e. record { amount = sym (rw e at u.all); text = u.text; next = sym u.none_carried })
      refl

  -- ---- no byte is carried: the lines of the piece are scanned

  module _ (over : (l : List ℕ) → 1024 < length l → answer l ≡ bad) (l : Line) (long : length l.held ≡ 1024) (none : l.n ≡ 0) where
    alike : Alike answer bad l fresh
    alike p = closed_all answer bad over (holds_none l long none) p ∙ sym (closed_all answer bad over holds_fresh p)

    straight : {s before after' : List ℕ} {t : Scanned} → Scans answer bad s before after' t → 0 < t.at → Upto l s before after' t.at t.length
    straight {s} {before} {after'} {t} c h =
        record {
          text = rw (wrote_alike answer bad l fresh alike (take t.at s)) c.text;
          none_carried = after_alike l fresh (take t.at s) (omega (arith, length-take-le t.at s c.inside)) c.none_carried;
          all = used_alike answer bad l fresh alike s (length before) ∙ c.all;
          last = c.last;
        }

  -- ---- a line ends in the piece: up to it, n bytes are written; the lines after it are scanned

  module _ (l : Line) (s out₀ out₁ out' last : List ℕ) (n : ℕ) (t : Scanned) (room : most ≤ length out₀) (h : index_of lf s < length s)
      (w : Puts (closed answer bad (pushed_all l (take (index_of lf s) s))) out₀ out₁ 0 n)
      (c : Scans answer bad (drop (suc (index_of lf s)) s) (drop n out₁) last t)
      (p : Puts (wrote answer bad fresh (take t.at (drop (suc (index_of lf s)) s))) out₁ out' n (n + t.length)) where
    abbrev v : ℕ
    v = suc (index_of lf s)

    abbrev r : List ℕ
    r = drop (suc (index_of lf s)) s

    cut_at : take (v + t.at) s ≡ take v s ++ take t.at r
    cut_at = take-add v t.at s

    left : length out₀ - (n + t.length) ≡ length (drop n out₁) - t.length
    left = omega (arith, length-drop n out₁, puts_length w)

    wrote_at : wrote answer bad l (take (v + t.at) s) ≡ closed answer bad (pushed_all l (take (index_of lf s) s)) ++ wrote answer bad fresh (take t.at r)
    wrote_at = rw (cut_at, wrote_append answer bad l (take v s) (take t.at r), line_after l s h, line_wrote l s h answer bad)

    after_at : after l (take (v + t.at) s) ≡ fresh
    after_at = rw (cut_at, after_append l (take v s) (take t.at r), line_after l s h) c.none_carried

    used_at : used answer bad l s (length out₀) ≡ v + pick (leb most (length (drop n out₁) - t.length)) (length r) t.at
    used_at =
        let z : length out₀ - length (closed answer bad (pushed_all l (take (index_of lf s) s))) ≡ length (drop n out₁) =
        omega (arith, w.place, length-drop n out₁, puts_length w) in
        used_open answer bad l s room ∙ line_used l s h answer bad (length out₀)
        ∙ ap (λ (x : ℕ). v + used answer bad fresh r x) z ∙ ap (λ (x : ℕ). v + x) c.all

    first_then : Upto l s out₀ out' (v + t.at) (n + t.length)
    first_then =
        record {
          text = rw wrote_at (then w p);
          none_carried = after_at;
          all =
              used_at
              ∙ by_test (λ (x : Bool). v + pick x (length r) t.at ≡ pick x (length s) (v + t.at)) (leb most (length (drop n out₁) - t.length))
              (λ e. omega (arith, length-drop v s)) (λ e. refl)
              ∙ ap (λ (m : ℕ). pick (leb most m) (length s) (v + t.at)) (sym left);
          last = λ g. rw (drop-drop t.at v s) at (c.last (omega (arith, left)));
        }

-- ---- the same as the code has it: the parts as they are lent, and what came back of them

module _ {answer : List ℕ → List ℕ} {bad : List ℕ} (l : Line) (s : List ℕ) {out₀ out₁ : List ℕ} {t : Scanned} (room : most ≤ length out₀)
    (c : Scans answer bad s out₀ out₁ t) where
  pub lines_none : {kept : Line} → t.at ≡ 0 → kept ≡ pushed_all l s → Feeds answer bad l s out₀ out₁ (record { used = length s; wrote = 0; line = kept })
  unfolding wrote
  lines_none {kept} e k =
      let w : Puts [] out₀ out₁ 0 t.length = rw e at c.text in
      let q : length s ≤ index_of lf s = rw e at (c.last (omega (arith, w.place))) in
      rw (puts_once refl w nothing).0 (no_line answer bad l kept s out₀ room refl (omega arith) k)

  pub lines_rest : (over : (l : List ℕ) → 1024 < length l → answer l ≡ bad) → length l.held ≡ 1024 → l.n ≡ 0
      → {fed : Fed} → (t.at ≡ 0 → ⊥) → fed ≡ rest_of s t.at t.length (length out₁ - t.length) → Feeds answer bad l s out₀ out₁ fed
  lines_rest over g n h e = rw (e, puts_length c.text) (rests answer bad (straight answer bad over l g n c (omega arith)))

module _ {answer : List ℕ → List ℕ} {bad : List ℕ} (l : Line) (s : List ℕ) {first : Line} {out₀ out₁ last : List ℕ} {e n : ℕ} {t : Scanned}
    (room : most ≤ length out₀) (E : e ≡ 0 + index_of lf s) (g : e < length s)
    (p : first ≡ pushed_all l (take e s)) (w : Writes (closed answer bad first) out₀ out₁ (wrote_told (Some n)))
    (c : Scans answer bad (take (length s - (e + 1)) (drop (e + 1) s)) (take (length out₁ - n) (drop n out₁)) last t) where
  abbrev back_out : List ℕ
  back_out = take n out₁ ++ (last ++ drop (length out₁ - n) (drop n out₁))

  h : index_of lf s < length s
  h = omega arith

  closes : Puts (closed answer bad (pushed_all l (take (index_of lf s) s))) out₀ out₁ 0 n
  closes = let z : e ≡ index_of lf s = omega arith in rw (p, z) at (in_full w)

  scans : Scans answer bad (drop (suc (index_of lf s)) s) (take (length out₁ - n) (drop n out₁)) last t
  scans = let z : e + 1 ≡ suc (index_of lf s) = omega arith in rw z at (rw (tail_part s (e + 1)) at c)

  placed : Puts (wrote answer bad fresh (take t.at (drop (suc (index_of lf s)) s))) out₁ back_out n (n + t.length)
  placed = lent n (length out₁ - n) out₁ (omega (arith, closes.room, puts_length closes)) scans.text

  pub feeds_rest : {fed : Fed} → fed ≡ rest_of s (e + 1 + t.at) (n + t.length) (length back_out - (n + t.length)) → Feeds answer bad l s out₀ back_out fed
  feeds_rest q =
      let z : e + 1 + t.at ≡ suc (index_of lf s) + t.at = omega arith in
      let k : length back_out ≡ length out₀ = puts_length placed ∙ puts_length closes in
      rw (q, k, z)
      (rests answer bad (first_then answer bad l s out₀ out₁ back_out last n t room h closes (rw (tail_part out₁ n) at scans) placed))

-- ---- the end of the input

module _ (answer : List ℕ → List ℕ) (bad : List ℕ) (l : Line) (out : List ℕ) where
  pub end_none : l.n ≡ 0 → Finishes answer bad l out out (finish_told (then_some (leb most (length out)) 0))
  unfolding ended
  end_none e =
      by_test (λ (x : Bool). leb most (length out) ≡ x → Finishes answer bad l out out (finish_told (then_some x 0))) (leb most (length out))
      (λ z h. record { done = sym h; text = rw (h, eq-eqb l.n 0 e) nothing })
      (λ z h. record { done = sym h; text = rw h nothing })
      refl

  pub end_last : {out' : List ℕ} (r : Option ℕ) → (l.n ≡ 0 → ⊥) → Writes (closed answer bad l) out out' (wrote_told r)
      → Finishes answer bad l out out' (finish_told r)
  unfolding ended
  end_last None e w = record { done = w.done; text = rw (ne_eqb l.n 0 e) w.text }
  end_last (Some n) e w = record { done = w.done; text = rw (ne_eqb l.n 0 e) w.text }
