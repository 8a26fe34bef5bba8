-- However an input is cut into pieces, feeding them writes its batch: the carried line stands for the bytes of the line so far,
-- and for a line that is too long the mark is enough, since all such lines have one answer.
-- Assumes nothing.
use mathlib.Core.Path.{◌≡◌, refl, sym, ap, ◌∙◌}
use mathlib.Core.Bool.{Bool}
use mathlib.Core.List.{List, [], ◌∷◌, ◌++◌, append_assoc, append-nil}
use mathlib.Core.Logic.{⊎_elim}
use Prim.Native.Nat.{ℕ, ◌+◌, ◌≤◌, ◌<◌}
use native.Mathlib.Numerals.{add-one}
use native.Mathlib.Omega.{arith}
use lib.Dec.{eqb, leb, ltb}
use lib.ListN.{length, take, set, length-append, length-set, length-replicate}
use lib.Seq.{take-suc-set, append_snoc}
use borrow.Author.Tests.{eq-eqb, ne_eqb, leb-true, leb-false, ltb-true, ltb-false}
use Rattle.lists.specs.Tests.{pick}
use Rattle.lists.proofs.Laws.{by_test, lt_or_le}
use Rattle.lines.specs.Lines.{lf, lines_from, lines}
use Rattle.batch.specs.declared.stream.Line.{Line}
use Rattle.batch.specs.Batch.{answers, batch}
use Rattle.batch.specs.Stream.{fresh, pushed, pushed_all, after, closed, wrote, ended, run}

-- ---- the carried line of p: p itself, or the mark that it is too long

pub record Holds (p : List ℕ) (l : Line) : Type 0 where
  pub long : length l.held ≡ 1024
  pub short : length p ≤ 1024 → (l.n ≡ length p) × (take (length p) l.held ≡ p)
  pub over : 1024 < length p → l.n ≡ 1025

-- with no byte yet the array may hold any
pub holds_none : (l : Line) → length l.held ≡ 1024 → l.n ≡ 0 → Holds [] l
holds_none l g e = record { long = g; short = λ h. (e, refl); over = λ h. absurd (omega arith) }

pub holds_fresh : Holds [] fresh
unfolding fresh
holds_fresh = holds_none fresh (length-replicate {A = ℕ} 1024 0) refl

module _ (p : List ℕ) (l : Line) (h : Holds p l) where
  is_short : l.n ≤ 1024 → length p ≤ 1024
  is_short e = ⊎_elim (λ k. absurd (omega (arith, h.over k))) (λ k. k) (lt_or_le 1024 (length p))

  is_over : 1024 < l.n → 1024 < length p
  is_over e = ⊎_elim (λ k. k) (λ k. absurd (omega (arith, (h.short k).0))) (lt_or_le 1024 (length p))

  grows : (b : ℕ) → l.n < 1024 → Holds (p ++ b ∷ []) (record { held = set l.held l.n b; n = l.n + 1 })
  grows b e =
      let k = h.short (is_short (omega arith)) in
      let m = length-append p (b ∷ []) in
      record {
        long = length-set l.held l.n b ∙ h.long;
        short = λ z. (omega arith, rw (m, add-one, k.0) (take-suc-set l.held (length p) b (omega (arith, h.long)) ∙ ap (λ (r : List ℕ). r ++ b ∷ []) k.1));
        over = λ z. absurd (omega arith);
      }

  stops : (b : ℕ) → 1024 ≤ l.n → Holds (p ++ b ∷ []) (record { held = l.held; n = 1025 })
  stops b e =
      let m = length-append p (b ∷ []) in
      record { long = h.long; short = λ z. absurd (omega (arith, (h.short (omega arith)).0)); over = λ z. refl }

  holds_push : (b : ℕ) → Holds (p ++ b ∷ []) (pushed l b)
  unfolding pushed
  holds_push b =
      by_test (λ (x : Bool). Holds (p ++ b ∷ []) (pick x (record { held = set l.held l.n b; n = l.n + 1 }) (record { held = l.held; n = 1025 })))
      (ltb l.n 1024) (λ e. grows b (ltb-true _ _ e)) (λ e. stops b (ltb-false _ _ e))

holds_all : (p s : List ℕ) (l : Line) → Holds p l → Holds (p ++ s) (pushed_all l s)
unfolding pushed_all
holds_all p [] l h = rw append-nil h
holds_all p (b ∷ s) l h = rw (sym (append_snoc p b s)) (holds_all (p ++ b ∷ []) s (pushed l b) (holds_push p l h b))

-- ---- a piece after a piece

pub after_append : (l : Line) (s t : List ℕ) → after l (s ++ t) ≡ after (after l s) t
unfolding after
after_append l [] t = refl
after_append l (b ∷ s) t =
    by_test (λ (x : Bool). pick x (after fresh (s ++ t)) (after (pushed l b) (s ++ t)) ≡ after (pick x (after fresh s) (after (pushed l b) s)) t)
    (lf b) (λ e. after_append fresh s t) (λ e. after_append (pushed l b) s t)

module _ (answer : List ℕ → List ℕ) (bad : List ℕ) where
  pub wrote_append : (l : Line) (s t : List ℕ) → wrote answer bad l (s ++ t) ≡ wrote answer bad l s ++ wrote answer bad (after l s) t
  unfolding after wrote
  wrote_append l [] t = refl
  wrote_append l (b ∷ s) t =
      by_test (λ (x : Bool). pick x (closed answer bad l ++ wrote answer bad fresh (s ++ t)) (wrote answer bad (pushed l b) (s ++ t))
      ≡ pick x (closed answer bad l ++ wrote answer bad fresh s) (wrote answer bad (pushed l b) s)
      ++ wrote answer bad (pick x (after fresh s) (after (pushed l b) s)) t)
      (lf b)
      (λ e. ap (λ (r : List ℕ). closed answer bad l ++ r) (wrote_append fresh s t) ∙ sym (append_assoc (closed answer bad l) (wrote answer bad fresh s) _))
      (λ e. wrote_append (pushed l b) s t)

-- ---- and all of them: the batch

pub joined : List (List ℕ) → List ℕ
joined [] = []
joined (c ∷ cs) = c ++ joined cs

module _ (answer : List ℕ → List ℕ) (bad : List ℕ) (over : (l : List ℕ) → 1024 < length l → answer l ≡ bad) where
  closed_is : (p : List ℕ) (l : Line) → Holds p l → closed answer bad l ≡ answer p
  unfolding closed
  closed_is p l h =
      by_test (λ (x : Bool). leb l.n 1024 ≡ x → pick x (answer (take l.n l.held)) bad ≡ answer p) (leb l.n 1024)
      (λ a e. let k = h.short (is_short p l h (leb-true _ _ e)) in rw k.0 (ap answer k.1))
      (λ a e. sym (over p (is_over p l h (leb-false _ _ e))))
      refl

  -- a line that stands whole in a piece is answered as it would be carried, whatever the array held before
  pub closed_all : {l : Line} → Holds [] l → (s : List ℕ) → closed answer bad (pushed_all l s) ≡ answer s
  closed_all {l} h s = closed_is s (pushed_all l s) (holds_all [] s l h)

  ended_is : (p : List ℕ) (l : Line) → Holds p l → ended answer bad l ≡ answers answer (lines_from p [])
  unfolding ended answers lines_from
  ended_is [] l h = rw (eq-eqb l.n 0 (h.short (omega arith)).0)
  ended_is (a ∷ p) l h =
      rw (ne_eqb l.n 0 (λ z. omega (arith, (h.short (is_short (a ∷ p) l h (omega arith))).0)))
      (closed_is (a ∷ p) l h ∙ sym (append-nil (answer (a ∷ p))))

  one_piece_from : (p : List ℕ) (l : Line) (s : List ℕ) → Holds p l
      → answers answer (lines_from p s) ≡ wrote answer bad l s ++ ended answer bad (after l s)
  unfolding after wrote lines_from answers lf
  one_piece_from p l [] h = sym (ended_is p l h)
  one_piece_from p l (b ∷ s) h =
      by_test (λ (x : Bool). answers answer (pick x (p ∷ lines_from [] s) (lines_from (p ++ b ∷ []) s))
      ≡ pick x (closed answer bad l ++ wrote answer bad fresh s) (wrote answer bad (pushed l b) s)
      ++ ended answer bad (pick x (after fresh s) (after (pushed l b) s)))
      (eqb b 0x0A)
      (λ e. rw (closed_is p l h, append_assoc) (ap (λ (r : List ℕ). answer p ++ r) (one_piece_from [] fresh s holds_fresh)))
      (λ e. one_piece_from (p ++ b ∷ []) (pushed l b) s (holds_push p l h b))

  -- the whole input as one piece
  pub one_piece : (s : List ℕ) → batch answer s ≡ wrote answer bad fresh s ++ ended answer bad (after fresh s)
  unfolding batch lines
  one_piece s = one_piece_from [] fresh s holds_fresh

  run_is : (l : Line) (cs : List (List ℕ)) → run answer bad l cs ≡ wrote answer bad l (joined cs) ++ ended answer bad (after l (joined cs))
  unfolding run joined wrote after
  run_is l [] = refl
  run_is l (c ∷ cs) =
      rw (wrote_append answer bad l c (joined cs), after_append l c (joined cs), append_assoc)
      (ap (λ (r : List ℕ). wrote answer bad l c ++ r) (run_is (after l c) cs))

  -- THE THEOREM: feeding the pieces of an input, however it is cut, writes what the whole batch writes
  pub pieces_do_not_matter : (cs : List (List ℕ)) → run answer bad fresh cs ≡ batch answer (joined cs)
  pieces_do_not_matter cs = run_is fresh cs ∙ sym (one_piece (joined cs))
