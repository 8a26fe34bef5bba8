-- Bytes with no LF among them only lengthen the line at hand, so a piece is such bytes, or such bytes, an LF and a rest.
-- Assumes nothing.
use mathlib.Core.Path.{◌≡◌, refl, sym, ap, ◌∙◌}
use mathlib.Core.Bool.{Bool, false}
use mathlib.Core.List.{List, [], ◌∷◌, ◌++◌, append-nil}
use Prim.Native.Nat.{ℕ, suc, ◌+◌, ◌-◌, ◌≤◌, ◌<◌}
use native.Mathlib.Omega.{arith}
use lib.Dec.{leb, ltb}
use lib.ListN.{length, take, drop, set, length-append}
use lib.Seq.{append_snoc, take_at, length-take-le}
use borrow.Author.Tests.{eqb-true}
use Rattle.lists.specs.Tests.{pick, any_of, index_of}
use Rattle.lists.proofs.Laws.{by_test, neither}
use Rattle.lists.proofs.Scan.{not_found, none_before, cut_first}
use Rattle.answer.specs.Answers.{most}
use Rattle.batch.specs.declared.stream.Line.{Line}
use Rattle.lines.specs.Lines.{lf, lines_from}
use Rattle.batch.specs.Stream.{fresh, pushed, pushed_all, after, closed, wrote, used_from, used}

-- ---- bytes with no LF, and what comes after them

-- no LF is among the bytes
abbrev pub Unbroken : List ℕ → Type 0
Unbroken p = any_of lf p ≡ false

split : (b : ℕ) (p : List ℕ) → Unbroken (b ∷ p) → (lf b ≡ false) × Unbroken p
unfolding any_of
split b p h = neither (lf b) (any_of lf p) h

after_unbroken : (l : Line) (p : List ℕ) → Unbroken p → (s : List ℕ) → after l (p ++ s) ≡ after (pushed_all l p) s
unfolding after pushed_all
after_unbroken l [] h s = refl
after_unbroken l (b ∷ p) h s = let k = split b p h in rw k.0 (after_unbroken (pushed l b) p k.1 s)

pub lines_unbroken : (q p : List ℕ) → Unbroken p → (s : List ℕ) → lines_from q (p ++ s) ≡ lines_from (q ++ p) s
unfolding lines_from lf
lines_unbroken q [] h s = ap (λ (l : List ℕ). lines_from l s) (sym (append-nil q))
lines_unbroken q (b ∷ p) h s =
    let k = split b p h in
    rw k.0 (lines_unbroken (q ++ b ∷ []) p k.1 s ∙ ap (λ (l : List ℕ). lines_from l s) (append_snoc q b p))

module _ (answer : List ℕ → List ℕ) (bad : List ℕ) where
  wrote_unbroken : (l : Line) (p : List ℕ) → Unbroken p → (s : List ℕ) → wrote answer bad l (p ++ s) ≡ wrote answer bad (pushed_all l p) s
  unfolding wrote pushed_all
  wrote_unbroken l [] h s = refl
  wrote_unbroken l (b ∷ p) h s = let k = split b p h in rw k.0 (wrote_unbroken (pushed l b) p k.1 s)

  used_unbroken : (l : Line) (p : List ℕ) → Unbroken p → (s : List ℕ) (room : ℕ)
      → used_from answer bad l (p ++ s) room ≡ length p + used_from answer bad (pushed_all l p) s room
  unfolding used_from pushed_all
  used_unbroken l [] h s room = omega arith
  used_unbroken l (b ∷ p) h s room = let k = split b p h in rw k.0 (omega (arith, used_unbroken (pushed l b) p k.1 s room))

-- ---- two lines that are answered alike, whatever comes after them

module _ (answer : List ℕ → List ℕ) (bad : List ℕ) where
  abbrev pub Alike : Line → Line → Type 0
  Alike l m = (p : List ℕ) → closed answer bad (pushed_all l p) ≡ closed answer bad (pushed_all m p)

  pub wrote_alike : (l m : Line) → Alike l m → (s : List ℕ) → wrote answer bad l s ≡ wrote answer bad m s
  unfolding wrote pushed_all
  wrote_alike l m h [] = refl
  wrote_alike l m h (b ∷ s) =
      let r : List ℕ = wrote answer bad fresh s in
      by_test (λ (x : Bool). pick x (closed answer bad l ++ r) (wrote answer bad (pushed l b) s) ≡ pick x (closed answer bad m ++ r) (wrote answer bad (pushed m b) s))
      (lf b) (λ e. ap (λ (c : List ℕ). c ++ r) (h [])) (λ e. wrote_alike (pushed l b) (pushed m b) (λ p. h (b ∷ p)) s)

  from_alike : (l m : Line) → Alike l m → (s : List ℕ) (room : ℕ) → used_from answer bad l s room ≡ used_from answer bad m s room
  unfolding used_from pushed_all
  from_alike l m h [] room = refl
  from_alike l m h (b ∷ s) room =
      rw (h []) (ap (pick (lf b) _) (ap suc (from_alike (pushed l b) (pushed m b) (λ p. h (b ∷ p)) s room)))

  pub used_alike : (l m : Line) → Alike l m → (s : List ℕ) (room : ℕ) → used answer bad l s room ≡ used answer bad m s room
  unfolding used
  used_alike l m h s room = rw (from_alike l m h s room)

pushed_some : (l : Line) (b : ℕ) → 0 < (pushed l b).n
unfolding pushed
pushed_some l b =
    by_test (λ (x : Bool). 0 < (pick {A = Line} x (record { held = set l.held l.n b; n = l.n + 1 }) (record { held = l.held; n = 1025 })).n) (ltb l.n 1024)
    (λ e. omega arith) (λ e. omega arith)

-- a piece after which nothing is carried has ended a line, so it leaves nothing of any line before it
pub after_alike : (l m : Line) (s : List ℕ) → 0 < m.n + length s → after m s ≡ fresh → after l s ≡ fresh
unfolding after fresh
after_alike l m [] h e = absurd (omega (arith, ap (λ (x : Line). x.n) e))
after_alike l m (b ∷ s) h g =
    by_test (λ (x : Bool). pick x (after fresh s) (after (pushed m b) s) ≡ fresh → pick x (after fresh s) (after (pushed l b) s) ≡ fresh) (lf b)
    (λ e k. k) (λ e k. after_alike (pushed l b) (pushed m b) s (omega (arith, pushed_some m b)) k) g

-- ---- a piece in which no line ends

module _ (l : Line) (t : List ℕ) (h : length t ≤ index_of lf t) where
  pub none_after : after l t ≡ pushed_all l t
  unfolding after
  none_after = ap (after l) (sym (append-nil t)) ∙ after_unbroken l t (not_found lf t h) []

  module _ (answer : List ℕ → List ℕ) (bad : List ℕ) where
    pub none_wrote : wrote answer bad l t ≡ []
    unfolding wrote
    none_wrote = ap (wrote answer bad l) (sym (append-nil t)) ∙ wrote_unbroken answer bad l t (not_found lf t h) []

    pub none_used : (room : ℕ) → used_from answer bad l t room ≡ length t
    unfolding used_from
    none_used room =
        ap (λ (x : List ℕ). used_from answer bad l x room) (sym (append-nil t))
        ∙ used_unbroken answer bad l t (not_found lf t h) [] room ∙ omega arith

-- ---- a piece with an LF: the line up to it, and the rest

module _ (l : Line) (t : List ℕ) (h : index_of lf t < length t) where
  abbrev u : ℕ
  u = index_of lf t

  abbrev p : List ℕ
  p = take u t

  parts : t ≡ p ++ 0x0A ∷ drop (suc u) t
  unfolding lf
  parts = cut_first lf 0x0A (λ b e. eqb-true b 0x0A e) t h

  len : length p ≡ u
  len = length-take-le u t (omega arith)

  with_lf : take (suc u) t ≡ p ++ 0x0A ∷ []
  with_lf = ap (take (suc u)) (parts ∙ sym (append_snoc p 0x0A (drop (suc u) t)))
      ∙ take_at (p ++ 0x0A ∷ []) (drop (suc u) t) (suc u) (omega (arith, length-append p (0x0A ∷ []), len))

  pub line_after : after l (take (suc u) t) ≡ fresh
  unfolding after lf
  line_after = rw with_lf (after_unbroken l p (none_before lf t) (0x0A ∷ []))

  module _ (answer : List ℕ → List ℕ) (bad : List ℕ) where
    pub line_wrote : wrote answer bad l (take (suc u) t) ≡ closed answer bad (pushed_all l p)
    unfolding wrote lf
    line_wrote = rw with_lf (wrote_unbroken answer bad l p (none_before lf t) (0x0A ∷ []) ∙ append-nil _)

    pub line_used : (room : ℕ) → used_from answer bad l t room
        ≡ suc u + used answer bad fresh (drop (suc u) t) (room - length (closed answer bad (pushed_all l p)))
    unfolding used_from used lf
    line_used room =
        let r : ℕ = room - length (closed answer bad (pushed_all l p)) in
        let v : ℕ = used_from answer bad fresh (drop (suc u) t) r in
        ap (λ (x : List ℕ). used_from answer bad l x room) parts
        ∙ used_unbroken answer bad l p (none_before lf t) (0x0A ∷ drop (suc u) t) room
        ∙ by_test (λ (x : Bool). length p + pick x (suc v) 1 ≡ suc u + pick x v 0) (leb most r) (λ e. omega (arith, len)) (λ e. omega (arith, len))
