-- The 258 numbers that a caller holds are a state of the live check: what a step stores, and which text a look is lent. Past 256 the text
-- lent is 257 of the numbers, of which every call says what it says of any text so long.
-- Assumes nothing.
use mathlib.Core.Path.{◌≡◌, sym, ap, subst, ◌∙◌}
use mathlib.Core.List.{List}
use mathlib.Core.Logic.{⊎_elim}
use Prim.Native.Nat.{ℕ, ◌+◌, ◌≤◌, ◌<◌, min}
use native.Mathlib.Omega.{arith}
use lib.ListN.{length, take, get_or, set, length-set, replicate, length-replicate}
use lib.Seq.{take-set-le, take-set-lt, get_or-set_same, get_or-set_other, take-take, length-take-le}
use borrow.Author.Tests.{lt-ltb, le-ltb}
use Rattle.lists.proofs.Laws.{lt_or_le}
use Rattle.live.specs.Live.{stepped, looked_by}
use Rattle.sagebasket.specs.Outside.{held, held_text}
use Rattle.sagebasket.proofs.Alike.{Alike}

-- ---- a step

module _ (s : List ℕ) (whole : length s ≡ 258) (c : ℕ) where
  pub step_room : get_or s 256 0 < 256 → held (set (set s (get_or s 256 0) c) 256 (get_or s 256 0 + 1)) ≡ stepped (held s) c
  unfolding held stepped
  step_room g =
      let n : ℕ = get_or s 256 0 in
      let t : take 256 (set (set s n c) 256 (n + 1)) ≡ set (take 256 s) n c = take-set-le 256 (set s n c) 256 (n + 1) (omega arith) ∙ take-set-lt 256 s n c g in
      let k : get_or (set (set s n c) 256 (n + 1)) 256 0 ≡ n + 1 = get_or-set_same (set s n c) 256 (n + 1) 0 (omega (arith, length-set s n c)) in
      let e : get_or (set (set s n c) 256 (n + 1)) 257 0 ≡ get_or s 257 0 = get_or-set_other (set s n c) 256 257 (n + 1) 0 (λ q. omega arith) ∙ get_or-set_other s n 257 c 0 (λ q. omega (arith, g)) in
      rw (lt-ltb (get_or s 256 0) 256 g) (λ i. record { edition = e i; text = t i; count = k i })

  pub step_full : 256 ≤ get_or s 256 0 → held (set s 256 257) ≡ stepped (held s) c
  unfolding held stepped
  step_full g =
      let t : take 256 (set s 256 257) ≡ take 256 s = take-set-le 256 s 256 257 (omega arith) in
      let k : get_or (set s 256 257) 256 0 ≡ 257 = get_or-set_same s 256 257 0 (omega arith) in
      let e : get_or (set s 256 257) 257 0 ≡ get_or s 257 0 = get_or-set_other s 256 257 257 0 (λ q. omega arith) in
      rw (le-ltb (get_or s 256 0) 256 g) (λ i. record { edition = e i; text = t i; count = k i })

-- ---- a look

module _ (s : List ℕ) (whole : length s ≡ 258) {part : List ℕ} (lent : part ≡ take (min (get_or s 256 0) 257) s) where
  part_past : 256 < get_or s 256 0 → 256 < length part
  part_past h = rw lent (omega (arith, length-take-le (min (get_or s 256 0) 257) s (omega arith)))

  part_is : get_or s 256 0 ≤ 256 → part ≡ take (get_or s 256 0) (take 256 s)
  part_is h =
      let e : min (get_or s 256 0) 257 ≡ get_or s 256 0 = omega arith in
      lent ∙ ap (λ (k : ℕ). take k s) e ∙ sym (take-take (get_or s 256 0) 256 s h)

  -- by any rules that say one thing past 256
  pub looked_at : {A : Type 0} (says : List ℕ → A) (over : A) → ((t : List ℕ) → 256 < length t → says t ≡ over) → says part ≡ looked_by says over (held s)
  unfolding looked_by held
  looked_at says over past =
      ⊎_elim (λ h. past part (part_past h) ∙ rw (lt-ltb 256 (get_or s 256 0) h)) (λ h. ap says (part_is h) ∙ rw (le-ltb 256 (get_or s 256 0) h))
      (lt_or_le 256 (get_or s 256 0))

  -- and what is said of the part is said of the text held
  pub held_said : (Says : List ℕ → Type 0) → Alike Says → Says part → Says (held_text (held s))
  unfolding held_text looked_by held
  held_said Says alike x =
      ⊎_elim (λ h. rw (lt-ltb 256 (get_or s 256 0) h) (alike part (replicate 257 0) (part_past h) (omega (arith, length-replicate {A = ℕ} 257 0)) x))
      (λ h. rw (le-ltb 256 (get_or s 256 0) h) (subst Says (part_is h) x))
      (lt_or_le 256 (get_or s 256 0))
