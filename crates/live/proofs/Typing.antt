-- For any rules that say one thing of every text past 256: what is shown after steps is what the rules say of all that was typed,
-- since the state holds the text itself until it is past 256, and then only that it is.
-- Assumes nothing.
use mathlib.Core.Path.{◌≡◌, refl, sym, ap, ◌∙◌}
use mathlib.Core.Bool.{Bool, true, false}
use mathlib.Core.List.{List, [], ◌∷◌, ◌++◌, append-nil}
use mathlib.Core.Logic.{◌⊎◌, inl, inr, ⊎_elim}
use Prim.Native.Nat.{ℕ, suc, ◌+◌, ◌≤◌, ◌<◌}
use native.Mathlib.Numerals.{add-one}
use native.Mathlib.Omega.{arith}
use lib.ListN.{length, take, set, length-set, length-replicate, length-append}
use lib.Seq.{take-suc-set, append_snoc}
use lib.Dec.{ltb}
use borrow.Author.Tests.{lt-ltb, le-ltb}
use Rattle.lists.specs.Tests.{pick}
use Rattle.lists.proofs.Laws.{lt_or_le}
use Rattle.live.specs.Live.{fresh, stepped, typed, looked_by}
use Rattle.live.specs.declared.Live.{Live}

-- the state holds the text t
pub record Text (l : Live) (t : List ℕ) : Type 0 where
  pub array : length l.text ≡ 256
  pub count : l.count ≡ length t
  pub few : length t ≤ 256
  pub held : take l.count l.text ≡ t

-- the state says that the text t is past 256
pub record Past (l : Live) (t : List ℕ) : Type 0 where
  pub count : l.count ≡ 257
  pub many : 256 < length t

abbrev pub Holds : Live → List ℕ → Type 0
Holds l t = Text l t ⊎ Past l t

pub fresh_holds : (e : ℕ) → Holds (fresh e) []
unfolding fresh
fresh_holds e = inl (record { array = length-replicate {A = ℕ} 256 0; count = refl; few = omega arith; held = refl })

more : (t : List ℕ) (c : ℕ) → length (t ++ c ∷ []) ≡ suc (length t)
more t c = omega (arith, length-append t (c ∷ []))

module _ (l : Live) (t : List ℕ) (c : ℕ) where
  room : Text l t → l.count < 256 → Holds (stepped l c) (t ++ c ∷ [])
  unfolding stepped
  room h g = rw (lt-ltb l.count 256 g) (inl (record {
    array = length-set l.text l.count c ∙ h.array;
    count = omega (arith, more t c, h.count);
    few = omega (arith, more t c, h.count);
    held = rw add-one (take-suc-set l.text l.count c (omega (arith, h.array)) ∙ ap (λ (x : List ℕ). x ++ c ∷ []) h.held);
  }))

  full : 256 ≤ l.count → 256 ≤ length t → Holds (stepped l c) (t ++ c ∷ [])
  unfolding stepped
  full g m = rw (le-ltb l.count 256 g) (inr (record { count = refl; many = omega (arith, more t c) }))

  pub step_holds : Holds l t → Holds (stepped l c) (t ++ c ∷ [])
  step_holds h =
      ⊎_elim
      (λ x. ⊎_elim (λ g. room x g) (λ g. full g (omega (arith, x.count))) (lt_or_le l.count 256))
      (λ x. full (omega (arith, x.count)) (omega (arith, x.many))) h

pub typed_holds : (cs : List ℕ) (l : Live) (t : List ℕ) → Holds l t → Holds (typed l cs) (t ++ cs)
unfolding typed
typed_holds [] l t h = rw append-nil h
typed_holds (c ∷ cs) l t h = rw append_snoc at (typed_holds cs (stepped l c) (t ++ c ∷ []) (step_holds l t c h))

-- ---- the edition is kept

step_keeps : (l : Live) (c : ℕ) → (stepped l c).edition ≡ l.edition
unfolding stepped
step_keeps l c = go (ltb l.count 256)
  where
    go : (b : Bool) → (pick {A = Live} b (record { edition = l.edition; text = set l.text l.count c; count = l.count + 1 }) (record { edition = l.edition; text = l.text; count = 257 })).edition ≡ l.edition
    go true = refl
    go false = refl

typed_keeps : (cs : List ℕ) (l : Live) → (typed l cs).edition ≡ l.edition
unfolding typed
typed_keeps [] l = refl
typed_keeps (c ∷ cs) l = typed_keeps cs (stepped l c) ∙ step_keeps l c

pub edition_kept : (e : ℕ) (cs : List ℕ) → (typed (fresh e) cs).edition ≡ e
unfolding fresh
edition_kept e cs = typed_keeps cs (fresh e)

-- ---- what is shown

module _ {A : Type 0} (says : List ℕ → A) (over : A) (past : (t : List ℕ) → 256 < length t → says t ≡ over) where
  shows : (l : Live) (t : List ℕ) → Holds l t → looked_by says over l ≡ says t
  unfolding looked_by
  shows l t h =
      ⊎_elim
      (λ x. rw (le-ltb 256 l.count (omega (arith, x.count, x.few)), x.held))
      (λ x. rw (lt-ltb 256 l.count (omega (arith, x.count))) (sym (past t x.many))) h

  -- what is shown of all that was typed, as if it ended there
  pub live_is : (e : ℕ) (cs : List ℕ) → looked_by says over (typed (fresh e) cs) ≡ says cs
  live_is e cs = shows (typed (fresh e) cs) cs (typed_holds cs (fresh e) [] (fresh_holds e))
