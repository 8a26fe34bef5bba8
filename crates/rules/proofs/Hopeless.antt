-- Past 256 code points there is no hope: labels that may grow have 127 characters at most, and a text has at most twice as many
-- code points as its normal form has characters. This asks of an edition only that its prefecture labels are short.
-- Assumes nothing.
use mathlib.Core.Path.{◌≡◌, ap}
use mathlib.Core.Bool.{true, false, not, ◌||◌, false≢true}
use mathlib.Core.List.{List, [], ◌∷◌, ◌++◌}
use Prim.Native.Nat.{ℕ, ◌≤◌, ◌<◌}
use native.Mathlib.Omega.{arith}
use lib.ListN.{length, length-append}
use Rattle.lists.specs.Tests.{any_of}
use Rattle.lists.proofs.Laws.{both, either, refuted}
use Rattle.normal.specs.Normal.{normal_form}
use Rattle.normal.proofs.Laws.{not_twice}
use Rattle.rules.specs.Labels.{labels, join}
use Rattle.rules.specs.Permits.{Permits, ShortMiddles, middle}
use Rattle.rules.specs.Rules.{unfit, jp}
use Rattle.rules.specs.Hopeful.{begins, leftmost, tries, grows, hopeful}
use Rattle.rules.proofs.Cuts.{join_labels}
use Rattle.rules.proofs.Derived.{meets_length, middle_length}
use Rattle.rules.proofs.Growing.{leftmost_meets, begins_is, one_of}

pub leftmost_length : (P : Permits) (l : List ℕ) → leftmost P l ≡ true → length l ≤ 63
leftmost_length P l e = meets_length P 3 l (leftmost_meets P l e).0

pub begins_length : (l w : List ℕ) → begins l w ≡ true → length l ≤ length w
begins_length l w e = let k = begins_is l w e in omega (arith, length-append l k.0, ap length k.1)

module _ (P : Permits) (short : ShortMiddles P) where
  first_length : (l : List ℕ) → any_of (λ (r : List ℕ). leftmost P (l ++ r)) tries ≡ true → length l ≤ 63
  first_length l e =
      let k = one_of (λ (r : List ℕ). leftmost P (l ++ r)) tries e in
      omega (arith, leftmost_length P (l ++ k.0) k.1, length-append l k.0)

  second_length : (m : List ℕ) → begins m jp || any_of (begins m) P.middles ≡ true → length m ≤ 15
  unfolding jp
  second_length m e = either (begins m jp) _ e
      (λ p. omega (arith, begins_length m jp p))
      (λ p.
      let k = one_of (begins m) P.middles p in
      omega (arith, begins_length m k.0 k.1, middle_length P short k.0 (unfold middle in k.2)))

  grows_length : (ls : List (List ℕ)) → grows P ls ≡ true → length (join ls) ≤ 127
  unfolding grows join jp
  grows_length [] e = absurd (false≢true e)
  grows_length (l ∷ []) e = omega (arith, first_length l e)
  grows_length (l ∷ m ∷ []) e =
      let k = both (leftmost P l) _ e in
      omega (arith, leftmost_length P l k.0, second_length m k.1, length-append l (0x2E ∷ m))
  grows_length (l ∷ m ∷ z ∷ []) e =
      let k = both (leftmost P l) _ e in
      let h = both (middle P m) (begins z jp) k.1 in
      omega (arith, leftmost_length P l k.0, middle_length P short m h.0, begins_length z jp h.1, length-append l (0x2E ∷ (m ++ 0x2E ∷ z)), length-append m (0x2E ∷ z))
  grows_length (l ∷ m ∷ z ∷ y ∷ ls) e = absurd (false≢true e)

  pub past_hope : (text : List ℕ) → 256 < length text → hopeful P text ≡ false
  unfolding hopeful
  past_hope text h = refuted (hopeful P text) (λ p.
      let form = normal_form text in
      let g = both (not (any_of (unfit P) form)) (grows P (labels form)) (both P.known _ p).1 in
      omega (arith, ap length (join_labels form), grows_length (labels form) g.1, not_twice text))
