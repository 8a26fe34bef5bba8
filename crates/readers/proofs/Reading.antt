-- The second reader: each return of the code is one clause of its definition, and no label of over 63 characters is read, since
-- every character is counted.
-- Assumes nothing.
use mathlib.Core.Path.{◌≡◌, refl, sym, ap, ◌∙◌}
use mathlib.Core.Bool.{Bool, true, false, not, ◌&&◌}
use mathlib.Core.List.{List, [], ◌∷◌}
use Prim.Native.Nat.{ℕ, suc, ◌+◌, ◌-◌, ◌<◌}
use native.Mathlib.Omega.{arith}
use lib.Dec.{ltb}
use lib.ListN.{length, take, drop, get_or}
use lib.Seq.{take_all}
use borrow.Author.Tests.{eq-eqb, ne_eqb, lt-ltb, le-ltb}
use Rattle.lists.specs.Tests.{pick}
use Rattle.characters.specs.Characters.{hyphen}
use Rattle.rules.specs.Permits.{Permits, label_char}
use Rattle.rules.specs.Reader.{nothing, note, skip, length_fits, ending, after_character, after_hyphen, reader}
use Rattle.rules.specs.declared.Seen.{Seen}

-- ---- what is noted

pub skip_count : (s : Seen) {t : Seen} → t ≡ skip s → t.count ≡ s.count + 1
unfolding skip
skip_count s e = ap (λ (r : Seen). r.count) e

module _ (P : Permits) (s : Seen) (x : ℕ) where
  pub note_count : {t : Seen} → t ≡ note P s x → t.count ≡ s.count + 1
  unfolding note
  note_count e = ap (λ (r : Seen). r.count) e

-- ---- the two rules

-- the rest of a label that has a first character, as a part of the slice
rest : (x : ℕ) (xs : List ℕ) → take (length (x ∷ xs) - 1) (drop 1 (x ∷ xs)) ≡ xs
rest x xs = take_all (suc (length xs) - 1) xs (omega arith)

module _ (P : Permits) where
  pub none_character : (l : List ℕ) (s : Seen) {r : Bool} → length l ≡ 0 → r ≡ ending s → r ≡ after_character P l s
  unfolding after_character
  none_character [] s h e = e
  none_character (x ∷ xs) s h e = absurd (omega arith)

  pub none_hyphen : (l : List ℕ) (s : Seen) → length l ≡ 0 → false ≡ after_hyphen P l s
  unfolding after_character
  none_hyphen [] s h = refl
  none_hyphen (x ∷ xs) s h = absurd (omega arith)

  -- where something is left, the two rules say the same
  pub alike : (l : List ℕ) (s : Seen) → (length l ≡ 0 → ⊥) → after_character P l s ≡ after_hyphen P l s
  unfolding after_character
  alike [] s h = absurd (h refl)
  alike (x ∷ xs) s h = refl

  pub to_hyphen : (l : List ℕ) (s : Seen) {t : Seen} {r : Bool} → (length l ≡ 0 → ⊥) → get_or l 0 0 ≡ 0x2D → t ≡ skip s
      → r ≡ after_hyphen P (take (length l - 1) (drop 1 l)) t → r ≡ after_character P l s
  unfolding after_character hyphen
  to_hyphen [] s h q k e = absurd (h refl)
  to_hyphen (x ∷ xs) s {t} h q k e =
      e ∙ ap (λ (l : List ℕ). after_hyphen P l t) (rest x xs) ∙ ap (after_hyphen P xs) k ∙ simp (eq-eqb x 0x2D q)

  pub to_character : (l : List ℕ) (s : Seen) {t : Seen} {w r : Bool} → (length l ≡ 0 → ⊥) → (get_or l 0 0 ≡ 0x2D → ⊥) → w ≡ label_char P (get_or l 0 0) → w ≡ true
      → t ≡ note P s (get_or l 0 0) → r ≡ after_character P (take (length l - 1) (drop 1 l)) t → r ≡ after_character P l s
  unfolding after_character hyphen
  to_character [] s h n e p k f = absurd (h refl)
  to_character (x ∷ xs) s {t} h n e p k f =
      f ∙ ap (λ (l : List ℕ). after_character P l t) (rest x xs) ∙ ap (after_character P xs) k ∙ simp (ne_eqb x 0x2D n, sym e ∙ p)

  pub unread : (l : List ℕ) (s : Seen) {w : Bool} → (length l ≡ 0 → ⊥) → (get_or l 0 0 ≡ 0x2D → ⊥) → w ≡ label_char P (get_or l 0 0) → w ≡ false
      → false ≡ after_character P l s
  unfolding after_character hyphen
  unread [] s h n e p = absurd (h refl)
  unread (x ∷ xs) s h n e p = simp (ne_eqb x 0x2D n, sym e ∙ p)

-- ---- no label of more than 63

long_end : (s : Seen) → 63 < s.count → ending s ≡ false
unfolding ending length_fits
long_end s h = go s.ja
  where
    go : (j : Bool) → not (not j && ltb s.count 3) && not (ltb (pick j 15 63) s.count) && not (s.dot && not s.ordinary) ≡ false
    go true = rw (lt-ltb 15 s.count (omega arith))
    go false = rw (le-ltb s.count 3 (omega arith), lt-ltb 63 s.count h)

module _ (P : Permits) where
  long_step : (x : ℕ) (xs : List ℕ) (s : Seen) → after_hyphen P xs (skip s) ≡ false → after_character P xs (note P s x) ≡ false
      → pick (hyphen x) (after_hyphen P xs (skip s)) (pick (label_char P x) (after_character P xs (note P s x)) false) ≡ false
  long_step x xs s e f = go (hyphen x) (label_char P x)
    where
      go : (b w : Bool) → pick b (after_hyphen P xs (skip s)) (pick w (after_character P xs (note P s x)) false) ≡ false
      go true w = e
      go false true = f
      go false false = refl

  mutual
    unfolding after_character skip note

    long_character : (l : List ℕ) (s : Seen) → 63 < s.count + length l → after_character P l s ≡ false
    long_character [] s h = long_end s (omega arith)
    long_character (x ∷ xs) s h = long_step x xs s (long_hyphen xs (skip s) (omega arith)) (long_character xs (note P s x) (omega arith))

    long_hyphen : (l : List ℕ) (s : Seen) → 63 < s.count + length l → after_hyphen P l s ≡ false
    long_hyphen [] s h = refl
    long_hyphen (x ∷ xs) s h = long_step x xs s (long_hyphen xs (skip s) (omega arith)) (long_character xs (note P s x) (omega arith))

  -- ---- the reader

  pub no_label : (l : List ℕ) → length l ≡ 0 → false ≡ reader P l
  unfolding reader
  no_label [] h = refl
  no_label (x ∷ xs) h = absurd (omega arith)

  pub hyphen_first : (l : List ℕ) → (length l ≡ 0 → ⊥) → get_or l 0 0 ≡ 0x2D → false ≡ reader P l
  unfolding reader hyphen
  hyphen_first [] h q = absurd (h refl)
  hyphen_first (x ∷ xs) h q = simp (eq-eqb x 0x2D q)

  -- what begins with no hyphen is read as if after a character, of which nothing is noted
  pub begins : (l : List ℕ) → (length l ≡ 0 → ⊥) → (get_or l 0 0 ≡ 0x2D → ⊥) → after_character P l nothing ≡ reader P l
  unfolding reader after_character hyphen
  begins [] h n = absurd (h refl)
  begins (x ∷ xs) h n = simp (ne_eqb x 0x2D n)

  pub too_long : (l : List ℕ) → 63 < length l → false ≡ reader P l
  unfolding reader note nothing
  too_long [] h = refl
  too_long (x ∷ xs) h = go (hyphen x) (label_char P x) (long_character xs (note P nothing x) (omega arith))
    where
      go : (b w : Bool) → after_character P xs (note P nothing x) ≡ false → false ≡ pick b false (pick w (after_character P xs (note P nothing x)) false)
      go true w e = refl
      go false true e = sym e
      go false false e = refl
