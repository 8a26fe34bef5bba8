-- What is handed back. Of the wish that won it is the part before the first separator: an accepted name has two labels or three, so there is
-- a separator, and its leftmost label is not empty, so the part is not either. Two results of one call are the same slice.
-- Assumes nothing.
use mathlib.Core.Path.{◌≡◌, refl}
use mathlib.Core.Bool.{Bool, true, false, ◌&&◌, ◌||◌}
use mathlib.Core.List.{List, [], ◌∷◌}
use mathlib.Core.Logic.{⊎_elim}
use Prim.Native.Nat.{ℕ, ◌≤◌, ◌<◌}
use native.Mathlib.Omega.{arith}
use lib.Dec.{eqb}
use lib.ListN.{length, take, get_or}
use denote.Ref.{Bor}
use denote.Slice.{shr_slice_vals, slice_val}
use Rattle.lists.specs.Tests.{any_of}
use Rattle.lists.proofs.Laws.{clash, neither, lt_or_le, index_bound}
use Rattle.lists.proofs.Scan.{not_found}
use Rattle.lists.proofs.Unique.{decided}
use Rattle.characters.specs.Characters.{separator}
use Rattle.characters.specs.KanjiBits.{kanji_bits}
use Rattle.normal.specs.Normal.{replaced_from, compose, normal_placed, normal_form}
use Rattle.rules.specs.Labels.{labels}
use Rattle.rules.specs.Permits.{Permits, is_empty}
use Rattle.rules.specs.Editions.{today}
use Rattle.rules.specs.Rules.{rules, verdict}
use Rattle.rules.proofs.ByName.{Passed, clear_text, text_cleared}
use Rattle.rules.proofs.Cuts.{labels_one}
use Rattle.rules.proofs.Editions.{lending}
use Rattle.wishes.specs.Wishes.{alone, winner, part_length, winners, handed_length, Begins, Hands}
use Rattle.wishes.specs.Examples.{AsWished, as_wished}
use Rattle.wishes.proofs.Choosing.{WonBy, by_first, by_second, by_neither, won_by_lem}
use Rattle.wishes.proofs.Leftmost.{no_period, Cut, cut_labels, cut_there, leftmost_part}

-- ---- an accepted text

-- one label is too few
alone_few : (b : Bool) → eqb 1 2 || (b && eqb 1 3) ≡ true → ⊥
alone_few true e = clash e refl
alone_few false e = clash e refl

module _ (P : Permits) (t : List ℕ) (accepted : (rules P t).number ≡ 0) where
  passed : Passed P (labels (normal_form t))
  unfolding rules verdict
  passed = (clear_text P t (text_cleared P t accepted)).1

  few : part_length t ≤ 256
  unfolding rules verdict part_length
  few = omega (arith, index_bound separator t, (clear_text P t (text_cleared P t accepted)).0.few)

  has_separator : part_length t < length t
  unfolding part_length
  has_separator = ⊎_elim (λ h. h) (λ h. absurd (one (labels_one (normal_form t) (no_period t (not_found separator t h))))) (lt_or_le (part_length t) (length t))
    where
      one : labels (normal_form t) ≡ normal_form t ∷ [] → ⊥
      one e = alone_few P.three (rw e at passed.count)

  abbrev part_of : List ℕ
  part_of = take (part_length t) t

  cut : Cut t part_of
  cut = cut_there t has_separator

  not_empty : 1 ≤ length part_of
  unfolding any_of is_empty normal_form normal_placed replaced_from compose
  not_empty = go part_of (cut_labels cut)
    where
      go : (l : List ℕ) {ls : List (List ℕ)} → labels (normal_form t) ≡ normal_form l ∷ ls → 1 ≤ length l
      go [] {ls} e = clash refl (neither (is_empty (normal_form [])) (any_of is_empty ls) (rw e at passed.filled)).0
      go (x ∷ xs) e = omega arith

-- ---- what is handed back

-- how long it is: no more than a text may have
pub handed_few : (P : Permits) (a b : List ℕ) → handed_length (winner P a b) a b ≤ 256
unfolding alone winner handed_length
handed_few P a b = go (won_by_lem (alone P a).number (alone P b).number)
  where
    go : {w : ℕ} → WonBy (alone P a).number (alone P b).number w → handed_length w a b ≤ 256
    go (by_first e) = few P a e
    go (by_second n e) = few P b e
    go (by_neither n m) = omega arith

-- as the part of a text
pub record LeftmostPart (P : Permits) (text part : List ℕ) : Type 0 where
  pub accepted : (rules P text).number ≡ 0
  pub cut : Cut text part
  pub leftmost : normal_form part ≡ get_or (labels (normal_form text)) 0 []
  pub some : 1 ≤ length part

of_accepted : (P : Permits) (t : List ℕ) → (rules P t).number ≡ 0 → LeftmostPart P t (take (part_length t) t)
of_accepted P t e = record { accepted = e; cut = cut P t e; leftmost = leftmost_part t; some = not_empty P t e }

module _ (P : Permits) (first second part : Bor (List ℕ)) (H : Hands P first second part) where
  abbrev a : List ℕ
  a = first.now

  abbrev b : List ℕ
  b = second.now

  -- as the winner is known
  by_winner : {w : ℕ} → WonBy (alone P a).number (alone P b).number w → (w ≡ 0 → ⊥)
      → part.now ≡ take (handed_length w a b) (winners w first second).now → LeftmostPart P (winners w a b) part.now
  unfolding alone handed_length
  by_winner (by_first e) n s = rw s (of_accepted P a e)
  by_winner (by_second m e) n s = rw s (of_accepted P b e)
  by_winner (by_neither m k) n s = absurd (n refl)

  -- where a wish won
  pub handed : (winner P a b ≡ 0 → ⊥) → LeftmostPart P (winners (winner P a b) a b) part.now
  unfolding winner
  handed n = by_winner (won_by_lem (alone P a).number (alone P b).number) n H.shows

  -- where neither did: the empty part at the start of the first text
  pub handed_none : winner P a b ≡ 0 → (part.ref_ptr ≡ first.ref_ptr) × (part.now ≡ [])
  unfolding handed_length
  handed_none e = (rw e at H.begins, rw e at H.shows)

-- the examples, at the edition in force
pub wished_today : AsWished today
wished_today = lending AsWished 4 {table = kanji_bits} refl as_wished

-- ---- two results of one call are one slice: where it begins, how long it is, what it shows

pub begins_once : {whole p q : Bor (List ℕ)} {n : ℕ} → Begins whole n p → Begins whole n q → (shr_slice_vals p ≡ shr_slice_vals q) × (p.now ≡ q.now)
begins_once h k =
    let s = decided h.shows k.shows in
    ((λ i. slice_val (decided h.begins k.begins i) (length (s i)) ∷ []), s)
