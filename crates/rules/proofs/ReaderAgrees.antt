-- The second reader says yes exactly where the rules let a label be, but for 17: what it has seen at the end of a label is what 7 to 10 ask
-- of the whole, and its two rules part only at a label's end.
-- Assumes nothing.
use mathlib.Core.Path.{◌≡◌, refl, sym, ◌∙◌}
use mathlib.Core.Bool.{Bool, true, false, not, ◌&&◌, ◌||◌, or-false, or_assoc}
use mathlib.Core.List.{List, [], ◌∷◌}
use mathlib.Core.Logic.{◌↔◌}
use Prim.Native.Nat.{ℕ, ◌+◌}
use native.Mathlib.Omega.{arith}
use lib.ListN.{length}
use borrow.Author.Tests.{not-true}
use Rattle.lists.specs.Tests.{pick, all_of, any_of}
use Rattle.lists.specs.Rows.{accepted, first, without, Clear}
use Rattle.lists.proofs.Laws.{both, neither}
use Rattle.lists.proofs.Tables.{clear}
use Rattle.characters.specs.Characters.{hyphen}
use Rattle.rules.specs.Permits.{Permits, ja_char, Laws, label_char, is_empty}
use Rattle.rules.specs.Rules.{is_middle_dot, ordinary, is_japanese, begins_with_hyphen, ends_with_hyphen, hyphen_edge, short, long, of_name, pretends, bare_dot, label_rows, Meets, Sound}
use Rattle.rules.specs.Grammar.{label}
use Rattle.rules.specs.Reader.{nothing, note, skip, length_fits, ending, after_character, after_hyphen, reader}
use Rattle.rules.specs.declared.Seen.{Seen}
use Rattle.rules.proofs.ByName.{clear_meets, meets_clear, label_clear, label_17}
use Rattle.rules.proofs.Sound.{ascii_not, ascii_no_dot, hyphen_ascii, ascii_label_lem, label_sound, sound_label}

-- all of a list noted
unfoldable note_all : Permits → Seen → List ℕ → Seen
note_all P s [] = s
note_all P s (x ∷ xs) = note_all P (note P s x) xs

-- what the rest of a label must be
unfoldable goes_on : Permits → Seen → List ℕ → Bool
goes_on P s l = all_of (label_char P) l && (not (ends_with_hyphen l) && ending (note_all P s l))

module _ (P : Permits) where
  count_all : (l : List ℕ) (s : Seen) → (note_all P s l).count ≡ s.count + length l
  unfolding note_all note
  count_all [] s = omega arith
  count_all (x ∷ xs) s = omega (arith, count_all xs (note P s x))

  -- a field of what is seen that only ever turns true, where the test holds
  module _ (field : Seen → Bool) (f : ℕ → Bool) (on : (s : Seen) (x : ℕ) → field (note P s x) ≡ field s || f x) where
    seen_all : (l : List ℕ) (s : Seen) → field (note_all P s l) ≡ field s || any_of f l
    unfolding note_all any_of
    seen_all [] s = sym (or-false (field s))
    seen_all (x ∷ xs) s = seen_all xs (note P s x) ∙ rw (on s x) (or_assoc (field s) (f x) (any_of f xs))

  end_all : (l : List ℕ) → ending (note_all P nothing l) ≡ not (short P 3 l) && not (long P l) && not (bare_dot P l)
  unfolding ending length_fits nothing note is_japanese short long bare_dot
  end_all l =
      let n : (note_all P nothing l).count ≡ length l = omega (arith, count_all l nothing) in
      let j = seen_all (λ (s : Seen). s.ja) (ja_char P) (λ s x. refl) l nothing in
      let d = seen_all (λ (s : Seen). s.dot) is_middle_dot (λ s x. refl) l nothing in
      let o = seen_all (λ (s : Seen). s.ordinary) (ordinary P) (λ s x. refl) l nothing in
      rw (j, d, o, n)

module _ (P : Permits) (L : Laws P) where
  hyphen_label : (x : ℕ) → hyphen x ≡ true → label_char P x ≡ true
  hyphen_label x h = ascii_label_lem P L x (hyphen_ascii x h)

  skip_note : (s : Seen) (x : ℕ) → hyphen x ≡ true → skip s ≡ note P s x
  unfolding skip note ordinary
  skip_note s x h =
      let a = hyphen_ascii x h in
      rw (ascii_not P L x a, ascii_no_dot x a, or-false s.ja, or-false s.dot, or-false s.ordinary)

  on_hyphen : (x : ℕ) (xs : List ℕ) (s : Seen) → hyphen x ≡ true → not (is_empty xs) && goes_on P (skip s) xs ≡ goes_on P s (x ∷ xs)
  unfolding goes_on all_of note_all ends_with_hyphen is_empty
  on_hyphen x [] s h = rw (h, hyphen_label x h)
  on_hyphen x (y ∷ ys) s h = rw (skip_note s x h, hyphen_label x h)

  on_character : (x : ℕ) (xs : List ℕ) (s : Seen) → hyphen x ≡ false → label_char P x ≡ true → goes_on P (note P s x) xs ≡ goes_on P s (x ∷ xs)
  unfolding goes_on all_of note_all ends_with_hyphen
  on_character x [] s h w = rw (h, w)
  on_character x (y ∷ ys) s h w = rw w

  on_other : (x : ℕ) (xs : List ℕ) (s : Seen) → label_char P x ≡ false → false ≡ goes_on P s (x ∷ xs)
  unfolding goes_on all_of
  on_other x xs s w = rw w

  -- past what is no hyphen, and past any character, given what the two rules say of the rest
  past : (x : ℕ) (xs : List ℕ) (s : Seen) {r : Bool} → r ≡ goes_on P (note P s x) xs → hyphen x ≡ false
      → pick (label_char P x) r false ≡ goes_on P s (x ∷ xs)
  past x xs s {r} f h = go (label_char P x) refl
    where
      go : (w : Bool) → label_char P x ≡ w → pick w r false ≡ goes_on P s (x ∷ xs)
      go true q = f ∙ on_character x xs s h q
      go false q = on_other x xs s q

  step : (x : ℕ) (xs : List ℕ) (s : Seen) {q r : Bool} → q ≡ not (is_empty xs) && goes_on P (skip s) xs → r ≡ goes_on P (note P s x) xs
      → pick (hyphen x) q (pick (label_char P x) r false) ≡ goes_on P s (x ∷ xs)
  step x xs s {q} {r} e f = go (hyphen x) refl
    where
      go : (b : Bool) → hyphen x ≡ b → pick b q (pick (label_char P x) r false) ≡ goes_on P s (x ∷ xs)
      go true h = e ∙ on_hyphen x xs s h
      go false h = past x xs s f h

  mutual
    unfolding after_character goes_on all_of note_all ends_with_hyphen is_empty

    character_is : (l : List ℕ) (s : Seen) → after_character P l s ≡ goes_on P s l
    character_is [] s = refl
    character_is (x ∷ xs) s = step x xs s (hyphen_is xs (skip s)) (character_is xs (note P s x))

    hyphen_is : (l : List ℕ) (s : Seen) → after_hyphen P l s ≡ not (is_empty l) && goes_on P s l
    hyphen_is [] s = refl
    hyphen_is (x ∷ xs) s = step x xs s (hyphen_is xs (skip s)) (character_is xs (note P s x))

  reader_is : (l : List ℕ) → reader P l ≡ not (is_empty l) && (not (begins_with_hyphen l) && goes_on P nothing l)
  unfolding reader is_empty begins_with_hyphen
  reader_is [] = refl
  reader_is (x ∷ xs) = go (hyphen x) refl
    where
      go : (b : Bool) → hyphen x ≡ b → pick b false (pick (label_char P x) (after_character P xs (note P nothing x)) false) ≡ not b && goes_on P nothing (x ∷ xs)
      go true h = refl
      go false h = past x xs nothing (character_is xs (note P nothing x)) h

  -- ---- yes exactly where the rules let the label be

  reads_sound : (l : List ℕ) → reader P l ≡ true → Sound P 3 l
  unfolding goes_on hyphen_edge
  reads_sound l e =
      let a = both _ _ (sym (reader_is l) ∙ e) in
      let b = both _ _ a.1 in
      let c = both _ _ b.1 in
      let d = both _ _ c.1 in
      let f = both _ _ (sym (end_all P l) ∙ d.1) in
      let g = both _ _ f.0 in
      record {
        chars = c.0;
        filled = not-true (is_empty l) a.0;
        meets = record {
          edge = rw (not-true (begins_with_hyphen l) b.0) (not-true (ends_with_hyphen l) d.0);
          enough = not-true (short P 3 l) g.0;
          few = not-true (long P l) g.1;
          dotted = not-true (bare_dot P l) f.1;
        };
      }

  sound_reads : (l : List ℕ) → Sound P 3 l → reader P l ≡ true
  unfolding goes_on hyphen_edge
  sound_reads l S =
      let m = S.meets in
      let h = neither (begins_with_hyphen l) (ends_with_hyphen l) m.edge in
      reader_is l ∙ rw (S.filled, h.0, S.chars, h.1, end_all P l, m.enough, m.few, m.dotted)

  pub reader_agrees : (l : List ℕ) → (reader P l ≡ true) ↔ Sound P 3 l
  reader_agrees l = (reads_sound l, sound_reads l)

  -- in the words of the table: no row but 17 applies to it as a leftmost label
  pub agrees_but_17 : (l : List ℕ)
      → (reader P l ≡ true) ↔ ((all_of (label_char P) l ≡ true) × (is_empty l ≡ false) × Clear (without 17 (label_rows P of_name l 0)))
  agrees_but_17 l = (
    λ e. let S = reads_sound l e in (S.chars, S.filled, meets_clear P of_name l 0 S.meets),
    λ h. sound_reads l (record { chars = h.0; filled = h.1; meets = clear_meets P of_name l 0 h.2 }),
  )

  -- so to a label that it reads the table answers 17 where the label pretends, and accepts every other
  pub read_answer : (l : List ℕ) → reader P l ≡ true
      → first (label_rows P of_name l 0) ≡ pick (pretends P of_name l) (record { number = 17; place = 0 }) accepted
  read_answer l e = let m = (reads_sound l e).meets in go (pretends P of_name l) refl m
    where
      go : (b : Bool) → pretends P of_name l ≡ b → Meets P 3 l → first (label_rows P of_name l 0) ≡ pick b (record { number = 17; place = 0 }) accepted
      go true p m = label_17 P of_name l 0 m p
      go false p m = clear (label_rows P of_name l 0) (label_clear P of_name l 0 m p)

  -- and it reads the grammar's labels
  pub reads_labels : (l : List ℕ) → (reader P l ≡ true) ↔ label P l
  reads_labels l = (λ e. sound_label P L (reads_sound l e), λ d. sound_reads l (label_sound P L d))
