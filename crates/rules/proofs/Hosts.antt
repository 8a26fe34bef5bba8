-- None of the rows 2 to 10 and 17 of a host applies exactly where the text has at most 256 code points and its normal form is three host
-- labels or more, joined by periods: a host label is a sound one without the pair. 8 never comes: past 6 no label is empty.
-- Assumes nothing.
use mathlib.Core.Path.{◌≡◌, refl, sym, ◌∙◌}
use mathlib.Core.Bool.{Bool, true, false, ◌||◌, true≢false, and-true}
use mathlib.Core.List.{List, [], ◌∷◌, ◌++◌}
use mathlib.Core.Logic.{◌↔◌}
use Prim.Native.Nat.{ℕ, suc, ◌+◌, ◌≤◌, ◌<◌}
use native.Mathlib.Omega.{arith}
use lib.Dec.{eqb, ltb}
use lib.ListN.{length, length-append}
use borrow.Author.Tests.{eqb-true, ne_eqb, ltb-true, lt-ltb}
use Rattle.lists.specs.Tests.{pick, all_of, any_of, index_of}
use Rattle.lists.specs.Rows.{row, says, first, Clear}
use Rattle.lists.specs.Rows.{Answer}
use Rattle.lists.proofs.Laws.{both, neither, refuted, clash}
use Rattle.lists.proofs.Scan.{found_inside}
use Rattle.lists.proofs.Tables.{of_two, of_rows}
use Rattle.characters.specs.Characters.{hyphen}
use Rattle.normal.specs.Normal.{normal_form}
use Rattle.normal.proofs.Laws.{no_longer}
use Rattle.rules.specs.Labels.{labels, join}
use Rattle.rules.specs.Permits.{Permits, ja_char, Laws, label_char, is_empty}
use Rattle.rules.specs.Rules.{unfit, begins_with_hyphen, ends_with_hyphen, hyphen_edge, hyphen_pair, pretends, label_rows, front_rows, Sound}
use Rattle.rules.specs.Grammar as G
use Rattle.rules.specs.Hosts.{of_host, each_rows, host_rows, host_text_rows, host_label, as_in_names, one, two, host_labels, last, more, host, three}
use Rattle.rules.proofs.Views.{Ends, empty, single, pair, ends, length_ends, Every, none, also}
use Rattle.rules.proofs.Says.{alnum_says}
use Rattle.rules.proofs.Cuts.{some_label, join_labels, labels_fit, labels_one, labels_cut}
use Rattle.rules.proofs.ByName.{label_not_8, Kept, clear_host, host_clear, past_6}
use Rattle.rules.proofs.Sound.{alnum_ascii, filled_some, has_least, at_least, plain_sound, plain_one, plain_ends, sound_ja, label_sound, sound_label}
use Rattle.rules.proofs.Derived.{no_period, all_fit, fits}
use Rattle.rules.proofs.Pretends.{pair_says}

module _ (P : Permits) (L : Laws P) where
  -- ---- one label

  pub host_sound : {l : List ℕ} → host_label P l → Sound P 1 l × (hyphen_pair l ≡ false)
  unfolding all_of hyphen_edge begins_with_hyphen ends_with_hyphen hyphen_pair hyphen
  host_sound (as_in_names {l = l} d n) =
      let S = label_sound P L d in
      (at_least 1 (filled_some l S.filled) S, refuted (hyphen_pair l) (λ e. n ((pair_says l).0 e)))
  host_sound (one {a = a} p) =
      let h = alnum_ascii a ((alnum_says a).1 p) in
      (plain_sound P L 1 (a ∷ []) (rw h.0) (rw h.1) (omega arith) (omega arith) (omega arith), refl)
  host_sound (two {a = a} {z = z} p q) =
      let h = alnum_ascii a ((alnum_says a).1 p) in
      let k = alnum_ascii z ((alnum_says z).1 q) in
      (plain_sound P L 1 (a ∷ z ∷ []) (rw (h.0, k.0)) (rw (h.1, k.1)) (omega arith) (omega arith) (omega arith), refl)

  pub sound_host : (l : List ℕ) → Sound P 1 l → hyphen_pair l ≡ false → host_label P l
  unfolding is_empty
  sound_host l S n = go (any_of (ja_char P) l) refl
    where
      named : {l : List ℕ} → G.label P l → hyphen_pair l ≡ false → host_label P l
      named {l} d n = as_in_names d (λ p. clash ((pair_says l).1 p) n)

      ascii : {l : List ℕ} → Ends l → Sound P 1 l → hyphen_pair l ≡ false → any_of (ja_char P) l ≡ false → host_label P l
      ascii empty S n e = absurd (true≢false S.filled)
      ascii (single a) S n e = one (plain_one P L a S e)
      ascii (pair a [] z) S n e = let p = plain_ends P L a [] z S e in two p.0 p.2
      ascii (pair a (x ∷ m) z) S n e = named (sound_label P L (at_least 3 (omega (arith, length_ends a (x ∷ m) z)) S)) n

      go : (b : Bool) → any_of (ja_char P) l ≡ b → host_label P l
      go true e = named (G.a_japanese (sound_ja P L l S e)) n
      go false e = ascii (ends l) S n e

  -- ---- all labels

  -- 17 of a label of a host is the pair
  pair_is : (l : List ℕ) → pretends P of_host l ≡ hyphen_pair l
  unfolding pretends
  pair_is l = and-true (hyphen_pair l)

  kept_host : {ls : List (List ℕ)} → all_of (all_of (label_char P)) ls ≡ true → any_of is_empty ls ≡ false → Every (Kept P) ls → Every (host_label P) ls
  unfolding all_of any_of
  kept_host w f none = none
  kept_host w f (also {x = l} k ks) =
      let a = both (all_of (label_char P) l) _ w in
      let b = neither (is_empty l) _ f in
      also (sound_host l (record { chars = a.0; filled = b.0; meets = k.0 }) (sym (pair_is l) ∙ k.1)) (kept_host a.1 b.1 ks)

  host_kept : {ls : List (List ℕ)} → Every (host_label P) ls → (any_of is_empty ls ≡ false) × Every (Kept P) ls
  unfolding any_of
  host_kept none = (refl, none)
  host_kept (also {x = l} d ds) =
      let S = host_sound d in
      let k = host_kept ds in
      (rw S.0.filled k.0, also (S.0.meets, pair_is l ∙ S.1) k.1)

  -- ---- joined by periods

  join_some : (l : List ℕ) (ls : List (List ℕ)) → Every (host_label P) (l ∷ ls) → host_labels P (join (l ∷ ls))
  unfolding join
  join_some l [] (also d ds) = last d
  join_some l (m ∷ ls) (also d ds) = more d (join_some m ls ds)

  join_three : (ls : List (List ℕ)) → 3 ≤ length ls → Every (host_label P) ls → host P (join ls)
  unfolding join
  join_three [] h E = absurd (omega arith)
  join_three (a ∷ []) h E = absurd (omega arith)
  join_three (a ∷ b ∷ []) h E = absurd (omega arith)
  join_three (a ∷ b ∷ c ∷ ls) h (also d (also e E)) = three d e (join_some c ls E)

  -- and cut at them again
  record Cut (n : ℕ) (t : List ℕ) : Type 0 where
    fit : any_of (unfit P) t ≡ false
    some : 1 ≤ length t
    count : n ≤ length (labels t)
    each : Every (host_label P) (labels t)

  cut_more : {l r : List ℕ} {n : ℕ} → host_label P l → Cut n r → Cut (suc n) (l ++ 0x2E ∷ r)
  cut_more {l} {r} d C =
      let w = (host_sound d).0.chars in
      let e = labels_cut l r (no_period P L.stretch l w) in
      record {
        fit = fits P L l r w C.fit;
        some = omega (arith, length-append l (0x2E ∷ r));
        count = rw e (omega (arith, C.count));
        each = rw e (also d C.each);
      }

  cut_some : {t : List ℕ} → host_labels P t → Cut 1 t
  cut_some (last {l = l} d) =
      let S = (host_sound d).0 in
      let e = labels_one l (no_period P L.stretch l S.chars) in
      record { fit = all_fit P L l S.chars; some = filled_some l S.filled; count = rw e (omega arith); each = rw e (also d none) }
  cut_some (more d h) = let C = cut_more d (cut_some h) in record { fit = C.fit; some = C.some; count = omega (arith, C.count); each = C.each }

  cut_three : {t : List ℕ} → host P t → Cut 3 t
  cut_three (three d e h) = cut_more d (cut_more e (cut_some h))

  -- ---- a text

  pub clear_exactly : (text : List ℕ) → Clear (host_text_rows P text) ↔ ((length text ≤ 256) × host P (normal_form text))
  clear_exactly text = (there, back)
    where
      there : Clear (host_text_rows P text) → (length text ≤ 256) × host P (normal_form text)
      there c =
          let ls = labels (normal_form text) in
          let h = clear_host P text c in
          let E = kept_host (labels_fit P (normal_form text) h.0.fit) h.1.filled h.1.each in
          (h.0.few, rw (join_labels (normal_form text)) at (join_three ls h.1.count E))

      back : (length text ≤ 256) × host P (normal_form text) → Clear (host_text_rows P text)
      back (few, h) =
          let C = cut_three h in
          let k = host_kept C.each in
          host_clear P text (record { some = omega (arith, C.some, no_longer text); few = few; fit = C.fit })
          (record { count = C.count; filled = k.0; each = k.1 })

-- ---- 8 never comes

module _ (P : Permits) where
  each_no_8 : (i : ℕ) (ls : List (List ℕ)) → any_of is_empty ls ≡ false → (first (each_rows P i ls)).number ≡ 8 → ⊥
  unfolding each_rows any_of first
  each_no_8 i [] f = λ e. omega arith
  each_no_8 i (l ∷ ls) f =
      let b = neither (is_empty l) _ f in
      of_two (λ (a : Answer). a.number ≡ 8 → ⊥) (label_rows P of_host l i) _
      (label_not_8 P of_host l i (has_least P 1 l (filled_some l b.0))) (each_no_8 _ ls b.1)

  pub never_8 : (text : List ℕ) → (first (host_text_rows P text)).number ≡ 8 → ⊥
  never_8 text e = let k = past_6 P text e in each_no_8 0 (labels (normal_form text)) k.0 k.1

-- ---- but for 3 and 4 the place is a label's index

module _ (P : Permits) (n : ℕ) (some : 1 ≤ n) where
  label_inside : (l : List ℕ) (i : ℕ) → i < n → (first (label_rows P of_host l i)).place < n
  unfolding label_rows all_of
  label_inside l i h =
      ltb-true _ n (of_rows (λ (a : Answer). ltb a.place n) (lt-ltb 0 n (omega arith)) (label_rows P of_host l i) (rw (lt-ltb i n h)))

  each_inside : (i : ℕ) (ls : List (List ℕ)) → i + length ls ≤ n → (first (each_rows P i ls)).place < n
  unfolding each_rows first
  each_inside i [] h = omega arith
  each_inside i (l ∷ ls) h =
      of_two (λ (a : Answer). a.place < n) (label_rows P of_host l i) _
      (label_inside l i (omega arith)) (each_inside _ ls (omega arith))

host_inside : (P : Permits) (ls : List (List ℕ)) → 1 ≤ length ls → (first (host_rows P ls)).place < length ls
unfolding host_rows first
host_inside P ls some = go (ltb (length ls) 3) (any_of is_empty ls) refl
  where
    go : (b c : Bool) → any_of is_empty ls ≡ c
        → (pick b (says (row 5 b 0)) (pick c (says (row 6 c (index_of is_empty ls))) (first (each_rows P 0 ls)))).place < length ls
    go true c e = omega arith
    go false true e = found_inside is_empty ls e
    go false false e = each_inside P (length ls) some 0 ls (omega arith)

pub place_inside : (P : Permits) (text : List ℕ) → ((first (host_text_rows P text)).number ≡ 3 → ⊥) → ((first (host_text_rows P text)).number ≡ 4 → ⊥)
    → (first (host_text_rows P text)).place < length (labels (normal_form text))
unfolding host_text_rows front_rows all_of
place_inside P text =
    let ls = labels (normal_form text) in
    of_two (λ (a : Answer). (a.number ≡ 3 → ⊥) → (a.number ≡ 4 → ⊥) → a.place < length ls) (front_rows P text) (host_rows P ls)
    front (λ p q. host_inside P ls (some_label (normal_form text)))
  where
    front : ((first (front_rows P text)).number ≡ 3 → ⊥) → ((first (front_rows P text)).number ≡ 4 → ⊥)
        → (first (front_rows P text)).place < length (labels (normal_form text))
    front p q =
        let a = first (front_rows P text) in
        let z : a.place ≡ 0 = eqb-true _ 0 (rw (ne_eqb a.number 3 p, ne_eqb a.number 4 q) at
        (of_rows (λ (a : Answer). eqb a.number 3 || (eqb a.number 4 || eqb a.place 0)) refl (front_rows P text) refl)) in
        omega (arith, some_label (normal_form text))
