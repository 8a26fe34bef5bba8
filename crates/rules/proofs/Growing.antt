-- A label that goes on: whatever may still become a leftmost label is one, or one character more makes it one; and a character that a
-- mark joins changes nothing that rules 7 to 10 and 17 ask.
-- Assumes nothing.
use mathlib.Core.Path.{◌≡◌, refl, sym, ap, ◌∙◌}
use mathlib.Core.Bool.{Bool, true, false, not, ◌&&◌, true≢false, and-true, and-false}
use mathlib.Core.List.{List, [], ◌∷◌, ◌++◌}
use mathlib.Core.Logic.{⊎_elim}
use Prim.Native.Nat.{ℕ, ◌≤◌}
use native.Mathlib.Omega.{arith}
use lib.Dec.{ltb}
use lib.ListN.{length, take, drop, take-append-drop, length-append, get_or-append}
use lib.Seq.{take-append_seam}
use borrow.Author.Tests.{eqb-true, eq-eqb, ltb-false, le-ltb}
use Rattle.lists.specs.Tests.{pick, within, all_of, any_of, same}
use Rattle.lists.specs.Rows.{Answer}
use Rattle.lists.proofs.Laws.{both, neither, or_left, or_right, refuted, clash, lt_or_le, all_append, any_append, any_weaker, same_is, same_refl}
use Rattle.lists.proofs.Tables.{clear}
use Rattle.characters.specs.Characters.{alnum, hyphen, ascii_set}
use Rattle.rules.specs.Permits.{Permits, ja_char, Laws, label_char, is_empty}
use Rattle.rules.specs.Rules.{is_middle_dot, ordinary, is_japanese, begins_with_hyphen, ends_with_hyphen, hyphen_edge, short, long, hyphen_pair, of_name, pretends, bare_dot, label_rows, Meets, Sound}
use Rattle.rules.specs.Hopeful.{begins, leftmost, filler, tries}
use Rattle.rules.proofs.Views.{Cut, cut, cut_at}
use Rattle.rules.proofs.Sound.{ascii_not, no_hyphen, ends_snoc}
use Rattle.rules.proofs.ByName.{clear_label, label_clear, label_cleared}
use Rattle.rules.proofs.Pretends.{japanese_honest}

-- the two characters at the end of a derived name, and the three
abbrev pub end_jp : List ℕ
end_jp = 0x6A ∷ 0x70 ∷ []

abbrev pub dot_jp : List ℕ
dot_jp = 0x2E ∷ end_jp

-- ---- a beginning of a list, and an entry of a list

pub begins_is : (l w : List ℕ) → begins l w ≡ true → (r : List ℕ) × (w ≡ l ++ r)
unfolding begins
begins_is l w e =
    (drop (length l) w, sym (take-append-drop (length l) w) ∙ ap (λ (x : List ℕ). x ++ drop (length l) w) (sym (same_is l (take (length l) w) e)))

pub is_begins : (l r : List ℕ) → begins l (l ++ r) ≡ true
unfolding begins
is_begins l r = rw (take-append_seam l r) (same_refl l)

-- an entry of which f holds
pub one_of : (f : List ℕ → Bool) (ls : List (List ℕ)) → any_of f ls ≡ true → (c : List ℕ) × (f c ≡ true) × (any_of (same c) ls ≡ true)
unfolding any_of
one_of f ls e = go (cut_at f ls e)
  where
    go : {ls : List (List ℕ)} → Cut f ls → (c : List ℕ) × (f c ≡ true) × (any_of (same c) ls ≡ true)
    go (cut m c n p) = (c, p, any_append (same c) m (c ∷ n) ∙ or_right (any_of (same c) m) _ (or_left (same c c) _ (same_refl c)))

-- ---- a leftmost label

module _ (P : Permits) (l : List ℕ) where
  pub meets_leftmost : Meets P 3 l → pretends P of_name l ≡ false → leftmost P l ≡ true
  unfolding leftmost
  meets_leftmost m h = eq-eqb _ 0 (ap (λ (a : Answer). a.number) (clear (label_rows P of_name l 0) (label_clear P of_name l 0 m h)))

  pub leftmost_meets : leftmost P l ≡ true → Meets P 3 l × (pretends P of_name l ≡ false)
  unfolding leftmost
  leftmost_meets e = clear_label P of_name l 0 (label_cleared P of_name l 0 (eqb-true _ 0 e))

-- nothing is no leftmost label
meets_filled : (P : Permits) (l : List ℕ) → Meets P 3 l → is_empty l ≡ false
unfolding short is_japanese any_of is_empty
meets_filled P [] m = absurd (true≢false m.enough)
meets_filled P (x ∷ xs) m = refl

pub leftmost_sound : (P : Permits) (l : List ℕ) → all_of (label_char P) l ≡ true → leftmost P l ≡ true → Sound P 3 l × (pretends P of_name l ≡ false)
leftmost_sound P l w e = let k = leftmost_meets P l e in (record { chars = w; filled = meets_filled P l k.0; meets = k.0 }, k.1)

-- ---- hyphens

begins_less : (l r : List ℕ) → begins_with_hyphen (l ++ r) ≡ false → begins_with_hyphen l ≡ false
unfolding begins_with_hyphen
begins_less [] r e = refl
begins_less (x ∷ xs) r e = e

begins_more : (l : List ℕ) (z : ℕ) (r : List ℕ) → begins_with_hyphen l ≡ false → hyphen z ≡ false → begins_with_hyphen (l ++ z ∷ r) ≡ false
unfolding begins_with_hyphen
begins_more [] z r e n = n
begins_more (x ∷ xs) z r e n = e

edge_more : (l : List ℕ) (z : ℕ) → begins_with_hyphen l ≡ false → hyphen z ≡ false → hyphen_edge (l ++ z ∷ []) ≡ false
unfolding hyphen_edge
edge_more l z e n = rw (begins_more l z [] e n, ends_snoc l z) n

ends_later : (l : List ℕ) (x y : ℕ) (ys : List ℕ) → ends_with_hyphen (l ++ x ∷ y ∷ ys) ≡ ends_with_hyphen (y ∷ ys)
unfolding ends_with_hyphen
ends_later [] x y ys = refl
ends_later (a ∷ []) x y ys = refl
ends_later (a ∷ b ∷ l) x y ys = ends_later (b ∷ l) x y ys

-- a label of four characters or more goes on with the same third and fourth
pair_on : (l r : List ℕ) → 4 ≤ length l → hyphen_pair (l ++ r) ≡ hyphen_pair l
unfolding hyphen_pair
pair_on l r h = rw (get_or-append l r 0 2 (omega arith), get_or-append l r 0 3 (omega arith))

-- ---- a label with no Japanese character that is sound has no middle dot

module _ (P : Permits) where
  none_ordinary : (m : List ℕ) → any_of (ja_char P) m ≡ false → any_of (ordinary P) m ≡ false
  unfolding ordinary
  none_ordinary m n = refuted (any_of (ordinary P) m) (λ e. clash (any_weaker (ordinary P) (ja_char P) (λ c h. (both (ja_char P c) _ h).0) m e) n)

  no_dots : (m : List ℕ) → Sound P 3 m → any_of (ja_char P) m ≡ false → any_of is_middle_dot m ≡ false
  unfolding bare_dot
  no_dots m S n = go (any_of is_middle_dot m) (rw (none_ordinary m n) at S.meets.dotted)
    where
      go : (d : Bool) → d && true ≡ false → d ≡ false
      go true e = e
      go false e = refl

-- a label with a Japanese character is Japanese
pub japanese_at : (P : Permits) (f : List ℕ) (b : ℕ) (r : List ℕ) → ja_char P b ≡ true → is_japanese P (f ++ b ∷ r) ≡ true
unfolding is_japanese any_of
japanese_at P f b r e = any_append (ja_char P) f (b ∷ r) ∙ or_right (any_of (ja_char P) f) _ (rw e)

module _ (P : Permits) (L : Laws P) where
  -- ---- one character more

  -- a letter changes neither that a label is ASCII nor its third and fourth characters
  letter_ascii : (l : List ℕ) → any_of (ja_char P) l ≡ false → is_japanese P (l ++ 0x61 ∷ []) ≡ false
  unfolding is_japanese any_of ascii_set alnum within
  letter_ascii l n = any_append (ja_char P) l (0x61 ∷ []) ∙ rw (n, ascii_not P L 0x61 refl)

  letter_honest : (l : List ℕ) → any_of (ja_char P) l ≡ false → hyphen_pair l ≡ false → 4 ≤ length l → pretends P of_name (l ++ 0x61 ∷ []) ≡ false
  unfolding pretends
  letter_honest l n p lo = rw (letter_ascii l n, pair_on l (0x61 ∷ []) lo, p)

  module _ (ja : ja_char P filler ≡ true) (l : List ℕ) (b : begins_with_hyphen l ≡ false) where
    kana_more : length l ≤ 14 → Meets P 3 (l ++ filler ∷ [])
    unfolding short long bare_dot any_of ordinary is_middle_dot hyphen
    kana_more h =
        let some = japanese_at P l filler [] ja in
        let good : any_of (ordinary P) (l ++ filler ∷ []) ≡ true = any_append (ordinary P) l (filler ∷ []) ∙ or_right (any_of (ordinary P) l) _ (rw ja) in
        record {
          edge = edge_more l filler b refl;
          enough = rw some;
          few = rw (some, le-ltb 15 (length (l ++ filler ∷ [])) (omega (arith, length-append l (filler ∷ []))));
          dotted = rw good (and-false (any_of is_middle_dot (l ++ filler ∷ [])));
        }

    letter_more : any_of (ja_char P) l ≡ false → any_of is_middle_dot l ≡ false → 4 ≤ length l → length l ≤ 62 → Meets P 3 (l ++ 0x61 ∷ [])
    unfolding short long bare_dot any_of is_middle_dot hyphen
    letter_more n d lo hi =
        let none = letter_ascii l n in
        let no_dot : any_of is_middle_dot (l ++ 0x61 ∷ []) ≡ false = any_append is_middle_dot l (0x61 ∷ []) ∙ rw d in
        let size = length-append l (0x61 ∷ []) in
        record {
          edge = edge_more l 0x61 b refl;
          enough = rw (none, le-ltb (length (l ++ 0x61 ∷ [])) 3 (omega arith));
          few = rw (none, le-ltb 63 (length (l ++ 0x61 ∷ [])) (omega arith));
          dotted = rw no_dot;
        }

  -- what may still become a leftmost label is one, or one character more makes it one
  module _ (ja : ja_char P filler ≡ true) (l : List ℕ) where
    abbrev GrowsOn : Type 0
    GrowsOn = any_of (λ (r : List ℕ). leftmost P (l ++ r)) tries ≡ true

    by_kana : begins_with_hyphen l ≡ false → length l ≤ 14 → GrowsOn
    unfolding tries any_of
    by_kana b h =
        or_right (leftmost P (l ++ [])) _
        (or_left (leftmost P (l ++ filler ∷ [])) _
        (meets_leftmost P (l ++ filler ∷ []) (kana_more ja l b h) (japanese_honest P (l ++ filler ∷ []) (japanese_at P l filler [] ja))))

    by_letter : begins_with_hyphen l ≡ false → any_of (ja_char P) l ≡ false → any_of is_middle_dot l ≡ false → hyphen_pair l ≡ false → 4 ≤ length l
        → length l ≤ 62 → GrowsOn
    unfolding tries any_of
    by_letter b n d p lo hi =
        or_right (leftmost P (l ++ [])) _
        (or_right (leftmost P (l ++ filler ∷ [])) _
        (or_left (leftmost P (l ++ 0x61 ∷ [])) _ (meets_leftmost P (l ++ 0x61 ∷ []) (letter_more ja l b n d lo hi) (letter_honest l n p lo))))

    pub one_more : (r : List ℕ) → Sound P 3 (l ++ r) → pretends P of_name (l ++ r) ≡ false → GrowsOn
    unfolding tries any_of hyphen_edge long pretends is_japanese
    one_more [] S h = or_left (leftmost P (l ++ [])) _ (meets_leftmost P (l ++ []) S.meets (unfold pretends in h))
    one_more (x ∷ xs) S h =
        go (any_of (ja_char P) (l ++ x ∷ xs)) refl S.meets.few h
        (begins_less l (x ∷ xs) (neither (begins_with_hyphen (l ++ x ∷ xs)) (ends_with_hyphen (l ++ x ∷ xs)) S.meets.edge).0)
      where
        go : (j : Bool) → any_of (ja_char P) (l ++ x ∷ xs) ≡ j → ltb (pick j 15 63) (length (l ++ x ∷ xs)) ≡ false → hyphen_pair (l ++ x ∷ xs) && not j ≡ false
            → begins_with_hyphen l ≡ false → GrowsOn
        go true p h q b = by_kana b (omega (arith, length-append l (x ∷ xs), ltb-false 15 (length (l ++ x ∷ xs)) h))
        go false p h q b =
            let none : any_of (ja_char P) l ≡ false = (neither (any_of (ja_char P) l) _ (sym (any_append (ja_char P) l (x ∷ xs)) ∙ p)).0 in
            let dots : any_of is_middle_dot l ≡ false = (neither (any_of is_middle_dot l) _ (sym (any_append is_middle_dot l (x ∷ xs)) ∙ no_dots P (l ++ x ∷ xs) S p)).0 in
            let size = length-append l (x ∷ xs) in
            let hi = ltb-false 63 (length (l ++ x ∷ xs)) h in
            ⊎_elim (λ k. by_kana b (omega arith))
            (λ k. by_letter b none dots (sym (pair_on l (x ∷ xs) (omega arith)) ∙ sym (and-true (hyphen_pair (l ++ x ∷ xs))) ∙ q) (omega arith) (omega arith))
            (lt_or_le (length l) 15)

  -- ---- a character that a mark joins

  -- b in the place of c, where b is ordinary and c Japanese
  module _ (f : List ℕ) (b c : ℕ) (r : List ℕ) (jb : ja_char P b ≡ true) (ob : ordinary P b ≡ true) (jc : ja_char P c ≡ true) where
    same_begin : (g : List ℕ) → begins_with_hyphen (g ++ c ∷ r) ≡ false → begins_with_hyphen (g ++ b ∷ r) ≡ false
    unfolding begins_with_hyphen
    same_begin [] e = no_hyphen P L b jb
    same_begin (x ∷ xs) e = e

    same_end : (s : List ℕ) → ends_with_hyphen (f ++ c ∷ s) ≡ false → ends_with_hyphen (f ++ b ∷ s) ≡ false
    same_end [] e = ends_snoc f b ∙ no_hyphen P L b jb
    same_end (y ∷ ys) e = ends_later f b y ys ∙ sym (ends_later f c y ys) ∙ e

    filled_at : (g : List ℕ) → is_empty (g ++ b ∷ r) ≡ false
    unfolding is_empty
    filled_at [] = refl
    filled_at (x ∷ xs) = refl

    pub exchanged : Sound P 3 (f ++ c ∷ r) → Sound P 3 (f ++ b ∷ r)
    unfolding hyphen_edge short long bare_dot is_japanese all_of any_of label_char
    exchanged S =
        let chars = both (all_of (label_char P) f) _ (sym (all_append (label_char P) f (c ∷ r)) ∙ S.chars) in
        let edge = neither (begins_with_hyphen (f ++ c ∷ r)) (ends_with_hyphen (f ++ c ∷ r)) S.meets.edge in
        let was : any_of (ja_char P) (f ++ c ∷ r) ≡ true = unfold is_japanese in japanese_at P f c r jc in
        let is : any_of (ja_char P) (f ++ b ∷ r) ≡ true = unfold is_japanese in japanese_at P f b r jb in
        let good : any_of (ordinary P) (f ++ b ∷ r) ≡ true = any_append (ordinary P) f (b ∷ r) ∙ or_right (any_of (ordinary P) f) _ (rw ob) in
        let few = ltb-false 15 (length (f ++ c ∷ r)) (rw was at S.meets.few) in
        record {
          chars = all_append (label_char P) f (b ∷ r) ∙ rw (chars.0, jb) (both (label_char P c) (all_of (label_char P) r) chars.1).1;
          filled = filled_at f;
          meets = record {
            edge = rw (same_begin f edge.0) (same_end r edge.1);
            enough = rw is;
            few = rw (is, le-ltb 15 (length (f ++ b ∷ r)) (omega (arith, length-append f (b ∷ r), length-append f (c ∷ r))));
            dotted = rw good (and-false (any_of is_middle_dot (f ++ b ∷ r)));
          };
        }
