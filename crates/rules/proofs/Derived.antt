-- Labels to which none of rules 5 to 12 applies, joined, are a name that derives, and a name that derives has such labels: two or
-- three, the first sound, the last jp, the middle one listed.
-- Assumes nothing.
use mathlib.Core.Path.{◌≡◌, refl, ap, ◌∙◌}
use mathlib.Core.Bool.{Bool, true, false, not, ◌&&◌, ◌||◌}
use mathlib.Core.List.{List, [], ◌∷◌, ◌++◌}
use mathlib.Core.Logic.{◌⊎◌, inl, inr, ⊎_elim}
use Prim.Native.Nat.{ℕ, ◌≤◌}
use native.Mathlib.Omega.{arith}
use lib.Dec.{eqb, leb}
use lib.ListN.{length, length-append}
use borrow.Author.Tests.{eqb-true, ltb-false, leb-true, not-true, not-false}
use Rattle.lists.specs.Tests.{pick, within, all_of, any_of}
use Rattle.lists.proofs.Laws.{both, neither, or_right, any_append, all_none, absent, in_lists, same_is, same_refl}
use Rattle.characters.specs.Characters.{alnum, hyphen, ascii_set}
use Rattle.rules.specs.Labels.{period, into_first, labels, join}
use Rattle.rules.specs.Permits.{Permits, ja_char, InStretch, ShortMiddles, Laws, label_char, middle, is_empty}
use Rattle.rules.specs.Rules.{unfit, is_japanese, long, Meets, jp, class_of}
use Rattle.rules.specs.Grammar.{label, Derives, general, prefecture, listed}
use Rattle.rules.specs.Verdicts.{Class}
use Rattle.rules.proofs.ByName.{Passed}
use Rattle.rules.proofs.Cuts.{labels_cut}
use Rattle.rules.proofs.Sound.{low, label_sound, sound_label}

-- ---- a label to which none of 7 to 10 applies has at most 63 characters

pub left_size : (P : Permits) (l : List ℕ) → long P l ≡ false → length l ≤ pick (is_japanese P l) 15 63
unfolding long
left_size P l e = ltb-false (pick (is_japanese P l) 15 63) (length l) e

pub meets_length : (P : Permits) (least : ℕ) (l : List ℕ) → Meets P least l → length l ≤ 63
meets_length P least l m = go (is_japanese P l) (left_size P l m.few)
  where
    go : (b : Bool) → length l ≤ pick b 15 63 → length l ≤ 63
    go true h = omega arith
    go false h = h

-- ---- what is computed of the prefecture labels of an edition holds of each

pub of_middle : (P : Permits) (f : List ℕ → Bool) (l : List ℕ) → all_of f P.middles ≡ true → middle P l ≡ true → f l ≡ true
unfolding middle
of_middle P f l w e = in_lists f l P.middles w e

pub middle_length : (P : Permits) → ShortMiddles P → (l : List ℕ) → middle P l ≡ true → length l ≤ 15
middle_length P w l e = leb-true (length l) 15 (of_middle P (λ (l : List ℕ). leb (length l) 15) l w e)

-- ---- two labels or three

pub two_or_three : (n : ℕ) (b : Bool) → eqb n 2 || (b && eqb n 3) ≡ true → (n ≡ 2) ⊎ (n ≡ 3)
two_or_three n b e = go (eqb n 2) refl e
  where
    go : (t : Bool) → eqb n 2 ≡ t → t || (b && eqb n 3) ≡ true → (n ≡ 2) ⊎ (n ≡ 3)
    go true p q = inl (eqb-true n 2 p)
    go false p q = inr (eqb-true n 3 (both b (eqb n 3) q).1)

-- ---- a label holds no period

pub no_period : (P : Permits) → InStretch P → (l : List ℕ) → all_of (label_char P) l ≡ true → any_of period l ≡ false
unfolding label_char period ascii_set alnum within hyphen
no_period P stretch = absent (label_char P) 0x2E (rw (low P stretch 0x2E (omega arith)))

module _ (P : Permits) (L : Laws P) where
  -- ---- from the rules to the grammar

  left_label : (a : List ℕ) (ls : List (List ℕ)) → all_of (all_of (label_char P)) (a ∷ ls) ≡ true → Passed P (a ∷ ls) → label P a
  unfolding all_of any_of
  left_label a ls w C = sound_label P L (record { chars = (both _ _ w).0; filled = (neither (is_empty a) _ C.filled).0; meets = C.left })

  pub passed_derives : (ls : List (List ℕ)) → all_of (all_of (label_char P)) ls ≡ true → Passed P ls → Derives P (class_of ls) (join ls)
  unfolding join jp class_of
  passed_derives [] w C = absurd (⊎_elim (λ e. omega arith) (λ e. omega arith) (two_or_three 0 P.three C.count))
  passed_derives (a ∷ []) w C = absurd (⊎_elim (λ e. omega arith) (λ e. omega arith) (two_or_three 1 P.three C.count))
  passed_derives (a ∷ b ∷ []) w C = rw (same_is b jp C.last) (general (left_label a _ w C))
  passed_derives (a ∷ b ∷ c ∷ []) w C =
      rw (same_is c jp C.last) (prefecture (left_label a _ w C) (listed (not-false (middle P b) C.mid)))
  passed_derives (a ∷ b ∷ c ∷ d ∷ ls) w C =
      absurd (⊎_elim (λ e. omega arith) (λ e. omega arith) (two_or_three (length (a ∷ b ∷ c ∷ d ∷ ls)) P.three C.count))

  -- ---- from the grammar to the rules

  -- what the rules ask of a normal form, its class, and how long it is
  pub record Name (k : Class) (t : List ℕ) : Type 0 where
    pub fit : any_of (unfit P) t ≡ false
    pub passed : Passed P (labels t)
    pub class : class_of (labels t) ≡ k
    pub some : 1 ≤ length t
    pub few : length t ≤ 127

  label_fit : (c : ℕ) → label_char P c ≡ true → unfit P c ≡ false
  unfolding unfit
  label_fit c e = ap not (or_right (period c) (label_char P c) e)

  pub all_fit : (l : List ℕ) → all_of (label_char P) l ≡ true → any_of (unfit P) l ≡ false
  all_fit l w = all_none (label_char P) (unfit P) label_fit l w

  pub fits : (l r : List ℕ) → all_of (label_char P) l ≡ true → any_of (unfit P) r ≡ false → any_of (unfit P) (l ++ 0x2E ∷ r) ≡ false
  unfolding any_of unfit period
  fits l r w e = any_append (unfit P) l (0x2E ∷ r) ∙ rw (all_fit l w) e

  jp_fits : any_of (unfit P) (0x6A ∷ 0x70 ∷ []) ≡ false
  unfolding any_of unfit period label_char ascii_set alnum within
  jp_fits = rw (or_right (ja_char P 0x6A) true refl, or_right (ja_char P 0x70) true refl)

  labels_jp : labels (0x6A ∷ 0x70 ∷ []) ≡ (0x6A ∷ 0x70 ∷ []) ∷ []
  unfolding labels into_first period
  labels_jp = refl

  pub named : {t : List ℕ} {k : Class} → Derives P k t → Name k t
  unfolding any_of is_empty jp class_of
  named (general {l = l} d) =
      let S = label_sound P L d in
      let e : labels (l ++ 0x2E ∷ 0x6A ∷ 0x70 ∷ []) ≡ l ∷ (0x6A ∷ 0x70 ∷ []) ∷ [] = labels_cut l _ (no_period P L.stretch l S.chars) ∙ rw labels_jp in
      let n = meets_length P 3 l S.meets in
      record {
        fit = fits l _ S.chars jp_fits;
        passed = rw e (record { count = refl; filled = rw S.filled; left = S.meets; last = same_refl jp; mid = refl });
        class = rw e;
        some = omega (arith, length-append l (0x2E ∷ 0x6A ∷ 0x70 ∷ []));
        few = omega (arith, length-append l (0x2E ∷ 0x6A ∷ 0x70 ∷ []));
      }
  named (prefecture {l = l} {m = m} d (listed p)) =
      let S = label_sound P L d in
      let w = of_middle P (all_of (label_char P)) m L.middle_chars p in
      let e : labels (l ++ 0x2E ∷ (m ++ 0x2E ∷ 0x6A ∷ 0x70 ∷ [])) ≡ l ∷ m ∷ (0x6A ∷ 0x70 ∷ []) ∷ [] =
      labels_cut l _ (no_period P L.stretch l S.chars) ∙ rw (labels_cut m (0x6A ∷ 0x70 ∷ []) (no_period P L.stretch m w), labels_jp) in
      let n = meets_length P 3 l S.meets in
      let i = middle_length P L.middle_short m p in
      let f = of_middle P (λ (l : List ℕ). not (is_empty l)) m L.middle_filled p in
      let o = length-append m (0x2E ∷ 0x6A ∷ 0x70 ∷ []) in
      record {
        fit = fits l _ S.chars (fits m _ w jp_fits);
        passed = rw e (record {
          count = rw (L.middle_three m p);
          filled = rw (S.filled, not-true (is_empty m) f);
          left = S.meets;
          last = same_refl jp;
          mid = rw p;
        });
        class = rw e;
        some = omega (arith, length-append l (0x2E ∷ (m ++ 0x2E ∷ 0x6A ∷ 0x70 ∷ [])));
        few = omega (arith, length-append l (0x2E ∷ (m ++ 0x2E ∷ 0x6A ∷ 0x70 ∷ [])));
      }
