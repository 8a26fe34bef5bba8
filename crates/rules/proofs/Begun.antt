-- Each beginning of a name that is admitted may grow: it ends in the first label, or past its period in one of those that follow. So does a
-- beginning whose last character a mark has joined since: with the base put back the name is still admitted.
-- Assumes nothing.
use mathlib.Core.Path.{◌≡◌, refl, sym, ap, ◌∙◌}
use mathlib.Core.Bool.{Bool, true, false, not, ◌||◌}
use mathlib.Core.List.{List, [], ◌∷◌, ◌++◌, append_assoc}
use mathlib.Core.Logic.{◌⊎◌, inl, inr, ⊎_elim}
use Prim.Native.Nat.{ℕ}
use native.Mathlib.Omega.{arith}
use lib.Dec.{eqb}
use Rattle.lists.specs.Tests.{within, all_of, any_of, same}
use Rattle.lists.proofs.Laws.{both, neither, or_left, or_right, either, clash, outside, in_range, all_append, any_append, any_weaker, all_none, same_is}
use Rattle.characters.specs.Characters.{ascii_set}
use Rattle.characters.specs.Compose.{voiced, repeats, half_voiced, composed}
use Rattle.characters.proofs.Pairs.{of_base, composed_kana}
use Rattle.rules.specs.Labels.{period, labels}
use Rattle.rules.specs.Permits.{Permits, ja_char, Laws, label_char, middle}
use Rattle.rules.specs.Rules.{is_middle_dot, ordinary, of_name, pretends, jp, Sound}
use Rattle.rules.specs.Grammar.{Derives, general, prefecture, listed}
use Rattle.rules.specs.Pretends.{PRETENDS, Admitted}
use Rattle.rules.specs.Hopeful.{begins, leftmost, grows, settled, HopeLaws}
use Rattle.rules.specs.Verdicts.{Class}
use Rattle.rules.proofs.Cuts.{labels_cut, labels_one}
use Rattle.rules.proofs.Sound.{ascii_range, label_sound}
use Rattle.rules.proofs.Derived.{of_middle, no_period}
use Rattle.rules.proofs.Pretends.{japanese_honest, honest_label, general_admitted, prefecture_admitted}
use Rattle.rules.proofs.Growing.{end_jp, dot_jp, is_begins, meets_leftmost, japanese_at, one_more, exchanged}

-- ---- lists

-- a beginning of l, x and w is a beginning of l, or goes past x
reach : (f l : List ℕ) (x : ℕ) (w r : List ℕ) → f ++ r ≡ l ++ x ∷ w
    → ((s : List ℕ) × (l ≡ f ++ s)) ⊎ ((g : List ℕ) × (f ≡ l ++ x ∷ g) × (g ++ r ≡ w))
reach [] l x w r e = inl (l, refl)
reach (y ∷ f) [] x w r e = let h : y ≡ x = cc in let k : f ++ r ≡ w = cc in inr (f, (cc), k)
reach (y ∷ f) (z ∷ l) x w r e =
    let h : y ≡ z = cc in
    let k : f ++ r ≡ l ++ x ∷ w = cc in
    ⊎_elim (λ p. inl (p.0, (cc p.1))) (λ p. inr (p.0, (cc p.1), p.2)) (reach f l x w r k)

-- an entry of which t holds lies before w, of no entry of which it holds
lies_before : (t : ℕ → Bool) (f l : List ℕ) (c : ℕ) (r w : List ℕ) → t c ≡ true → any_of t w ≡ false → f ++ c ∷ r ≡ l ++ w
    → (s : List ℕ) × (l ≡ f ++ c ∷ s) × (r ≡ s ++ w)
unfolding any_of
lies_before t f [] c r w p n e =
    clash (any_append t f (c ∷ r) ∙ or_right (any_of t f) _ (or_left (t c) _ p)) (ap (any_of t) e ∙ n)
lies_before t [] (x ∷ l) c r w p n e = let h : c ≡ x = cc in let k : r ≡ l ++ w = cc in (l, (cc), k)
lies_before t (y ∷ f) (x ∷ l) c r w p n e =
    let h : y ≡ x = cc in
    let k : f ++ c ∷ r ≡ l ++ w = cc in
    let q = lies_before t f l c r w p n k in
    (q.0, (cc q.1), q.2)

-- ---- characters

-- where what is composed stands
abbrev kana : ℕ → Bool
kana c = within 0x3041 0x30FE c

settled_no_kana : (c : ℕ) → settled c ≡ true → kana c ≡ false
unfolding settled
settled_no_kana c e =
    outside 0x3041 0x30FE c
    (λ lo hi. either (ascii_set c) _ e (λ p. let h = ascii_range c p in omega arith) (λ p. let h = in_range 0x4E00 0x9FA0 c p in omega arith))

-- a base is none of the three signs
base_no_exception : (b m : ℕ) → (composed b m ≡ 0 → ⊥) → not (eqb b 0x3006 || (eqb b 0x30FC || is_middle_dot b)) ≡ true
unfolding voiced repeats half_voiced all_of is_middle_dot
base_no_exception b m n = of_base (λ (v : ℕ). not (eqb v 0x3006 || (eqb v 0x30FC || eqb v 0x30FB))) b m refl refl refl refl n

module _ (P : Permits) (H : HopeLaws P) where
  abbrev L : Laws P
  L = H.laws

  -- ---- a derived name in which a mark joined a character is admitted without the mark

  no_kana : (m : List ℕ) → middle P m ≡ true → any_of kana (0x2E ∷ (m ++ dot_jp)) ≡ false
  unfolding any_of within
  no_kana m p = any_append kana m dot_jp ∙ rw (all_none settled kana settled_no_kana m (of_middle P (all_of settled) m H.middle_settled p))

  no_kana_jp : any_of kana dot_jp ≡ false
  unfolding any_of within
  no_kana_jp = refl

  -- what is composed, where a label may hold it, is Japanese
  composed_japanese : (b m : ℕ) → (composed b m ≡ 0 → ⊥) → label_char P (composed b m) ≡ true → ja_char P (composed b m) ≡ true
  unfolding label_char
  composed_japanese b m n e =
      let k = in_range 0x3041 0x30FE (composed b m) (composed_kana b m n) in
      either (ja_char P (composed b m)) _ e (λ p. p) (λ p. absurd (let h = ascii_range (composed b m) p in omega arith))

  base_ordinary : (b m : ℕ) → (composed b m ≡ 0 → ⊥) → ordinary P b ≡ true
  unfolding ordinary
  base_ordinary b m n = rw (H.bases b m n) (base_no_exception b m n)

  module _ (f : List ℕ) (b m : ℕ) (n : composed b m ≡ 0 → ⊥) where
    parted : (l s : List ℕ) → l ≡ f ++ composed b m ∷ s → Sound P 3 l → Sound P 3 (f ++ b ∷ s) × (pretends P of_name (f ++ b ∷ s) ≡ false)
    unfolding all_of
    parted l s e S =
        let T : Sound P 3 (f ++ composed b m ∷ s) = rw e at S in
        let w = (both (all_of (label_char P) f) _ (sym (all_append (label_char P) f (composed b m ∷ s)) ∙ T.chars)).1 in
        let j = composed_japanese b m n (both (label_char P (composed b m)) _ w).0 in (
          exchanged P L f b (composed b m) s (H.bases b m n) (base_ordinary b m n) j T,
          japanese_honest P (f ++ b ∷ s) (japanese_at P f b s (H.bases b m n)),
        )

    pub uncomposed : {k : Class} {t : List ℕ} (r : List ℕ) → Derives P k t → f ++ composed b m ∷ r ≡ t → Admitted P k (f ++ b ∷ r)
    uncomposed r (general {l = l} d) e =
        let q = lies_before kana f l (composed b m) r dot_jp (composed_kana b m n) no_kana_jp e in
        let k = parted l q.0 q.1 (label_sound P L d) in
        rw (q.2, ← append_assoc f (b ∷ q.0) dot_jp) (general_admitted P L k.0 k.1)
    uncomposed r (prefecture {l = l} {m = z} d (listed p)) e =
        let w : List ℕ = 0x2E ∷ (z ++ dot_jp) in
        let q = lies_before kana f l (composed b m) r w (composed_kana b m n) (no_kana z p) e in
        let k = parted l q.0 q.1 (label_sound P L d) in
        rw (q.2, ← append_assoc f (b ∷ q.0) w) (prefecture_admitted P L k.0 k.1 z p)

  -- ---- each beginning of a name that is admitted may grow

  abbrev Grows : List ℕ → Type 0
  Grows f = grows P (labels f) ≡ true

  -- a beginning of a text without a period is one label
  begun_one : (f s w : List ℕ) → w ≡ f ++ s → any_of period w ≡ false → labels f ≡ f ∷ []
  begun_one f s w e n = labels_one f (neither (any_of period f) (any_of period s) (sym (any_append period f s) ∙ (rw e at n))).0

  -- a beginning of jp, after one label and after two
  jp_begun : (g r : List ℕ) → g ++ r ≡ end_jp → (begins g jp ≡ true) × (labels g ≡ g ∷ [])
  unfolding jp any_of period
  jp_begun g r e = (rw (← e) (is_begins g r), begun_one g r end_jp (sym e) refl)

  module _ {l : List ℕ} (S : Sound P 3 l) (h : pretends P of_name l ≡ false) where
    in_first : (f s : List ℕ) → l ≡ f ++ s → Grows f
    unfolding grows
    in_first f s e = rw (begun_one f s l e (no_period P L.stretch l S.chars)) (one_more P L H.tried f s (rw e at S) (rw e at h))

    past_first : (g : List ℕ) {ls : List (List ℕ)} → labels g ≡ ls → grows P (l ∷ ls) ≡ true → Grows (l ++ 0x2E ∷ g)
    past_first g e h = rw (labels_cut l g (no_period P L.stretch l S.chars), e) h

    left_is : leftmost P l ≡ true
    left_is = meets_leftmost P l S.meets h

    in_jp : (g r : List ℕ) → g ++ r ≡ end_jp → Grows (l ++ 0x2E ∷ g)
    unfolding grows
    in_jp g r e = let k = jp_begun g r e in past_first g k.1 (rw (left_is, k.0))

    module _ (m : List ℕ) (p : middle P m ≡ true) where
      middle_no_period : any_of period m ≡ false
      middle_no_period = no_period P L.stretch m (of_middle P (all_of (label_char P)) m L.middle_chars p)

      in_middle : (g s : List ℕ) → m ≡ g ++ s → Grows (l ++ 0x2E ∷ g)
      unfolding grows middle
      in_middle g s e =
          let some : any_of (begins g) P.middles ≡ true =
          any_weaker (same m) (begins g) (λ c q. rw (← same_is m c q, e) (is_begins g s)) P.middles p in
          past_first g (begun_one g s m e middle_no_period) (rw (left_is, some) (or_right (begins g jp) true refl))

      in_last : (h r : List ℕ) → h ++ r ≡ end_jp → Grows (l ++ 0x2E ∷ (m ++ 0x2E ∷ h))
      unfolding grows
      in_last h r e =
          let k = jp_begun h r e in
          past_first (m ++ 0x2E ∷ h) (labels_cut m h middle_no_period ∙ ap (λ (x : List (List ℕ)). m ∷ x) k.1) (rw (left_is, p, k.0))

  pub admitted_grows : {k : Class} {t : List ℕ} (f r : List ℕ) → Derives P k t → (PRETENDS t → ⊥) → f ++ r ≡ t → Grows f
  admitted_grows f r (general {l = l} d) n e =
      let S = label_sound P L d in
      let h = honest_label P L d end_jp n in
      ⊎_elim (λ p. in_first S h f p.0 p.1) (λ p. rw p.1 (in_jp S h p.0 r p.2)) (reach f l 0x2E end_jp r e)
  admitted_grows f r (prefecture {l = l} {m = m} d (listed q)) n e =
      let S = label_sound P L d in
      let h = honest_label P L d (m ++ dot_jp) n in
      ⊎_elim (λ p. in_first S h f p.0 p.1)
      (λ p. rw p.1 (⊎_elim (λ u. in_middle S h m q p.0 u.0 u.1) (λ u. rw u.1 (in_last S h m q u.0 r u.2))
      (reach p.0 m 0x2E end_jp r p.2)))
      (reach f l 0x2E (m ++ dot_jp) r e)
