-- The labels of a text: a period ends a label and begins the next, any other character stands in the label it came to; so each law
-- is an induction over the text.
-- Assumes nothing.
use mathlib.Core.Path.{◌≡◌, refl, sym, ap, ◌∙◌}
use mathlib.Core.Bool.{Bool, true, false, ◌||◌}
use mathlib.Core.List.{List, [], ◌∷◌, ◌++◌, map}
use mathlib.Core.Logic.{⊎_elim}
use Prim.Native.Nat.{ℕ, suc, ◌+◌, ◌-◌, ◌≤◌, ◌<◌}
use native.Mathlib.Numerals.{add-one}
use native.Mathlib.Omega.{arith}
use lib.ListN.{length, take, drop, length-drop}
use lib.Seq.{drop-drop, take_all}
use borrow.Author.Tests.{eqb-true, not-false}
use Rattle.lists.specs.Tests.{pick, all_of, any_of, index_of}
use Rattle.lists.proofs.Laws.{neither, lt_or_le, index_bound}
use Rattle.rules.specs.Labels.{period, into_first, labels, join}
use Rattle.rules.specs.Permits.{Permits, label_char}
use Rattle.rules.specs.Rules.{unfit}

-- ---- a text and its labels, of which there is always one

pub data Labelled : List ℕ → List (List ℕ) → Type 0 where
  none : Labelled [] ([] ∷ [])
  cut : {xs l : List ℕ} {ls : List (List ℕ)} → Labelled xs (l ∷ ls) → Labelled (0x2E ∷ xs) ([] ∷ l ∷ ls)
  held : {x : ℕ} {xs l : List ℕ} {ls : List (List ℕ)} → period x ≡ false → Labelled xs (l ∷ ls) → Labelled (x ∷ xs) ((x ∷ l) ∷ ls)

cut_on : {xs : List ℕ} {ls : List (List ℕ)} → Labelled xs ls → Labelled (0x2E ∷ xs) ([] ∷ ls)
cut_on none = cut none
cut_on (cut d) = cut (cut d)
cut_on (held p d) = cut (held p d)

held_on : {x : ℕ} {xs : List ℕ} {ls : List (List ℕ)} → period x ≡ false → Labelled xs ls → Labelled (x ∷ xs) (into_first x ls)
unfolding into_first
held_on p none = held p none
held_on p (cut d) = held p (cut d)
held_on p (held q d) = held p (held q d)

pub labelled : (t : List ℕ) → Labelled t (labels t)
unfolding labels period
labelled [] = none
labelled (x ∷ xs) = go (period x) refl (labelled xs)
  where
    go : (b : Bool) → period x ≡ b → Labelled xs (labels xs) → Labelled (x ∷ xs) (pick b ([] ∷ labels xs) (into_first x (labels xs)))
    go true p d = rw (eqb-true x 0x2E p) (cut_on d)
    go false p d = held_on p d

pub some_label : (t : List ℕ) → 1 ≤ length (labels t)
some_label t = go (labelled t)
  where
    go : {t : List ℕ} {ls : List (List ℕ)} → Labelled t ls → 1 ≤ length ls
    go none = omega arith
    go (cut d) = omega arith
    go (held p d) = omega arith

-- ---- joined again, the labels are the text

join_held : (x : ℕ) (l : List ℕ) (ls : List (List ℕ)) → join ((x ∷ l) ∷ ls) ≡ x ∷ join (l ∷ ls)
unfolding join
join_held x l [] = refl
join_held x l (m ∷ ls) = refl

joined : {t : List ℕ} {ls : List (List ℕ)} → Labelled t ls → join ls ≡ t
unfolding join
joined none = refl
joined (cut d) = ap (λ (t : List ℕ). 0x2E ∷ t) (joined d)
joined (held {x = x} {l = l} {ls = ls} p d) = join_held x l ls ∙ ap (λ (t : List ℕ). x ∷ t) (joined d)

pub join_labels : (t : List ℕ) → join (labels t) ≡ t
join_labels t = joined (labelled t)

-- a label before those of a text: there is always one, so that a period follows it
pub join_more : {t : List ℕ} {ls : List (List ℕ)} → Labelled t ls → (f : List ℕ → List ℕ) (a : List ℕ) → join (a ∷ map f ls) ≡ a ++ 0x2E ∷ join (map f ls)
unfolding join
join_more none f a = refl
join_more (cut d) f a = refl
join_more (held p d) f a = refl

-- ---- what a label holds

module _ (P : Permits) where
  labels_held : {t : List ℕ} {ls : List (List ℕ)} → Labelled t ls → any_of (unfit P) t ≡ false → all_of (all_of (label_char P)) ls ≡ true
  unfolding all_of any_of unfit
  labels_held none e = refl
  labels_held (cut d) e = labels_held d (neither (unfit P 0x2E) _ e).1
  labels_held (held {x = x} {xs = xs} p d) e =
      let n = neither (unfit P x) (any_of (unfit P) xs) e in
      let w : label_char P x ≡ true = rw p at (not-false (period x || label_char P x) n.0) in
      rw w (labels_held d n.1)

  -- where the text holds no unfit character, each label holds only what a label may hold
  pub labels_fit : (t : List ℕ) → any_of (unfit P) t ≡ false → all_of (all_of (label_char P)) (labels t) ≡ true
  labels_fit t e = labels_held (labelled t) e

-- ---- the labels of a label alone, and of a label, a period and a rest

pub labels_one : (l : List ℕ) → any_of period l ≡ false → labels l ≡ l ∷ []
unfolding labels any_of into_first
labels_one [] e = refl
labels_one (x ∷ xs) e = let n = neither (period x) (any_of period xs) e in rw (n.0, labels_one xs n.1)

pub labels_cut : (l r : List ℕ) → any_of period l ≡ false → labels (l ++ 0x2E ∷ r) ≡ l ∷ labels r
unfolding labels any_of into_first period
labels_cut [] r e = refl
labels_cut (x ∷ xs) r e =
    let h = neither (period x) (any_of period xs) e in
    rw (h.0, labels_cut xs r h.1)

-- labels without a period, joined and cut again, are the same labels
pub labels_join : (ls : List (List ℕ)) → 1 ≤ length ls → any_of (any_of period) ls ≡ false → labels (join ls) ≡ ls
unfolding any_of join
labels_join [] h e = absurd (omega arith)
labels_join (l ∷ []) h e = labels_one l (neither (any_of period l) _ e).0
labels_join (l ∷ m ∷ ls) h e =
    let n = neither (any_of period l) _ e in
    labels_cut l (join (m ∷ ls)) n.0 ∙ ap (λ (ms : List (List ℕ)). l ∷ ms) (labels_join (m ∷ ls) (omega arith) n.1)

-- ---- the first label ends at the first period

pub last_label : (t : List ℕ) → length t ≤ index_of period t → labels t ≡ t ∷ []
unfolding index_of labels into_first
last_label [] e = refl
last_label (x ∷ xs) e = go (period x) e (last_label xs)
  where
    go : (b : Bool) → suc (length xs) ≤ pick b 0 (suc (index_of period xs)) → (length xs ≤ index_of period xs → labels xs ≡ xs ∷ [])
        → pick b ([] ∷ labels xs) (into_first x (labels xs)) ≡ (x ∷ xs) ∷ []
    go true e on = absurd (omega arith)
    go false e on = rw (on (omega arith))

pub first_label : (t : List ℕ) → index_of period t < length t
    → labels t ≡ take (index_of period t) t ∷ labels (drop (index_of period t + 1) t)
unfolding index_of labels into_first
first_label [] h = absurd (omega arith)
first_label (x ∷ xs) h = go (period x) h (first_label xs)
  where
    go : (b : Bool) → pick b 0 (suc (index_of period xs)) < suc (length xs)
        → (index_of period xs < length xs → labels xs ≡ take (index_of period xs) xs ∷ labels (drop (index_of period xs + 1) xs))
        → pick b ([] ∷ labels xs) (into_first x (labels xs))
        ≡ take (pick b 0 (suc (index_of period xs))) (x ∷ xs) ∷ labels (drop (pick b 0 (suc (index_of period xs)) + 1) (x ∷ xs))
    go true h on = refl
    go false h on = rw (on (omega arith), add-one (index_of period xs), add-one (suc (index_of period xs)))

-- ---- the same from index i on, where the search for a period came to e

module _ (t : List ℕ) (i e : ℕ) (h : i ≤ length t) (s : e ≡ i + index_of period (drop i t)) where
  pub ended : (i ≤ e) × (e ≤ length t)
  ended = omega (arith, index_bound period (drop i t), length-drop i t)

  pub last_from : length t ≤ e → labels (drop i t) ≡ drop i t ∷ []
  last_from k = last_label (drop i t) (omega (arith, length-drop i t))

  module _ (k : e < length t) where
    pub first_from : labels (drop i t) ≡ take (e - i) (drop i t) ∷ labels (drop (e + 1) t)
    first_from =
        let n : index_of period (drop i t) ≡ e - i = omega arith in
        let m : i + (e - i + 1) ≡ e + 1 = omega arith in
        let d : drop (e - i + 1) (drop i t) ≡ drop (e + 1) t = drop-drop (e - i + 1) i t ∙ ap (λ (j : ℕ). drop j t) m in
        first_label (drop i t) (omega (arith, length-drop i t)) ∙ rw (n, d)

  -- the label that begins there
  abbrev pub here : List ℕ
  here = take (e - i) (drop i t)

  pub last_here : length t ≤ e → labels (drop i t) ≡ here ∷ []
  last_here k =
      let b = ended in
      last_from k ∙ ap (λ (l : List ℕ). l ∷ []) (sym (take_all (e - i) (drop i t) (omega (arith, length-drop i t))))

  -- it is followed by the labels of what is left, or by none
  pub by_end : {A : Type 0} → ((rest : List (List ℕ)) → labels (drop i t) ≡ here ∷ rest → A) → A
  by_end f = ⊎_elim (λ k. f (labels (drop (e + 1) t)) (first_from k)) (λ k. f [] (last_here k)) (lt_or_le e (length t))
