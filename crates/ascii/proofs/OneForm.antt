-- Where the coder takes each Japanese label and no ASCII label begins like an encoded one, ASCII forms tell forms apart: the labels of an ASCII
-- form are the ASCII forms of the labels, since none of these holds a period; an encoding is of one label only, and no such ASCII label is one.
-- Assumes nothing.
use mathlib.Core.Path.{◌≡◌, refl, sym, ap, ◌∙◌}
use mathlib.Core.Bool.{Bool, true, false, and-true}
use mathlib.Core.List.{List, [], ◌∷◌, map}
use Prim.Native.Nat.{ℕ}
use native.Mathlib.Omega.{arith}
use lib.Dec.{eqb}
use lib.ListN.{length, get_or, take, drop, length-map}
use borrow.Author.Tests.{eqb-true, not-false}
use Rattle.lists.specs.Tests.{pick, within, all_of, any_of, same}
use Rattle.lists.proofs.Laws.{both, neither, or_left, or_right, clash, all_append, all_weaker, all_none, absent, all_but}
use Rattle.characters.specs.Characters.{alnum, hyphen, ascii_set}
use Rattle.punycode.specs.Punycode.{ace, ldh, encodable}
use Rattle.punycode.specs.Calls.{coder_number}
use Rattle.punycode.proofs.Theorems.{ace_injective, ace_ldh}
use Rattle.punycode.proofs.Unique.{number_zero}
use Rattle.rules.specs.Labels.{period, labels, join}
use Rattle.rules.specs.Permits.{Permits, ja_char, label_char}
use Rattle.rules.specs.Rules.{is_japanese}
use Rattle.rules.specs.Pretends.{ace_prefix, seems_encoded}
use Rattle.rules.proofs.Cuts.{some_label, join_labels, labels_join}
use Rattle.ascii.specs.Ascii.{ascii_label, ascii_form, in_form, OneForm, uncoded}
use Rattle.ascii.proofs.Coded.{set_is}

-- what is asked of labels: each holds only what it may hold, the coder takes it where it is Japanese, and it does not seem encoded
pub record Unmistaken (P : Permits) (ls : List (List ℕ)) : Type 0 where
  pub fit : all_of (all_of (label_char P)) ls ≡ true
  pub coded : any_of (uncoded P) ls ≡ false
  pub plain : any_of (seems_encoded P) ls ≡ false

no_period : (l : List ℕ) → all_of ascii_set l ≡ true → any_of period l ≡ false
unfolding ascii_set alnum hyphen within period
no_period = absent ascii_set 0x2E refl

-- what holds of a period and of the characters of labels holds of the labels joined
module _ (f : ℕ → Bool) (of-period : f 0x2E ≡ true) where
  join_all : (ls : List (List ℕ)) → all_of (all_of f) ls ≡ true → all_of f (join ls) ≡ true
  unfolding all_of join
  join_all [] w = refl
  join_all (l ∷ []) w = (both (all_of f l) _ w).0
  join_all (l ∷ m ∷ ls) w =
      let a = both (all_of f l) _ w in
      all_append f l (0x2E ∷ join (m ∷ ls)) ∙ rw (a.0, of-period) (join_all (m ∷ ls) a.1)

module _ (P : Permits) where
  -- ---- one label

  takes : (l : List ℕ) → is_japanese P l ≡ true → uncoded P l ≡ false → encodable l ≡ true
  unfolding uncoded
  takes l p u = (number_zero l 63 (eqb-true (coder_number l 63) 0 (not-false (eqb (coder_number l 63) 0) (rw p at u)))).0

  -- an ASCII label that does not seem encoded is no encoding
  no_encoding : {A : Type 0} (l k : List ℕ) → is_japanese P k ≡ false → seems_encoded P k ≡ false → ace l ≡ k → A
  unfolding seems_encoded ace same
  no_encoding l k p s e = clash (ap (λ (x : List ℕ). same (take 4 x) ace_prefix) (sym e)) (sym (and-true _) ∙ (rw p at s))

  one_label : (l k : List ℕ) → (uncoded P l ≡ false) × (seems_encoded P l ≡ false) → (uncoded P k ≡ false) × (seems_encoded P k ≡ false)
      → ascii_label P l ≡ ascii_label P k → l ≡ k
  unfolding ascii_label
  one_label l k a b = go (is_japanese P l) refl (is_japanese P k) refl
    where
      go : (i : Bool) → is_japanese P l ≡ i → (j : Bool) → is_japanese P k ≡ j → pick i (ace l) l ≡ pick j (ace k) k → l ≡ k
      go true p true q e = ace_injective l k (takes l p a.0) (takes k q b.0) e
      go true p false q e = no_encoding l k q b.1 e
      go false p true q e = no_encoding k l p a.1 (sym e)
      go false p false q e = e

  label_ascii : (l : List ℕ) → all_of (label_char P) l ≡ true → uncoded P l ≡ false → all_of ascii_set (ascii_label P l) ≡ true
  unfolding ascii_label label_char is_japanese
  label_ascii l w u = go (is_japanese P l) refl
    where
      go : (j : Bool) → is_japanese P l ≡ j → all_of ascii_set (pick j (ace l) l) ≡ true
      go true p = all_weaker ldh ascii_set (λ c e. sym (set_is c) ∙ e) (ace l) (ace_ldh l (takes l p u))
      go false p = all_but (label_char P) (ja_char P) ascii_set (λ c e n. rw n at e) l w p

  -- ---- all labels

  abbrev Apart : List (List ℕ) → Type 0
  Apart ls = (any_of (uncoded P) ls ≡ false) × (any_of (seems_encoded P) ls ≡ false)

  of_each : (l : List ℕ) (ls : List (List ℕ)) → Apart (l ∷ ls) → ((uncoded P l ≡ false) × (seems_encoded P l ≡ false)) × Apart ls
  unfolding any_of
  of_each l ls a =
      let c = neither (uncoded P l) _ a.0 in
      let p = neither (seems_encoded P l) _ a.1 in
      ((c.0, p.0), (c.1, p.1))

  one_by_one : (ls ks : List (List ℕ)) → Apart ls → Apart ks → map (ascii_label P) ls ≡ map (ascii_label P) ks → ls ≡ ks
  one_by_one [] [] a b e = refl
  one_by_one [] (k ∷ ks) a b e = absurd (omega (arith, ap length e))
  one_by_one (l ∷ ls) [] a b e = absurd (omega (arith, ap length e))
  one_by_one (l ∷ ls) (k ∷ ks) a b e =
      let c = of_each l ls a in
      let d = of_each k ks b in
      rw (
        one_label l k c.0 d.0 (ap (λ (xs : List (List ℕ)). get_or xs 0 []) e),
        one_by_one ls ks c.1 d.1 (ap (λ (xs : List (List ℕ)). drop 1 xs) e),
      )

  all_ascii : (ls : List (List ℕ)) → all_of (all_of (label_char P)) ls ≡ true → any_of (uncoded P) ls ≡ false → all_of (all_of ascii_set) (map (ascii_label P) ls) ≡ true
  unfolding all_of any_of
  all_ascii [] w u = refl
  all_ascii (l ∷ ls) w u =
      let a = both (all_of (label_char P) l) _ w in
      let b = neither (uncoded P l) _ u in
      rw (label_ascii l a.0 b.0) (all_ascii ls a.1 b.1)

  -- ---- the form

  module _ (form : List ℕ) (fit : all_of (all_of (label_char P)) (labels form) ≡ true) (coded : any_of (uncoded P) (labels form) ≡ false) where
    each_ascii : all_of (all_of ascii_set) (map (ascii_label P) (labels form)) ≡ true
    each_ascii = all_ascii (labels form) fit coded

    pub form_ascii : all_of in_form (ascii_form P form) ≡ true
    unfolding ascii_form in_form period
    form_ascii =
        join_all in_form (or_right (ascii_set 0x2E) (period 0x2E) refl) (map (ascii_label P) (labels form))
        (all_weaker (all_of ascii_set) (all_of in_form) (all_weaker ascii_set in_form (λ c. or_left (ascii_set c) (period c))) (map (ascii_label P) (labels form)) each_ascii)

    -- its labels are the ASCII forms of the labels
    pub form_labels : labels (ascii_form P form) ≡ map (ascii_label P) (labels form)
    unfolding ascii_form
    form_labels =
        labels_join (map (ascii_label P) (labels form)) (rw (length-map (labels form) (ascii_label P)) (some_label form))
        (all_none (all_of ascii_set) (any_of period) no_period (map (ascii_label P) (labels form)) each_ascii)

  pub one_form : (s t : List ℕ) → Unmistaken P (labels s) → Unmistaken P (labels t) → OneForm P s t
  one_form s t U W = (apart, ap (ascii_form P))
    where
      apart : ascii_form P s ≡ ascii_form P t → s ≡ t
      apart e =
          let forms = sym (form_labels s U.fit U.coded) ∙ ap labels e ∙ form_labels t W.fit W.coded in
          sym (join_labels s) ∙ ap join (one_by_one (labels s) (labels t) (U.coded, U.plain) (W.coded, W.plain) forms) ∙ join_labels t
