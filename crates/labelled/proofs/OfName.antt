-- A name by its labels: whether there are two or three, whether the edition lets three be, and which of them is empty.
-- Assumes nothing.
use mathlib.Core.Path.{◌≡◌, refl, sym, ap, ◌∙◌}
use mathlib.Core.Bool.{Bool, true, false, not, ◌&&◌, ◌||◌, cond, and-false}
use mathlib.Core.List.{List, [], ◌∷◌, map}
use mathlib.Core.Logic.{⊎_elim}
use Prim.Native.Nat.{ℕ, ◌-◌}
use native.Mathlib.Omega.{arith}
use lib.Dec.{eqb, ltb}
use lib.ListN.{length, get_or, get_or-map}
use borrow.Author.Tests.{ne_eqb, ltb-true, ltb-false}
use Rattle.lists.specs.Tests.{any_of, index_of, same}
use Rattle.std.proofs.Common.{Bor, Option, Some, None}
use Rattle.std.specs.List.{position_or_len}
use Rattle.std.proofs.lemmas.List.{length-map}
use Rattle.std.proofs.lemmas.Option.{cond_some, none-some}
use Rattle.lists.specs.Rows.{first, Answer}
use Rattle.refusals.specs.Refusals.{number_of, refusal_told}
use Rattle.refusals.specs.declared.Refused.{Refused}
use Rattle.refusals.proofs.Once.{number_not_0}
use Rattle.lists.proofs.Chains.{position_is}
use Rattle.lists.proofs.Scan.{found, not_found}
use Rattle.rules.specs.Labels.{labels}
use Rattle.rules.specs.Permits.{Permits, middle, is_empty}
use Rattle.rules.specs.Rules.{of_name, label_rows, jp, class_of, by_labels, accepted, refused}
use Rattle.rules.specs.Verdicts.{General, Prefecture}
use Rattle.rules.specs.Editions.{is_edition, has_prefectures, middles_in, edition_with}
use Rattle.rules.proofs.Steps.{empty_is, name_5, name_6, name_left, name_11, name_12, name_0}
use Rattle.labelled.specs.Cuts.{EndsAt, MayBe}
use Rattle.labelled.specs.declared.Cut.{Cut}
use Rattle.labelled.specs.declared.Cut.TheVariants.{One, Two, Three, More}

-- ---- empty labels

filled : (l : List ℕ) → (length l ≡ 0 → ⊥) → is_empty l ≡ false
filled l h = empty_is l ∙ ne_eqb (length l) 0 h

pub two_filled : (l m : List ℕ) → (length l ≡ 0 → ⊥) → (length m ≡ 0 → ⊥) → any_of is_empty (l ∷ m ∷ []) ≡ false
unfolding any_of
two_filled l m f g = rw (filled l f, filled m g)

-- ---- what the code has of an edition

module _ (table : List ℕ) (edition : ℕ) where
  pub lent_known : {b : Bool} → b ≡ is_edition edition → (edition_with table edition).known ≡ b
  unfolding edition_with
  lent_known e = sym e

  lent_three : has_prefectures edition ≡ true → (edition_with table edition).three ≡ true
  unfolding edition_with
  lent_three may = may

  pub middle_is : (m : List ℕ) {b : Bool} → b ≡ any_of (same m) (middles_in edition) → b ≡ middle (edition_with table edition) m
  unfolding middle edition_with
  middle_is m e = e

-- ---- the labels in a slice, two or three by the edition

abbrev none : Bor (List ℕ)
none = record { ref_ptr = (0, 0); now = [] }

-- the answer where no row applies
abbrev taken : Answer
taken = record { number = 0; place = 0 }

abbrev told : List (Bor (List ℕ)) → List (List ℕ)
told bs = map (λ b. b.now) bs

index_told : (bs : List (Bor (List ℕ))) → index_of (λ b. is_empty b.now) bs ≡ index_of is_empty (told bs)
unfolding index_of
index_told [] = refl
index_told (b ∷ bs) = rw (index_told bs)

any_told : (bs : List (Bor (List ℕ))) → any_of (λ b. is_empty b.now) bs ≡ any_of is_empty (told bs)
unfolding any_of
any_told [] = refl
any_told (b ∷ bs) = rw (any_told bs)

none_there : (b : Bool) (i : ℕ) → cond b (Some i) None ≡ None → b ≡ false
none_there true i e = absurd (none-some _ (sym e))
none_there false i e = refl

module _ (table : List ℕ) (edition : ℕ) (bs : List (Bor (List ℕ))) (m : MayBe edition (length bs)) where
  abbrev P : Permits
  P = edition_with table edition

  at : (i : ℕ) → get_or (told bs) i [] ≡ (get_or bs i none).now
  at i = get_or-map (λ (b : Bor (List ℕ)). b.now) bs i none

  no_5 : eqb (length (told bs)) 2 || (P.three && eqb (length (told bs)) 3) ≡ true
  no_5 = rw (length-map bs (λ (b : Bor (List ℕ)). b.now)) (⊎_elim (λ h. rw h) (λ h. rw (h.0, lent_three table edition h.1)) m)

  -- the search for an empty one
  module _ {r : Option ℕ} (e : r ≡ cond (ltb (position_or_len (λ b. is_empty b.now) bs) (length bs)) (Some (position_or_len (λ b. is_empty b.now) bs)) None) where
    pub one_empty : {i : ℕ} → r ≡ Some i → refused 6 i ≡ by_labels P (told bs)
    one_empty f =
        let p = cond_some _ _ _ (sym e ∙ f) in
        let i = position_is (λ (b : Bor (List ℕ)). is_empty b.now) bs in
        ap (refused 6) (sym p.1 ∙ i ∙ index_told bs)
        ∙ sym (name_6 P (told bs) no_5 (sym (any_told bs) ∙ found _ bs (ltb-true _ _ (ap (λ n. ltb n (length bs)) (sym i) ∙ p.0))))

    module _ (f : r ≡ None) where
      no_6 : any_of is_empty (told bs) ≡ false
      no_6 = sym (any_told bs) ∙ not_found _ bs (ltb-false _ _ (ap (λ n. ltb n (length bs)) (sym (position_is (λ (b : Bor (List ℕ)). is_empty b.now) bs)) ∙ none_there _ _ (sym e ∙ f)))

      pub left_refused : (e : Refused) → refusal_told e ≡ first (label_rows P of_name (get_or bs 0 none).now 0) → refused (number_of e.why) e.place ≡ by_labels P (told bs)
      left_refused e k = sym (name_left P (told bs) no_5 no_6 (rw (at 0) k) (number_not_0 e.why))

      module _ (k : taken ≡ first (label_rows P of_name (get_or bs 0 none).now 0)) where
        left : taken ≡ first (label_rows P of_name (get_or (told bs) 0 []) 0)
        left = rw (at 0) k

        module _ {b : Bool} (j : b ≡ same (get_or bs (length bs - 1) none).now jp) where
          last : b ≡ same (get_or (told bs) (length (told bs) - 1) []) jp
          last = rw (length-map bs (λ (b : Bor (List ℕ)). b.now), at (length bs - 1)) j

          pub not_jp : b ≡ false → refused 11 0 ≡ by_labels P (told bs)
          not_jp h = sym (name_11 P (told bs) no_5 no_6 left refl (sym last ∙ h))

          module _ (y : b ≡ true) where
            pub two_pass : length bs ≡ 2 → accepted General ≡ by_labels P (told bs)
            unfolding class_of
            two_pass h = sym (name_0 P (told bs) no_5 no_6 left refl (sym last ∙ y) (rw (length-map bs (λ (b : Bor (List ℕ)). b.now), h)) ∙ rw (length-map bs (λ (b : Bor (List ℕ)). b.now), h))

            module _ (h : length bs ≡ 2 → ⊥) {d : Bool} (q : d ≡ any_of (same (get_or bs 1 none).now) (middles_in edition)) where
              three : length (told bs) ≡ 3
              three = length-map bs (λ (b : Bor (List ℕ)). b.now) ∙ ⊎_elim (λ e. absurd (h e)) (λ e. e.0) m

              pub three_pass : d ≡ true → accepted Prefecture ≡ by_labels P (told bs)
              unfolding class_of
              three_pass g = sym (name_0 P (told bs) no_5 no_6 left refl (sym last ∙ y) (rw (three, at 1) (ap not (sym (middle_is table edition _ q) ∙ g))) ∙ rw three)

              pub not_prefecture : d ≡ false → refused 12 0 ≡ by_labels P (told bs)
              not_prefecture g = sym (name_12 P (told bs) no_5 no_6 left refl (sym last ∙ y) (rw (three, at 1) (ap not (sym (middle_is table edition _ q) ∙ g))))

-- ---- neither two labels nor three

too_many : (P : Permits) (ls : List (List ℕ)) → (length ls ≡ 2 → ⊥) → (length ls ≡ 3 → ⊥) → refused 5 0 ≡ by_labels P ls
too_many P ls f g = sym (name_5 P ls (rw (ne_eqb (length ls) 2 f, ne_eqb (length ls) 3 g) (and-false P.three)))

-- three, where an edition has no prefecture names
pub three_refused : (table : List ℕ) (edition : ℕ) (l m n : List ℕ) {ls : List (List ℕ)} → has_prefectures edition ≡ false → ls ≡ l ∷ m ∷ n ∷ []
    → refused 5 0 ≡ by_labels (edition_with table edition) ls
unfolding edition_with
three_refused table edition l m n h e = sym (ap (by_labels (edition_with table edition)) e ∙ name_5 (edition_with table edition) (l ∷ m ∷ n ∷ []) (rw h))

pub other_count : (P : Permits) (t : List ℕ) (r : Cut) → EndsAt t r → ((a : ℕ) → r ≡ Two a → ⊥) → ((a b : ℕ) → r ≡ Three a b → ⊥) → refused 5 0 ≡ by_labels P (labels t)
other_count P t One E f g = too_many P (labels t) (λ h. omega (arith, ap length E)) (λ h. omega (arith, ap length E))
other_count P t (Two a) E f g = absurd (f a refl)
other_count P t (Three a b) E f g = absurd (g a b refl)
other_count P t (More a b) E f g = too_many P (labels t) (λ h. omega arith) (λ h. omega arith)
