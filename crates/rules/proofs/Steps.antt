-- What is answered at each step down the table: a row that does not apply is passed over, the first that applies is the answer. For
-- code that goes through the rules in their order, over any edition.
-- Assumes nothing.
use mathlib.Core.Path.{◌≡◌, refl, sym, ap, ◌∙◌}
use mathlib.Core.Bool.{Bool, true, false, not, ◌&&◌, ◌||◌}
use mathlib.Core.List.{List, [], ◌∷◌, ◌++◌}
use Prim.Native.Nat.{ℕ, suc, ◌-◌, ◌≤◌, ◌<◌}
use native.Mathlib.Omega.{arith}
use lib.Dec.{eqb}
use lib.ListN.{length, get_or}
use borrow.Author.Tests.{eq-eqb, ne_eqb, lt-ltb, le-ltb}
use Rattle.lists.specs.Tests.{any_of, index_of, same}
use Rattle.lists.specs.Rows.{first}
use Rattle.lists.specs.Rows.{Answer}
use Rattle.lists.proofs.Tables.{clear, stands, hands_on, hit, passed_over}
use Rattle.characters.specs.Characters.{hyphen}
use Rattle.normal.specs.Normal.{normal_form, places}
use Rattle.rules.specs.Labels.{labels}
use Rattle.rules.specs.Permits.{Permits, middle, is_empty}
use Rattle.rules.specs.Rules.{unfit, begins_with_hyphen, ends_with_hyphen, hyphen_edge, of_name, label_rows, jp, last_rows, name_rows, front_rows, text_rows, class_of, verdict, by_labels, rules, accepted, refused}
use Rattle.rules.specs.Hosts.{of_host, each_rows, host_rows, host_text_rows}
use Rattle.rules.specs.Verdicts.{Verdict}
use Rattle.rules.proofs.ByName.{label_cleared, front_clear, front_cleared}

-- ---- a label

-- the ends of a label, by index
ends_at : (x : ℕ) (xs : List ℕ) → ends_with_hyphen (x ∷ xs) ≡ hyphen (get_or (x ∷ xs) (length xs) 0)
unfolding ends_with_hyphen
ends_at x [] = refl
ends_at x (y ∷ ys) = ends_at y ys

pub edge_at : (l : List ℕ) → (length l ≡ 0 → ⊥) → hyphen_edge l ≡ hyphen (get_or l 0 0) || hyphen (get_or l (length l - 1) 0)
unfolding hyphen_edge begins_with_hyphen
edge_at [] h = absurd (h refl)
edge_at (x ∷ xs) h =
    let n : length xs ≡ suc (length xs) - 1 = omega arith in
    ap (λ (b : Bool). hyphen x || b) (ends_at x xs ∙ ap (λ (k : ℕ). hyphen (get_or (x ∷ xs) k 0)) n)

pub empty_is : (l : List ℕ) → is_empty l ≡ eqb (length l) 0
unfolding is_empty
empty_is [] = refl
empty_is (x ∷ xs) = sym (ne_eqb (suc (length xs)) 0 (λ e. omega arith))

-- ---- labels: 5 to 12 and 17

module _ (P : Permits) (ls : List (List ℕ)) where
  -- an answer of the table, said as a verdict
  told : {a : Answer} {v : Verdict} → first (name_rows P ls) ≡ a → verdict a ls ≡ v → by_labels P ls ≡ v
  told e f = ap (λ (a : Answer). verdict a ls) e ∙ f

  pub name_5 : eqb (length ls) 2 || (P.three && eqb (length ls) 3) ≡ false → by_labels P ls ≡ refused 5 0
  unfolding name_rows verdict
  name_5 e = told (hit 5 _ 0 _ (ap not e)) refl

  module _ (no-5 : eqb (length ls) 2 || (P.three && eqb (length ls) 3) ≡ true) where
    pub name_6 : any_of is_empty ls ≡ true → by_labels P ls ≡ refused 6 (index_of is_empty ls)
    unfolding name_rows verdict
    name_6 e = told (passed_over 5 _ 0 _ (ap not no-5) ∙ hit 6 _ _ _ e) refl

    module _ (no-6 : any_of is_empty ls ≡ false) where
      -- the answer of the rows from 7 on
      on : {a : Answer} → first (label_rows P of_name (get_or ls 0 []) 0 ++ last_rows P ls) ≡ a → first (name_rows P ls) ≡ a
      unfolding name_rows
      on e = passed_over 5 _ 0 _ (ap not no-5) ∙ passed_over 6 _ _ _ no-6 ∙ e

      module _ {a : Answer} (e : a ≡ first (label_rows P of_name (get_or ls 0 []) 0)) where
        pub name_left : (a.number ≡ 0 → ⊥) → by_labels P ls ≡ refused a.number a.place
        unfolding verdict
        name_left h = told (on (stands (label_rows P of_name (get_or ls 0 []) 0) (last_rows P ls) (sym e) h)) (rw (ne_eqb a.number 0 h))

        module _ (z : a.number ≡ 0) where
          past : {b : Answer} → first (last_rows P ls) ≡ b → first (name_rows P ls) ≡ b
          past f = on (hands_on (label_rows P of_name (get_or ls 0 []) 0) (last_rows P ls) (sym e) (label_cleared P of_name (get_or ls 0 []) 0) z ∙ f)

          pub name_11 : same (get_or ls (length ls - 1) []) jp ≡ false → by_labels P ls ≡ refused 11 0
          unfolding verdict
          name_11 f = told (past (hit 11 _ 0 _ (ap not f))) refl

          module _ (no-11 : same (get_or ls (length ls - 1) []) jp ≡ true) where
            pub name_12 : eqb (length ls) 3 && not (middle P (get_or ls 1 [])) ≡ true → by_labels P ls ≡ refused 12 0
            unfolding verdict
            name_12 f = told (past (passed_over 11 _ 0 _ (ap not no-11) ∙ hit 12 _ 0 _ f)) refl

            pub name_0 : eqb (length ls) 3 && not (middle P (get_or ls 1 [])) ≡ false → by_labels P ls ≡ accepted (class_of ls)
            unfolding verdict
            name_0 f = told (past (clear (last_rows P ls) (ap not no-11, (f, tt)))) refl

-- ---- a text: 2 to 4

module _ (P : Permits) (text : List ℕ) where
  pub front_2 : length text ≡ 0 → first (front_rows P text) ≡ record { number = 2; place = 0 }
  unfolding front_rows
  front_2 e = hit 2 _ 0 _ (eq-eqb (length text) 0 e)

  module _ (some : length text ≡ 0 → ⊥) where
    pub front_3 : 256 < length text → first (front_rows P text) ≡ record { number = 3; place = 256 }
    unfolding front_rows
    front_3 h = passed_over 2 _ 0 _ (ne_eqb (length text) 0 some) ∙ hit 3 _ 256 _ (lt-ltb 256 (length text) h)

    pub front_4 : length text ≤ 256 → any_of (unfit P) (normal_form text) ≡ true
        → first (front_rows P text) ≡ record { number = 4; place = get_or (places text) (index_of (unfit P) (normal_form text)) 0 }
    unfolding front_rows
    front_4 few e =
        passed_over 2 _ 0 _ (ne_eqb (length text) 0 some) ∙ passed_over 3 _ 256 _ (le-ltb 256 (length text) few) ∙ hit 4 _ _ _ e

    pub front_0 : length text ≤ 256 → any_of (unfit P) (normal_form text) ≡ false → first (front_rows P text) ≡ record { number = 0; place = 0 }
    front_0 few e = clear (front_rows P text) (front_clear P text (record { some = omega arith; few = few; fit = e }))

  -- ---- by no edition all are refused

  module _ (e : P.known ≡ false) where
    pub first_25 : first (text_rows P text) ≡ record { number = 25; place = 0 }
    unfolding text_rows
    first_25 = hit 25 (not P.known) 0 _ (ap not e)

    pub text_25 : rules P text ≡ refused 25 0
    unfolding rules verdict
    text_25 = ap (λ (x : Answer). verdict x (labels (normal_form text))) first_25

  -- ---- by an edition what 2 to 4 refuse the rules refuse; else they say what 5 to 12 and 17 say of the labels

  module _ {a : Answer} (e : first (front_rows P text) ≡ a) where
    module _ (there_is : P.known ≡ true) where
      on_25 : {b : Answer} → first (front_rows P text ++ name_rows P (labels (normal_form text))) ≡ b → first (text_rows P text) ≡ b
      unfolding text_rows
      on_25 f = passed_over 25 _ 0 _ (ap not there_is) ∙ f

      pub first_front : (a.number ≡ 0 → ⊥) → first (text_rows P text) ≡ a
      first_front h = on_25 (stands (front_rows P text) _ e h)

      pub text_front : (a.number ≡ 0 → ⊥) → rules P text ≡ refused a.number a.place
      unfolding rules verdict
      text_front h = ap (λ (x : Answer). verdict x (labels (normal_form text))) (first_front h) ∙ rw (ne_eqb a.number 0 h)

      pub text_on : a.number ≡ 0 → rules P text ≡ by_labels P (labels (normal_form text))
      unfolding rules
      text_on z =
          ap (λ (x : Answer). verdict x (labels (normal_form text))) (on_25 (hands_on (front_rows P text) _ e (front_cleared P text) z))

    -- and what they refuse is refused of a host
    pub host_front : (a.number ≡ 0 → ⊥) → first (host_text_rows P text) ≡ a
    unfolding host_text_rows
    host_front h = stands (front_rows P text) _ e h

-- ---- the labels of a host: 5, 6, and label by label 7 to 10 and 17

module _ (P : Permits) (ls : List (List ℕ)) where
  pub host_5 : length ls < 3 → first (host_rows P ls) ≡ record { number = 5; place = 0 }
  unfolding host_rows
  host_5 h = hit 5 _ 0 _ (lt-ltb (length ls) 3 h)

  module _ (no-5 : 3 ≤ length ls) where
    pub host_6 : any_of is_empty ls ≡ true → first (host_rows P ls) ≡ record { number = 6; place = index_of is_empty ls }
    unfolding host_rows
    host_6 e = passed_over 5 _ 0 _ (le-ltb (length ls) 3 no-5) ∙ hit 6 _ _ _ e

    pub host_each : any_of is_empty ls ≡ false → first (host_rows P ls) ≡ first (each_rows P 0 ls)
    unfolding host_rows
    host_each e = passed_over 5 _ 0 _ (le-ltb (length ls) 3 no-5) ∙ passed_over 6 _ _ _ e

module _ (P : Permits) (i : ℕ) (l : List ℕ) (ls : List (List ℕ)) {a : Answer} (e : a ≡ first (label_rows P of_host l i)) where
  pub each_stops : (a.number ≡ 0 → ⊥) → first (each_rows P i (l ∷ ls)) ≡ a
  unfolding each_rows
  each_stops h = stands (label_rows P of_host l i) _ (sym e) h

  pub each_on : a.number ≡ 0 → first (each_rows P i (l ∷ ls)) ≡ first (each_rows P (suc i) ls)
  unfolding each_rows
  each_on z = hands_on (label_rows P of_host l i) _ (sym e) (label_cleared P of_host l i) z

-- past the last label nothing is refused
pub each_0 : (P : Permits) (i : ℕ) → first (each_rows P i []) ≡ record { number = 0; place = 0 }
unfolding each_rows first
each_0 P i = refl
