-- A text is accepted as a name of a class exactly where its normal form derives as one and does not pretend: to a derived name no row of the
-- table applies but 17, where no other row applies the labels of the normal form are those of a derived name, and 17 applies to it exactly
-- where it pretends. So the rules without 17 accept exactly what derives, and with it they lost exactly the names that pretend.
-- Assumes nothing.
use mathlib.Core.Path.{◌≡◌, refl, sym, ap, ◌∙◌}
use mathlib.Core.Bool.{Bool, true, false, not, ◌||◌}
use mathlib.Core.List.{List, [], ◌∷◌}
use mathlib.Core.Logic.{◌↔◌}
use Prim.Native.Nat.{ℕ}
use native.Mathlib.Omega.{arith}
use lib.Dec.{eqb}
use lib.ListN.{length, get_or}
use borrow.Author.Tests.{eqb-true, not-false}
use Rattle.lists.specs.Tests.{pick, all_of}
use Rattle.lists.specs.Rows.{Row, row, first, without, Clear}
use Rattle.lists.specs.Rows.{Answer}
use Rattle.lists.proofs.Tables.{clear, clear_before, past_table, hit, of_rows, only, first_only, first_without, never_given}
use Rattle.normal.proofs.Laws.{no_longer, not_twice}
use Rattle.normal.specs.Normal.{normal_form}
use Rattle.rules.specs.Labels.{labels}
use Rattle.rules.specs.Permits.{Permits, Laws}
use Rattle.rules.specs.Rules.{is_japanese, hyphen_edge, short, long, of_name, pretends, label_rows, name_rows, front_rows, text_rows, class_of, verdict, rules, rules_but, accepted, refused, Formed}
use Rattle.rules.specs.Grammar.{Derives}
use Rattle.rules.specs.Pretends.{PAIR, PRETENDS, Admitted, Granted}
use Rattle.rules.specs.Verdicts.{Class}
use Rattle.rules.specs.Verdicts.{None, General, Prefecture}
use Rattle.rules.specs.Verdicts.{Verdict}
use Rattle.rules.proofs.ByName.{past_9, clear_front, FrontPassed, clear_but, but_clear, clear_text, text_clear, text_cleared, but_cleared}
use Rattle.rules.proofs.Cuts.{join_labels, labels_fit}
use Rattle.rules.proofs.Derived.{passed_derives, named}
use Rattle.rules.proofs.Minus.{Reached}
use Rattle.rules.proofs.Pretends.{pretends_pair, left_pretends, honest_name, honest_left}

-- ---- what is answered, by a table whose answer 0 says that no row applies

module _ (rows : List Row) (cleared : (first rows).number ≡ 0 → Clear rows) (ls : List (List ℕ)) where
  clear_accepted : Clear rows → verdict (first rows) ls ≡ accepted (class_of ls)
  unfolding verdict
  clear_accepted c = ap (λ (a : Answer). verdict a ls) (clear rows c)

  number_clear : (verdict (first rows) ls).number ≡ 0 → Clear rows
  unfolding verdict
  number_clear e = cleared e

  -- accepted as k exactly where no row applies and k is the class
  said : (k : Class) → (verdict (first rows) ls ≡ accepted k) ↔ (Clear rows × (class_of ls ≡ k))
  said k = (there, λ h. clear_accepted h.0 ∙ ap accepted h.1)
    where
      there : verdict (first rows) ls ≡ accepted k → Clear rows × (class_of ls ≡ k)
      there e = let c = number_clear (ap (λ (v : Verdict). v.number) e) in (c, ap (λ (v : Verdict). v.class) (sym (clear_accepted c) ∙ e))

-- ---- for any edition

module _ (P : Permits) (text : List ℕ) where
  -- the class of the text, where it is accepted
  abbrev pub class : Class
  class = class_of (labels (normal_form text))

  accepted_said : (k : Class) → (rules P text ≡ accepted k) ↔ (Clear (text_rows P text) × (class ≡ k))
  unfolding rules
  accepted_said = said (text_rows P text) (text_cleared P text) (labels (normal_form text))

  but_said : (k : Class) → (rules_but 17 P text ≡ accepted k) ↔ (Clear (without 17 (text_rows P text)) × (class ≡ k))
  unfolding rules_but
  but_said = said (without 17 (text_rows P text)) (but_cleared P text) (labels (normal_form text))

  -- number 0 leaves only the class open, and every other number has none
  pub number_accepted : (rules P text).number ≡ 0 → rules P text ≡ accepted class
  unfolding rules verdict
  number_accepted e = (accepted_said class).1 (text_cleared P text e, refl)

  class_some : class ≡ None → ⊥
  unfolding class_of
  class_some e = go (eqb (length (labels (normal_form text))) 3) e
    where
      go : (b : Bool) → pick b Prefecture General ≡ None → ⊥
      go true e = let z : ◌≡◌ {A = ℕ} 0 1 = cc in omega arith
      go false e = let z : ◌≡◌ {A = ℕ} 0 1 = cc in omega arith

  no_class : (b : Bool) → eqb (rules P text).number 0 ≡ b → ((rules P text).class ≡ None → ⊥) → (rules P text).number ≡ 0
  unfolding rules verdict
  no_class true e n = eqb-true _ 0 e
  no_class false e n = absurd (n (rw e))

  pub formed : Formed (rules P text)
  formed = record {
    class = (λ e n. class_some (sym (ap (λ (v : Verdict). v.class) (number_accepted e)) ∙ n), no_class (eqb (rules P text).number 0) refl);
    place = λ e. ap (λ (v : Verdict). v.place) (number_accepted e);
  }

  -- an answer other than 17 is what it is without row 17
  pub others_stay : ((rules P text).number ≡ 17 → ⊥) → rules_but 17 P text ≡ rules P text
  unfolding rules rules_but verdict
  others_stay h = ap (λ (a : Answer). verdict a (labels (normal_form text))) (first_without 17 (text_rows P text) h)

  -- the leftmost label
  abbrev pub left : List ℕ
  left = get_or (labels (normal_form text)) 0 []

  -- 17 is given only where it is ASCII with the pair, and at place 0
  module _ (e : (rules P text).number ≡ 17) where
    given_17 : (first (text_rows P text)).number ≡ 17
    unfolding rules verdict
    given_17 = e

    left_pair : (is_japanese P left ≡ false) × PAIR left
    unfolding text_rows front_rows name_rows label_rows only
    left_pair = go (pretends P of_name left) refl
      where
        go : (b : Bool) → pretends P of_name left ≡ b → (is_japanese P left ≡ false) × PAIR left
        go true p = pretends_pair P left p
        go false p = absurd (never_given 17 (λ z. omega arith) (text_rows P text) (p, tt) given_17)

    at_0 : (first (text_rows P text)).place ≡ 0
    unfolding text_rows front_rows name_rows label_rows all_of
    at_0 =
        eqb-true _ 0 (rw given_17 at (of_rows (λ (a : Answer). not (eqb a.number 17) || eqb a.place 0) refl (text_rows P text) refl))

    pub only_17 : (rules P text ≡ refused 17 0) × (is_japanese P left ≡ false) × PAIR left
    unfolding rules verdict
    only_17 = (rw (given_17, at_0), left_pair.0, left_pair.1)

    -- and none of 25 and 2 to 9 applies then
    pub after_9 : Reached P text × (hyphen_edge left ≡ false) × (short P 3 left ≡ false) × (long P left ≡ false)
    unfolding text_rows front_rows all_of
    after_9 =
        let ls = labels (normal_form text) in
        let before : List Row = row 25 (not P.known) 0 ∷ front_rows P text in
        let f = past_table 17 before (name_rows P ls) refl given_17 in
        let c = past_9 P ls (sym (ap (λ (a : Answer). a.number) (clear_before before (name_rows P ls) f)) ∙ given_17) in
        (record { there_is = not-false P.known f.0; front = clear_front P text f.1; count = c.0; filled = c.1 }, c.2, c.3, c.4)

-- no text is accepted as both
pub not_both : (P : Permits) (text : List ℕ) → rules P text ≡ accepted General → rules P text ≡ accepted Prefecture → ⊥
not_both P text p q =
    let k : General ≡ Prefecture = ap (λ (v : Verdict). v.class) (sym p ∙ q) in
    let z : ◌≡◌ {A = ℕ} 0 1 = cc in
    omega arith

module _ (P : Permits) (L : Laws P) where
  -- ---- without 17: accepted exactly where derivable

  clear_derives : (text : List ℕ) → Clear (without 17 (text_rows P text)) → Derives P (class P text) (normal_form text)
  clear_derives text c =
      let b = clear_but P text c in
      rw (join_labels (normal_form text)) at (passed_derives P L (labels (normal_form text)) (labels_fit P (normal_form text) b.0.fit) b.1)

  -- no derivable name is lost to the limit of 256
  front_passed : {k : Class} (text : List ℕ) → Derives P k (normal_form text) → FrontPassed P text
  front_passed text d =
      let N = named P L d in
      record { some = omega (arith, N.some, no_longer text); few = omega (arith, N.few, not_twice text); fit = N.fit }

  pub before_derives : (text : List ℕ) (k : Class) → (rules_but 17 P text ≡ accepted k) ↔ Derives P k (normal_form text)
  before_derives text k = (there, back)
    where
      there : rules_but 17 P text ≡ accepted k → Derives P k (normal_form text)
      there e = let h = (but_said P text k).0 e in rw h.1 at (clear_derives text h.0)

      back : Derives P k (normal_form text) → rules_but 17 P text ≡ accepted k
      back d = let N = named P L d in (but_said P text k).1 (but_clear P text L.there_is (front_passed text d) N.passed, N.class)

  -- ---- with 17: exactly where it is admitted

  pub accepted_derives : (text : List ℕ) (k : Class) → (rules P text ≡ accepted k) ↔ Admitted P k (normal_form text)
  accepted_derives text k = (there, back)
    where
      there : rules P text ≡ accepted k → Admitted P k (normal_form text)
      there e =
          let h = (accepted_said P text k).0 e in
          let c = clear_text P text h.0 in
          (rw h.1 at (clear_derives text (but_clear P text L.there_is c.0 c.1)), honest_name P L c.2)

      back : Admitted P k (normal_form text) → rules P text ≡ accepted k
      back (d, n) =
          let N = named P L d in
          (accepted_said P text k).1 (text_clear P text L.there_is (front_passed text d) N.passed (honest_left P L d n), N.class)

  pub accepted_exactly : (text : List ℕ) (k : Class) → (rules P text ≡ accepted k) ↔ Granted P k text
  accepted_exactly text k = (λ e. granted ((accepted_derives text k).0 e), λ G. (accepted_derives text k).1 G.name)
    where
      granted : Admitted P k (normal_form text) → Granted P k text
      granted a = let F = front_passed text a.0 in record { some = F.some; few = F.few; name = a }

  -- ---- so the accepted names shrank by exactly those that pretend, and these are refused with 17 at place 0

  pub shrank : (text : List ℕ) (k : Class) → (rules P text ≡ accepted k) ↔ ((rules_but 17 P text ≡ accepted k) × (PRETENDS (normal_form text) → ⊥))
  shrank text k =
      let s = accepted_derives text k in
      let b = before_derives text k in
      (λ e. let a = s.0 e in (b.1 a.0, a.1), λ h. s.1 (b.0 h.0, h.1))

  pub refused_17 : (text : List ℕ) (k : Class) → rules_but 17 P text ≡ accepted k → PRETENDS (normal_form text) → rules P text ≡ refused 17 0
  unfolding rules verdict text_rows front_rows name_rows label_rows only
  refused_17 text k e x =
      ap (λ (a : Answer). verdict a (labels (normal_form text)))
      (first_only 17 (text_rows P text) ((but_said P text k).0 e).0 ∙ hit 17 _ 0 _ (left_pretends P L x))

  -- a derived name has one class
  pub one_class : {t : List ℕ} {j k : Class} → Derives P j t → Derives P k t → j ≡ k
  one_class c d = sym (named P L c).class ∙ (named P L d).class
