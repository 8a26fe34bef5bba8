-- The minus sign 2212 (document 02, K2) is a hyphen to every rule: a text is judged by what replaces its code points, and 2D replaces both.
-- It parts the normal form as any character of the ASCII set does, and like these it never brings 4.
-- Assumes nothing.
use mathlib.Core.Path.{◌≡◌, refl, sym, ap, ◌∙◌}
use mathlib.Core.Bool.{Bool, true, false, not, ◌&&◌, ◌||◌, true≢false}
use mathlib.Core.List.{List, [], ◌∷◌, ◌++◌, map}
use mathlib.Core.Logic.{⊎_elim}
use Prim.Native.Nat.{ℕ, ◌≤◌}
use native.Mathlib.Omega.{arith}
use lib.Dec.{eqb}
use lib.ListN.{length, get_or}
use lib.Seq.{append_snoc}
use borrow.Author.Tests.{eqb-true, eq-eqb, not-true}
use Rattle.lists.specs.Tests.{pick, within, all_of, any_of, index_of}
use Rattle.lists.specs.Rows.{first}
use Rattle.lists.specs.Rows.{Answer}
use Rattle.lists.proofs.Laws.{or_left, or_right, by_test, refuted, clash, lt_or_le, any_append}
use Rattle.lists.proofs.Scan.{found_inside, holds_there}
use Rattle.lists.proofs.Tables.{hit, of_rows}
use Rattle.characters.specs.Characters.{alnum, hyphen, ascii_set}
use Rattle.characters.specs.Replace.{ranges, range_in, is_half, replace_in, replace}
use Rattle.characters.proofs.Pairs.{low_no_mark, low_no_base}
use Rattle.normal.specs.Normal.{normal_form, places}
use Rattle.normal.proofs.Continued.{led, parted}
use Rattle.normal.proofs.Origins.{form_alike, places_alike, length_alike, Came, alone, joined, came}
use Rattle.rules.specs.Labels.{period, into_first, labels}
use Rattle.rules.specs.Permits.{Permits, ja_char, label_char, is_empty}
use Rattle.rules.specs.Rules.{unfit, begins_with_hyphen, hyphen_edge, label_rows, name_rows, front_rows, text_rows, verdict, rules, refused}
use Rattle.rules.specs.Hopeful.{hopeful}
use Rattle.rules.specs.Verdicts.{Verdict}
use Rattle.rules.proofs.ByName.{FrontPassed}
use Rattle.rules.proofs.Cuts.{labels_cut}
use Rattle.rules.proofs.Sound.{ends_snoc, ascii_range}
use Rattle.rules.proofs.Steps.{front_2, front_3, front_4, front_0, text_25, text_front, text_on, name_left}

-- ---- texts that are replaced alike are judged alike

module _ (P : Permits) (t u : List ℕ) (e : map replace t ≡ map replace u) where
  front_alike : front_rows P t ≡ front_rows P u
  unfolding front_rows
  front_alike = rw (form_alike t u e, places_alike t u e, length_alike t u e)

  rows_alike : text_rows P t ≡ text_rows P u
  unfolding text_rows
  rows_alike = rw (front_alike, form_alike t u e)

  rules_alike : rules P t ≡ rules P u
  unfolding rules
  rules_alike = rw (rows_alike, form_alike t u e)

  hopeful_alike : hopeful P t ≡ hopeful P u
  unfolding hopeful
  hopeful_alike = rw (form_alike t u e)

-- ---- a text with 2D in place of each 2212

abbrev pub with_hyphens : List ℕ → List ℕ
with_hyphens = map (λ (c : ℕ). pick (eqb c 0x2212) 0x2D c)

one_replaced : (c : ℕ) → replace (pick (eqb c 0x2212) 0x2D c) ≡ replace c
unfolding replace replace_in is_half ranges range_in within
one_replaced c = go (eqb c 0x2212) refl
  where
    go : (b : Bool) → eqb c 0x2212 ≡ b → replace (pick b 0x2D c) ≡ replace c
    go true e = sym (ap replace (eqb-true c 0x2212 e))
    go false e = refl

all_replaced : (t : List ℕ) → map replace (with_hyphens t) ≡ map replace t
all_replaced [] = refl
all_replaced (c ∷ cs) = rw (one_replaced c, all_replaced cs)

pub minus_length : (t : List ℕ) → length (with_hyphens t) ≡ length t
minus_length t = length_alike (with_hyphens t) t (all_replaced t)

pub minus_form : (t : List ℕ) → normal_form (with_hyphens t) ≡ normal_form t
minus_form t = form_alike (with_hyphens t) t (all_replaced t)

module _ (P : Permits) (t : List ℕ) where
  pub minus_front : front_rows P (with_hyphens t) ≡ front_rows P t
  minus_front = front_alike P (with_hyphens t) t (all_replaced t)

  pub minus_rows : text_rows P (with_hyphens t) ≡ text_rows P t
  minus_rows = rows_alike P (with_hyphens t) t (all_replaced t)

  pub minus_rules : rules P (with_hyphens t) ≡ rules P t
  minus_rules = rules_alike P (with_hyphens t) t (all_replaced t)

  pub minus_hopeful : hopeful P (with_hyphens t) ≡ hopeful P t
  minus_hopeful = hopeful_alike P (with_hyphens t) t (all_replaced t)

-- ---- it is a hyphen in the normal form, between the normal forms of what stands before it and after it: it never composes

pub minus_parts : (t s : List ℕ) → normal_form (t ++ 0x2212 ∷ s) ≡ normal_form t ++ 0x2D ∷ normal_form s
unfolding replace replace_in is_half ranges range_in within
minus_parts t s = parted 0x2212 s (low_no_base 0x2D (omega arith)) t (low_no_mark 0x2D (omega arith))

-- ---- at an edge of the leftmost label it leads to 7

abbrev leftmost_of : List ℕ → List ℕ
leftmost_of t = get_or (labels (normal_form t)) 0 []

into_first_lem : (x : ℕ) (ls : List (List ℕ)) → hyphen x ≡ true → begins_with_hyphen (get_or (into_first x ls) 0 []) ≡ true
unfolding into_first begins_with_hyphen
into_first_lem x [] e = e
into_first_lem x (l ∷ ls) e = e

begins_edge : (s : List ℕ) → hyphen_edge (leftmost_of (0x2212 ∷ s)) ≡ true
unfolding hyphen_edge labels period hyphen replace replace_in is_half ranges range_in within
begins_edge s = rw (led 0x2212 s (low_no_base 0x2D (omega arith))) (or_left _ _ (into_first_lem 0x2D (labels (normal_form s)) refl))

-- t has no separator, c is one
ends_edge : (t : List ℕ) (c : ℕ) (s : List ℕ) → any_of period (normal_form t) ≡ false → replace c ≡ 0x2E
    → hyphen_edge (leftmost_of (t ++ 0x2212 ∷ c ∷ s)) ≡ true
unfolding hyphen_edge any_of period hyphen
ends_edge t c s n e =
    let l = normal_form t in
    let after : normal_form (c ∷ s) ≡ 0x2E ∷ normal_form s = rw e at (led c s (rw e (low_no_base 0x2E (omega arith)))) in
    let whole : normal_form (t ++ 0x2212 ∷ c ∷ s) ≡ (l ++ 0x2D ∷ []) ++ 0x2E ∷ normal_form s =
    minus_parts t (c ∷ s) ∙ ap (λ (f : List ℕ). l ++ 0x2D ∷ f) after ∙ sym (append_snoc l 0x2D (0x2E ∷ normal_form s)) in
    let cut : labels (normal_form (t ++ 0x2212 ∷ c ∷ s)) ≡ (l ++ 0x2D ∷ []) ∷ labels (normal_form s) =
    ap labels whole ∙ labels_cut (l ++ 0x2D ∷ []) (normal_form s) (any_append period l (0x2D ∷ []) ∙ rw n) in
    rw cut (or_right (begins_with_hyphen (l ++ 0x2D ∷ [])) _ (ends_snoc l 0x2D))

-- none of 25 and 2 to 6 applies
pub record Reached (P : Permits) (text : List ℕ) : Type 0 where
  pub there_is : P.known ≡ true
  pub front : FrontPassed P text
  pub count : eqb (length (labels (normal_form text))) 2 || (P.three && eqb (length (labels (normal_form text))) 3) ≡ true
  pub filled : any_of is_empty (labels (normal_form text)) ≡ false

module _ (P : Permits) where
  reached_7 : (text : List ℕ) → Reached P text → hyphen_edge (leftmost_of text) ≡ true → rules P text ≡ refused 7 0
  unfolding label_rows
  reached_7 text R e =
      let F = R.front in
      text_on P text (front_0 P text (λ z. omega (arith, F.some)) F.few F.fit) R.there_is refl
      ∙ name_left P (labels (normal_form text)) R.count R.filled (sym (hit 7 _ 0 _ e)) (λ z. omega arith)

  pub minus_begins : (s : List ℕ) → Reached P (0x2212 ∷ s) → rules P (0x2212 ∷ s) ≡ refused 7 0
  minus_begins s R = reached_7 (0x2212 ∷ s) R (begins_edge s)

  -- t has no separator, c is one
  pub minus_ends : (t : List ℕ) (c : ℕ) (s : List ℕ) → any_of period (normal_form t) ≡ false → replace c ≡ 0x2E
      → Reached P (t ++ 0x2212 ∷ c ∷ s) → rules P (t ++ 0x2212 ∷ c ∷ s) ≡ refused 7 0
  minus_ends t c s n e R = reached_7 (t ++ 0x2212 ∷ c ∷ s) R (ends_edge t c s n e)

-- ---- it never brings 4: no character of the ASCII set does

module _ (P : Permits) (t : List ℕ) where
  abbrev form : List ℕ
  form = normal_form t

  -- no row after it has this number
  later : (first (name_rows P (labels form))).number ≡ 4 → ⊥
  unfolding name_rows label_rows all_of
  later e =
      clash (eq-eqb _ 4 e)
      (not-true _ (of_rows (λ (a : Answer). not (eqb a.number 4)) refl (name_rows P (labels form)) refl))

  module _ (e : (rules P t).number ≡ 4) where
    -- so there is such an edition
    there_is : P.known ≡ true
    there_is =
        by_test (λ b. P.known ≡ b → b ≡ true) P.known (λ p q. refl)
        (λ p q. absurd (let z = ap (λ (v : Verdict). v.number) (text_25 P t q) in omega (arith, e))) refl

    -- and 2 to 4 refuse with no other number
    no_other : {a : Answer} → first (front_rows P t) ≡ a → (a.number ≡ 0 → ⊥) → (a.number ≡ 4 → ⊥) → ⊥
    no_other f n k = k (sym (ap (λ (v : Verdict). v.number) (text_front P t f there_is n)) ∙ e)

    four : (any_of (unfit P) form ≡ true) × ((rules P t).place ≡ get_or (places t) (index_of (unfit P) form) 0)
    unfolding verdict
    four =
        ⊎_elim (λ z. absurd (no_other (front_2 P t (omega arith)) (λ z. omega arith) (λ z. omega arith)))
        (λ some. ⊎_elim (λ h. absurd (no_other (front_3 P t (λ z. omega arith) h) (λ z. omega arith) (λ z. omega arith)))
        (λ few. go (λ z. omega arith) few (any_of (unfit P) form) refl) (lt_or_le 256 (length t))) (lt_or_le (length t) 1)
      where
        go : (length t ≡ 0 → ⊥) → length t ≤ 256 → (b : Bool) → any_of (unfit P) form ≡ b
            → (any_of (unfit P) form ≡ true) × ((rules P t).place ≡ get_or (places t) (index_of (unfit P) form) 0)
        go some few true q = (q, ap (λ (v : Verdict). v.place) (text_front P t (front_4 P t some few q) there_is (λ z. omega arith)))
        go some few false q = absurd (later (sym (ap (λ (v : Verdict). v.number) (text_on P t (front_0 P t some few q) there_is refl)) ∙ e))

  -- what comes of a character of the ASCII set is fit
  fit : {x y : ℕ} → Came x y → ascii_set x ≡ true → unfit P y ≡ false
  unfolding unfit label_char
  fit {x} alone a = ap not (or_right (period x) _ (or_right (ja_char P x) _ a))
  fit {x} (joined m n) a = absurd (n (low_no_base x (omega (arith, ascii_range x a)) m))

  pub ascii_not_4 : (rules P t).number ≡ 4 → ascii_set (replace (get_or t (rules P t).place 0)) ≡ false
  ascii_not_4 e =
      let f = four e in
      let h = found_inside (unfit P) form f.0 in
      refuted _ (λ a. clash (holds_there (unfit P) form h) (fit (came t (index_of (unfit P) form) h) (rw f.1 at a)))

  pub minus_not_4 : (rules P t).number ≡ 4 → get_or t (rules P t).place 0 ≡ 0x2212 → ⊥
  unfolding replace replace_in is_half ranges range_in within ascii_set alnum hyphen
  minus_not_4 e m = true≢false (rw m at (ascii_not_4 e))
