-- What a call that writes answers: the rows that the judge passed over are the rules, so an accepted name has its normal form in the
-- lent buffer, and a refused one leaves the buffer.
-- Assumes nothing.
use mathlib.Core.Path.{◌≡◌, refl, sym, ap, ◌∙◌}
use mathlib.Core.Bool.{true, false}
use mathlib.Core.List.{List, [], ◌∷◌, ◌++◌}
use Prim.Native.Nat.{ℕ, ◌≤◌, ◌<◌}
use native.Mathlib.Omega.{arith}
use lib.Dec.{ltb}
use lib.ListN.{length, take, drop, get_or}
use borrow.Author.Tests.{ne_eqb, lt-ltb, le-ltb}
use Rattle.lists.specs.Tests.{all_of, any_of}
use Rattle.lists.specs.Front.{written}
use Rattle.lists.specs.Rows.{Row, row, Answer, first, Clear}
use Rattle.lists.proofs.Tables.{clear, clear_before, split_clear, refused_before, hit, passed_over, refusing, accepted_clear, gives_no, gives_yes}
use Rattle.std.specs.Prelude.{Ok, Err}
use Rattle.refusals.specs.Refusals.{number_of, refusal_told}
use Rattle.refusals.specs.declared.Refusal.TheVariants.{NoRoom, Over63, NoEdition}
use Rattle.refusals.specs.declared.Refused.{Refused}
use Rattle.refusals.proofs.Once.{number_not_0}
use Rattle.normal.specs.Normal.{normal_form}
use Rattle.normal.proofs.Laws.{no_longer}
use Rattle.rules.specs.Labels.{labels}
use Rattle.rules.specs.Permits.{Permits}
use Rattle.rules.specs.Rules.{label_rows, name_rows, front_rows, text_rows, class_of, verdict, rules, accepted, refused}
use Rattle.rules.specs.Kinds.{kinds_in}
use Rattle.rules.specs.Places.{label_places, places_said}
use Rattle.rules.specs.declared.Kinds.{Kinds}
use Rattle.rules.specs.declared.LabelPlaces.{LabelPlaces}
use Rattle.rules.specs.Verdicts.{Class, Verdict, class_told}
use Rattle.rules.specs.declared.Class as one
use Rattle.rules.proofs.ByName.{clear_text, text_cleared}
use Rattle.rules.proofs.Derived.{two_or_three}
use Rattle.rules.proofs.Steps.{first_25}
use Rattle.ascii.specs.Ascii.{ascii_form, uncoded}
use Rattle.lists.proofs.Fronts.{front}
use Rattle.fronts.proofs.Shown.{shown_full}
use Rattle.names.specs.Calls.{Answers, check_told, checked, check_rows, Checks, kinds_said, ascii_told, ascii_formed, ascii_rows, AsciiForms}
use Rattle.names.specs.Steps.{refused_check, refused_form, TwoOrThree, Ruled, ruled_told, Judges}
use Rattle.names.specs.declared.judges.Ruled as code

-- ---- any call that writes

-- `no` makes its struct of a number and a place
module _ {R : Type 0} (make : Verdict → ℕ → R) (no : ℕ → ℕ → R) (makes : (n p : ℕ) → (n ≡ 0 → ⊥) → make (refused n p) 0 ≡ no n p) (text xs before : List ℕ) where
  refuses : (rows : List Row) {n p : ℕ} {r : R} → r ≡ no n p → first rows ≡ record { number = n; place = p } → (n ≡ 0 → ⊥) → Answers make rows text xs before before r
  unfolding verdict
  refuses rows {n} {p} q e h = record { gives = gives_no _ rows xs before e h (q ∙ sym (makes n p h) ∙ rw (ne_eqb n 0 h)) }

  no_room : (least : ℕ) (rest : List Row) {r : R} → r ≡ no 1 0 → length before < least → Answers make (row 1 (ltb (length before) least) 0 ∷ rest) text xs before before r
  no_room least rest q h = refuses _ q (hit 1 (ltb (length before) least) 0 rest (lt-ltb (length before) least h)) (λ z. omega arith)

-- the same where it is made of an error
module _ {R : Type 0} (make : Verdict → ℕ → R) (no : Refused → R) (makes : (x : Refused) → make (refused (number_of x.why) x.place) 0 ≡ no x) (text xs before : List ℕ) where
  refuses_as : (rows : List Row) (x : Refused) → first rows ≡ refusal_told x → Answers make rows text xs before before (no x)
  refuses_as rows x e = refuses make (λ n p. make (refused n p) 0) (λ n p z. refl) text xs before rows (sym (makes x)) e (number_not_0 x.why)

  no_room_as : (least : ℕ) (rest : List Row) → length before < least
      → Answers make (row 1 (ltb (length before) least) 0 ∷ rest) text xs before before (no (record { why = NoRoom; place = 0 }))
  no_room_as least rest h = no_room make (λ n p. make (refused n p) 0) (λ n p z. refl) text xs before least rest (sym (makes (record { why = NoRoom; place = 0 }))) h

answers_yes : {R : Type 0} (make : Verdict → ℕ → R) (rows : List Row) (text xs before : List ℕ) {k : Class} {n : ℕ} {after : List ℕ}
    → first rows ≡ record { number = 0; place = 0 } → k ≡ class_of (labels (normal_form text)) → n ≡ length xs → after ≡ written xs before
    → Answers make rows text xs before after (make (accepted k) n)
unfolding verdict
answers_yes make rows text xs before e p q w = record { gives = rw p (gives_yes _ rows xs before e q w) }

-- with a refusal no places are said, and no kinds
no_places_said : (ls : List (List ℕ)) (x : Refused) → checked ls (refused (number_of x.why) x.place) 0 ≡ check_told (Err x)
unfolding places_said
no_places_said ls x = rw (ne_eqb (number_of x.why) 0 (number_not_0 x.why))

no_kinds_said : (P : Permits) (ls : List (List ℕ)) (x : Refused) → ascii_formed P ls (refused (number_of x.why) x.place) 0 ≡ ascii_told (Err x)
unfolding kinds_said
no_kinds_said P ls x = rw (ne_eqb (number_of x.why) 0 (number_not_0 x.why))

-- ---- an accepted name

-- its labels are two or three
pub few_labels : (P : Permits) (text : List ℕ) → Clear (text_rows P text) → TwoOrThree (normal_form text)
few_labels P text all = two_or_three (length (labels (normal_form text))) P.three (clear_text P text all).1.count

pub record Accepted (P : Permits) (text after : List ℕ) (k : Class) (n : ℕ) : Type 0 where
  pub clear : Clear (text_rows P text)
  pub class : k ≡ class_of (labels (normal_form text))
  pub form : take n after ≡ normal_form text
  pub size : n ≡ length (normal_form text)
  pub few : n ≤ 256

module _ (P : Permits) (text : List ℕ) {lent after : List ℕ} {r : code.Ruled} (e : Judges P text lent after (ruled_told r)) where
  pub answer_is : {x : Refused} → r.said ≡ Err x → first (text_rows P text) ≡ refusal_told x
  unfolding rules verdict
  answer_is y =
      let q = rw y at e.result in
      rw (ap (λ (j : Ruled). j.number) q, ap (λ (j : Ruled). j.place) q)

  module _ {k : one.Class} (y : r.said ≡ Ok k) where
    number_is : 0 ≡ (first (text_rows P text)).number
    unfolding rules verdict
    number_is = ap (λ (j : Ruled). j.number) (rw y at e.result)

    pub accepted_as : Accepted P text after (class_told k) r.length
    unfolding rules verdict
    accepted_as =
        let q = rw y at e.result in
        let all = text_cleared P text (sym number_is) in
        let few = (clear_text P text all).0.few in
        let shows = shown_full text few in
        let size : r.length ≡ length (normal_form text) = ap (λ (j : Ruled). j.length) q ∙ ap length shows in
        record {
          clear = all;
          class = ap (λ (j : Ruled). j.class) q ∙ rw (sym number_is);
          form = rw (size, e.buffer, shows) (front (normal_form text) lent);
          size = size;
          few = omega (arith, no_longer text);
        }

    pub two_or_three_there : TwoOrThree (take r.length after)
    two_or_three_there = let p = accepted_as in rw p.form (few_labels P text p.clear)

-- ---- the check

module _ (P : Permits) (text before : List ℕ) where
  pub check_no_room : length before < 256 → Checks P text before before (refused_check 1 0)
  unfolding check_rows
  check_no_room = no_room_as (checked _) (λ x. check_told (Err x)) (no_places_said _) text _ before 256 (text_rows P text)

  module _ (h : 256 ≤ length before) where
    checking : first (check_rows P text (length before)) ≡ first (text_rows P text)
    unfolding check_rows
    checking = passed_over 1 (ltb (length before) 256) 0 _ (le-ltb (length before) 256 h)

    check_no : (x : Refused) → first (text_rows P text) ≡ refusal_told x → Checks P text before before (check_told (Err x))
    check_no x e = refuses_as (checked _) (λ y. check_told (Err y)) (no_places_said _) text _ before _ x (checking ∙ e)

    -- 25, with a number that is no edition
    pub check_25 : P.known ≡ false → Checks P text before before (refused_check 25 0)
    check_25 e = check_no (record { why = NoEdition; place = 0 }) (first_25 P text e)

    module _ {lent form : List ℕ} {r : code.Ruled} (e : Judges P text lent form (ruled_told r)) where
      pub check_refused : {x : Refused} → r.said ≡ Err x → Checks P text before before (check_told (Err x))
      check_refused {x} y = check_no x (answer_is P text e y)

      pub check_accepted : {k : one.Class} (y : r.said ≡ Ok k) {after : List ℕ} {places : LabelPlaces} → places ≡ label_places (labels (take r.length form))
          → after ≡ take r.length form ++ drop r.length before
          → Checks P text before after (check_told (Ok (record { class = k; labels = places; length = r.length })))
      unfolding places_said written
      check_accepted y q w =
          let p = accepted_as P text e y in
          rw (q, p.form)
          (answers_yes (checked _) _ text _ before (checking ∙ clear (text_rows P text) p.clear) p.class p.size
          (w ∙ rw (p.form, p.size)))

-- ---- the whole ASCII form

module _ (P : Permits) (text before : List ℕ) where
  form_no : (x : Refused) → first (ascii_rows P text (length before)) ≡ refusal_told x → AsciiForms P text before before (ascii_told (Err x))
  form_no = refuses_as (ascii_formed P _) (λ x. ascii_told (Err x)) (no_kinds_said P _) text _ before _

  pub ascii_no_room : length before < 192 → AsciiForms P text before before (refused_form 1 0)
  unfolding ascii_rows
  ascii_no_room = no_room_as (ascii_formed P _) (λ x. ascii_told (Err x)) (no_kinds_said P _) text _ before 192 _

  module _ (h : 192 ≤ length before) where
    encoding : first (ascii_rows P text (length before)) ≡ first (text_rows P text ++ row 14 (any_of (uncoded P) (labels (normal_form text))) 0 ∷ [])
    unfolding ascii_rows
    encoding = passed_over 1 (ltb (length before) 192) 0 _ (le-ltb (length before) 192 h)

    pub ascii_refused : (x : Refused) → first (text_rows P text) ≡ refusal_told x → AsciiForms P text before before (ascii_told (Err x))
    ascii_refused x e = form_no x (encoding ∙ refused_before (text_rows P text) _ (λ z. number_not_0 x.why (sym (ap (λ (a : Answer). a.number) e) ∙ z)) ∙ e)

    -- 25, with a number that is no edition
    pub ascii_25 : P.known ≡ false → AsciiForms P text before before (refused_form 25 0)
    ascii_25 e = ascii_refused (record { why = NoEdition; place = 0 }) (first_25 P text e)

    module _ (all : Clear (text_rows P text)) where
      judged_on : first (ascii_rows P text (length before)) ≡ first (row 14 (any_of (uncoded P) (labels (normal_form text))) 0 ∷ [])
      judged_on = encoding ∙ clear_before (text_rows P text) _ all

      pub ascii_uncoded : any_of (uncoded P) (labels (normal_form text)) ≡ true → AsciiForms P text before before (refused_form 14 0)
      ascii_uncoded q = form_no (record { why = Over63; place = 0 }) (judged_on ∙ hit 14 (any_of (uncoded P) (labels (normal_form text))) 0 [] q)

      pub ascii_accepted : {k : Class} {ks : Kinds} {n : ℕ} {after : List ℕ} → any_of (uncoded P) (labels (normal_form text)) ≡ false
          → k ≡ class_of (labels (normal_form text)) → ks ≡ kinds_in P (get_or (labels (normal_form text)) 0 []) → n ≡ length (ascii_form P (normal_form text))
          → after ≡ written (ascii_form P (normal_form text)) before → AsciiForms P text before after (record { number = 0; place = 0; class = k; kinds = ks; length = n })
      unfolding kinds_said
      ascii_accepted q k e s w =
          rw e
          (answers_yes (ascii_formed P (labels (normal_form text))) _ text _ before (judged_on ∙ clear (row 14 (any_of (uncoded P) (labels (normal_form text))) 0 ∷ []) (q, tt)) k s w)

-- every row refuses, so with 0 none of them applies
pub ascii_cleared : (P : Permits) (text : List ℕ) (room : ℕ) → (first (ascii_rows P text room)).number ≡ 0 → Clear (ascii_rows P text room)
unfolding refusing all_of ascii_rows text_rows front_rows name_rows label_rows
ascii_cleared P text room e = accepted_clear (ascii_rows P text room) refl e

-- so the rules let the text pass, and the coder every label
pub ascii_passed : (P : Permits) (text : List ℕ) (room : ℕ) → (first (ascii_rows P text room)).number ≡ 0
    → Clear (text_rows P text) × (any_of (uncoded P) (labels (normal_form text)) ≡ false)
unfolding ascii_rows
ascii_passed P text room e = let k = split_clear (text_rows P text) _ (ascii_cleared P text room e).1 in (k.0, k.1.0)
