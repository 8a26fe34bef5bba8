-- Place, length and label places of every answer fit 32 bits: a place is an index of a text of at most 256 code points or of its labels,
-- what is written has room in the buffer, and labels stand in a form of at most 256.
-- Assumes nothing.
use mathlib.Core.Path.{◌≡◌, refl, sym, ap, ◌∙◌}
use mathlib.Core.Bool.{Bool, true, false}
use mathlib.Core.List.{List, [], ◌∷◌, map}
use mathlib.Core.Logic.{⊎_elim}
use Prim.Native.Nat.{ℕ, zero, suc, ◌+◌, ◌≤◌}
use native.Mathlib.Omega.{arith}
use lib.Dec.{eqb, leb, ltb}
use lib.ListN.{length, drop, get_or, length-append}
use borrow.Author.Tests.{eqb-true, le-leb, leb-true, lt-ltb, le-ltb}
use Rattle.lists.specs.Tests.{pick, all_of, any_of, index_of}
use Rattle.lists.specs.Front.{written}
use Rattle.lists.specs.Rows.{row, first, given}
use Rattle.lists.specs.Rows.{Answer}
use Rattle.lists.proofs.Laws.{lt_or_le, by_test, index_bound}
use Rattle.lists.proofs.Tables.{of_two, of_rows, stands}
use Rattle.normal.specs.Normal.{normal_form}
use Rattle.normal.proofs.Laws.{no_longer}
use Rattle.rules.specs.Labels.{labels, join}
use Rattle.rules.specs.Permits.{Permits, is_empty}
use Rattle.rules.specs.Places.{starts_from, first_three, label_places, no_places, places_said}
use Rattle.rules.specs.Rules.{label_rows, front_rows, text_rows, verdict, rules}
use Rattle.rules.specs.Hosts.{of_host, each_rows, host_rows, host_text_rows}
use Rattle.rules.proofs.ByName.{clear_text, text_cleared}
use Rattle.rules.proofs.Cuts.{join_labels}
use Rattle.rules.proofs.Steps.{front_3, host_front}
use Rattle.fronts.specs.Fronts.{shown}
use Rattle.ascii.specs.Ascii.{uncoded}
use Rattle.names.specs.Calls.{judged, check_rows, Checks, AsciiForms}
use Rattle.names.specs.Calls.{AsciiForm}
use Rattle.names.specs.Calls.{Checked}
use Rattle.names.specs.Calls.{Judged}
use Rattle.names.proofs.Placing.{check_places}
use Rattle.hosts.specs.Hosts.{coded_rows, rows, host_rules, call_rows, host_judged, HostForms}
use Rattle.refusals.specs.Refusals.{Filled}
use Rattle.hosts.specs.Hosts.{HostJudged}
use Rattle.punycode.specs.Calls.{Encodes, Decodes}
use Rattle.answer.proofs.Digits.{front_near, text_near, place_bound}
use Rattle.sagebasket.specs.Steps.{SmallThree, SmallPlaces, Small}

-- ---- where labels stand in a form

join_many : (ls : List (List ℕ)) → length ls ≤ length (join ls) + 1
unfolding join
join_many [] = omega arith
join_many (l ∷ []) = omega arith
join_many (l ∷ m ∷ ls) = omega (arith, join_many (m ∷ ls), length-append l (0x2E ∷ join (m ∷ ls)))

starts_near : (at : ℕ) (ls : List (List ℕ)) (i : ℕ) → get_or (starts_from at ls) i 0 ≤ at + length (join ls)
unfolding starts_from join
starts_near at [] i = omega arith
starts_near at (l ∷ ls) zero = omega arith
starts_near at (l ∷ []) (suc i) = omega arith
starts_near at (l ∷ m ∷ ls) (suc i) = omega (arith, starts_near (at + length l + 1) (m ∷ ls) i, length-append l (0x2E ∷ join (m ∷ ls)))

lengths_near : (ls : List (List ℕ)) (i : ℕ) → get_or (map length ls) i 0 ≤ length (join ls)
unfolding join
lengths_near [] i = omega arith
lengths_near (l ∷ []) zero = omega arith
lengths_near (l ∷ []) (suc i) = omega arith
lengths_near (l ∷ m ∷ ls) zero = omega (arith, length-append l (0x2E ∷ join (m ∷ ls)))
lengths_near (l ∷ m ∷ ls) (suc i) = omega (arith, lengths_near (m ∷ ls) i, length-append l (0x2E ∷ join (m ∷ ls)))

three_near : (xs : List ℕ) → ((i : ℕ) → get_or xs i 0 ≤ 257) → SmallThree (first_three xs)
unfolding first_three
three_near xs h = (h 0, h 1, h 2)

pub none_small : SmallPlaces no_places
none_small =
    record { count = omega arith; starts = (omega arith, omega arith, omega arith); lengths = (omega arith, omega arith, omega arith) }

placed_small : (form : List ℕ) → length form ≤ 256 → SmallPlaces (label_places (labels form))
unfolding label_places
placed_small form few =
    let ls = labels form in
    let k : length (join ls) ≤ 256 = rw (join_labels form) few in
    record {
      count = omega (arith, join_many ls, k);
      starts = three_near (starts_from 0 ls) (λ i. omega (arith, starts_near 0 ls i, k));
      lengths = three_near (map length ls) (λ i. omega (arith, lengths_near ls i, k));
    }

said_small : (form : List ℕ) (number : ℕ) → (number ≡ 0 → length form ≤ 256) → SmallPlaces (places_said (labels form) number)
unfolding places_said
said_small form number few =
    by_test (λ b. SmallPlaces (pick b (label_places (labels form)) no_places)) (eqb number 0)
    (λ z. placed_small form (few (eqb-true number 0 z))) (λ z. none_small)

-- ---- what is written is no longer than the buffer

pub fits : (xs before : List ℕ) {after : List ℕ} {n : ℕ} → length after ≡ n → after ≡ written xs before → length xs ≤ n
unfolding written
fits xs before k e = omega (arith, k, ap length e, length-append xs (drop (length xs) before))

-- ---- places

abbrev Near : Answer → Type 0
Near a = a.place ≤ 257

row_near : (n : ℕ) (b : Bool) (p : ℕ) → p ≤ 257 → Near (first (row n b p ∷ []))
unfolding first
row_near n true p h = h
row_near n false p h = omega arith

-- of a host's labels, the first of index i
each_near : (P : Permits) (i : ℕ) (ls : List (List ℕ)) → i + length ls ≤ 257 → Near (first (each_rows P i ls))
unfolding each_rows label_rows first all_of
each_near P i [] h = omega arith
each_near P i (l ∷ ls) h =
    of_two Near (label_rows P of_host l i) (each_rows P (suc i) ls)
    (leb-true _ 257 (of_rows (λ (a : Answer). leb a.place 257) refl (label_rows P of_host l i) (rw (le-leb i 257 (omega arith)))))
    (each_near P (suc i) ls (omega arith))

module _ (P : Permits) (text : List ℕ) where
  few_near : length text ≤ 256 → Near (host_rules P text)
  unfolding host_rules rows host_text_rows host_rows coded_rows
  few_near few =
      let ls = labels (normal_form text) in
      let n : length ls ≤ 257 = omega (arith, join_many ls, ap length (join_labels (normal_form text)), no_longer text) in
      of_two Near (host_text_rows P text) _
      (of_two Near (front_rows P text) _ (omega (arith, front_near P text))
      (of_two Near (row 5 (ltb (length ls) 3) 0 ∷ []) _ (row_near 5 _ 0 (omega arith))
      (of_two Near (row 6 (any_of is_empty ls) (index_of is_empty ls) ∷ []) _ (row_near 6 _ _ (omega (arith, index_bound is_empty ls, n))) (each_near P 0 ls (omega (arith, n))))))
      (of_two Near (row 14 (any_of (uncoded P) ls) (index_of (uncoded P) ls) ∷ []) _ (row_near 14 _ _ (omega (arith, index_bound (uncoded P) ls, n)))
      (row_near 19 _ 0 (omega arith)))

  pub host_near : Near (host_rules P text)
  unfolding host_rules rows
  host_near = ⊎_elim
      (λ h. rw (stands (host_text_rows P text) _ (host_front P text (front_3 P text (λ e. omega arith) h) (λ e. omega arith)) (λ e. omega arith)) (omega arith))
      few_near (lt_or_le 256 (length text))

-- ---- the calls on a name

module _ (P : Permits) {text before after : List ℕ} where
  module _ {r : Checked} (c : Checks P text before after r) (k : length after ≡ 256) where
    place_near : (first (check_rows P text (length before))).place ≤ 257
    unfolding check_rows
    place_near = of_two Near (row 1 (ltb (length before) 256) 0 ∷ []) (text_rows P text) (row_near 1 _ 0 (omega arith)) (omega (arith, text_near P text))

    long : r.length ≤ 256
    unfolding verdict
    long = rw c.gives.result (fits _ before k c.gives.buffer)

    form_few : r.number ≡ 0 → length (normal_form text) ≤ 256
    unfolding given verdict
    form_few z =
        let n : (first (check_rows P text (length before))).number ≡ 0 = sym (ap (λ (x : Checked). x.number) c.gives.result) ∙ z in
        let e : given (first (check_rows P text (length before))) (normal_form text) ≡ normal_form text = rw n in
        rw e at (fits _ before k c.gives.buffer)

    pub check_small : Small r.place r.length r.labels
    unfolding verdict
    check_small = record {
      place = omega (arith, place_near, ap (λ (x : Checked). x.place) c.gives.result);
      length = omega (arith, long);
      stands = rw (check_places P c) (said_small (normal_form text) r.number form_few);
    }

  pub ascii_small : {r : AsciiForm} → AsciiForms P text before after r → length after ≡ 192 → Small r.place r.length no_places
  unfolding verdict
  ascii_small c k = record {
    place = omega (arith, place_bound P text (length before), ap (λ (x : AsciiForm). x.place) c.gives.result);
    length = omega (arith, fits _ before k c.gives.buffer, ap (λ (x : AsciiForm). x.length) c.gives.result);
    stands = none_small;
  }

pub shown_few : (t : List ℕ) → length (shown t) ≤ 256
unfolding shown
shown_few t =
    ⊎_elim (λ h. rw (lt-ltb 256 (length t) h) (omega arith))
    (λ h. rw (le-ltb 256 (length t) h) (omega (arith, no_longer t)))
    (lt_or_le 256 (length t))

pub judged_small : (P : Permits) (text : List ℕ) {r : Judged} → r ≡ judged P text → Small r.place r.length r.labels
unfolding judged rules verdict
judged_small P text e = rw e (record {
  place = omega (arith, text_near P text);
  length = omega (arith, shown_few text);
  stands = said_small (normal_form text) _ (λ z. omega (arith, no_longer text, passed z));
})
  where
    passed : (first (text_rows P text)).number ≡ 0 → length text ≤ 256
    passed z = (clear_text P text (text_cleared P text z)).0.few

-- ---- the calls on a host

module _ (P : Permits) {text before after : List ℕ} where
  pub host_small : {r : Filled} → HostForms P text before after r → length after ≡ 255 → (r.place ≤ 257) × (r.length ≤ 257)
  unfolding call_rows host_rules
  host_small c k =
      let p = of_two Near (row 1 (ltb (length before) 255) 0 ∷ []) (rows P text) (row_near 1 _ 0 (omega arith)) (host_near P text) in
      (omega (arith, p, ap (λ (x : Filled). x.place) c.gives.result), omega (arith, fits _ before k c.gives.buffer, ap (λ (x : Filled). x.length) c.gives.result))

pub host_judged_small : (P : Permits) (text : List ℕ) {r : HostJudged} → r ≡ host_judged P text → (r.place ≤ 257) × (r.length ≤ 257)
unfolding host_judged
host_judged_small P text e = rw e (host_near P text, omega (arith, shown_few text))

-- ---- coder and decoder

pub encode_small : {label before after : List ℕ} {r : Filled} → Encodes label before after r → length after ≡ 63 → (r.place ≤ 257) × (r.length ≤ 257)
encode_small {before = before} h k = rw h.answer (omega arith, omega (arith, fits _ before k h.buffer))

pub decode_small : {octets before after : List ℕ} {r : Filled} → Decodes octets before after r → length after ≡ 63 → (r.place ≤ 257) × (r.length ≤ 257)
decode_small {before = before} h k = rw h.answer (omega arith, omega (arith, fits h.label before k h.buffer))
