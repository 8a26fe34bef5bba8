-- 1 never comes of a call of the outside: an array has the room that its call asks for, so row 1 does not apply, and no other row has that
-- number.
-- Assumes nothing.
use mathlib.Core.Path.{◌≡◌, refl, sym, ap, ◌∙◌}
use mathlib.Core.Bool.{Bool, true, false, not}
use mathlib.Core.List.{List, [], ◌∷◌}
use Prim.Native.Nat.{ℕ, suc, ◌≤◌}
use native.Mathlib.Omega.{arith}
use lib.Dec.{eqb, leb, ltb}
use lib.ListN.{length, take, get_or}
use borrow.Author.Tests.{le-ltb}
use Rattle.lists.specs.Tests.{pick, all_of}
use Rattle.lists.specs.Rows.{Row, first}
use Rattle.lists.specs.Rows.{Answer}
use Rattle.lists.proofs.Laws.{clash}
use Rattle.lists.proofs.Tables.{of_two, of_rows, passed_over}
use Rattle.normal.specs.Normal.{normal_form}
use Rattle.rules.specs.Labels.{labels}
use Rattle.rules.specs.Permits.{Permits}
use Rattle.rules.specs.Editions.{edition_of, today}
use Rattle.rules.specs.Rules.{label_rows, name_rows, front_rows, text_rows, verdict, rules}
use Rattle.rules.specs.Hosts.{of_host, each_rows, host_rows, host_text_rows}
use Rattle.names.specs.Calls.{judged, check_rows, Checks, ascii_rows, AsciiForms}
use Rattle.names.specs.Calls.{AsciiForm}
use Rattle.names.specs.Calls.{Checked}
use Rattle.hosts.specs.Hosts.{coded_rows, rows, host_rules, host_judged, call_rows, HostForms}
use Rattle.refusals.specs.Refusals.{Filled}
use Rattle.punycode.specs.Calls.{coder_number, Encodes, DecoderSays, small, taken, left, Decodes}
use Rattle.punycode.specs.Punycode.{ace, encodable}
use Rattle.live.specs.Live.{looked_by, no_text, too_long, looked}
use Rattle.live.specs.HostLooks.{host_too_long, host_looked}
use Rattle.live.specs.declared.Live.{Live}
use Rattle.sagebasket.specs.Outside.{numbers, unnamed, of_judged, of_host_judged, of_checked, of_ascii_form, of_host_form, of_encoded, of_decoded, Tells, Shows}

abbrev Other : Answer → Type 0
Other a = a.number ≡ 1 → ⊥

all_other : (table : List Row) → all_of (λ (r : Row). not (eqb r.number 1)) table ≡ true → Other (first table)
all_other table w e =
    let k : not (eqb (first table).number 1) ≡ true = of_rows (λ (a : Answer). not (eqb a.number 1)) refl table w in
    clash {b = true} refl (sym (sym (ap (λ (n : ℕ). not (eqb n 1)) e) ∙ k))

-- ---- the rows of a name, of its ASCII form, of a host

module _ (P : Permits) (text : List ℕ) where
  check_other : (room : ℕ) → 256 ≤ room → Other (first (check_rows P text room))
  unfolding check_rows text_rows front_rows name_rows label_rows all_of
  check_other room h = rw (passed_over 1 (ltb room 256) 0 (text_rows P text) (le-ltb room 256 h)) (all_other (text_rows P text) refl)

  ascii_other : (room : ℕ) → 192 ≤ room → Other (first (ascii_rows P text room))
  unfolding ascii_rows text_rows front_rows name_rows label_rows all_of
  ascii_other room h = rw (passed_over 1 (ltb room 192) 0 _ (le-ltb room 192 h)) (all_other _ refl)

-- of a host's labels
each_other : (P : Permits) (i : ℕ) (ls : List (List ℕ)) → Other (first (each_rows P i ls))
unfolding each_rows label_rows first all_of
each_other P i [] = λ e. omega arith
each_other P i (l ∷ ls) = of_two Other (label_rows P of_host l i) (each_rows P (suc i) ls) (all_other (label_rows P of_host l i) refl) (each_other P (suc i) ls)

rules_other : (P : Permits) (text : List ℕ) → Other (host_rules P text)
unfolding host_rules rows host_text_rows host_rows front_rows coded_rows all_of
rules_other P text =
    let ls = labels (normal_form text) in
    of_two Other (host_text_rows P text) (coded_rows P (normal_form text))
    (of_two Other (front_rows P text) (host_rows P ls) (all_other (front_rows P text) refl)
    (of_two Other (take 2 (host_rows P ls)) (each_rows P 0 ls) (all_other (take 2 (host_rows P ls)) refl) (each_other P 0 ls)))
    (all_other (coded_rows P (normal_form text)) refl)

host_other : (P : Permits) (text : List ℕ) (room : ℕ) → 255 ≤ room → Other (first (call_rows P text room))
unfolding call_rows host_rules
host_other P text room h = rw (passed_over 1 (ltb room 255) 0 _ (le-ltb room 255 h)) (rules_other P text)

-- ---- the calls

-- what is returned is the number of the result below
returned : {R : Type 0} {inNumbers : R → List ℕ} {Meets : R → Type 0} {answer : List ℕ} {n : ℕ} (t : Tells inNumbers Meets answer n)
    → n ≡ get_or (inNumbers t.result) 0 0
returned t = t.number ∙ ap (λ (xs : List ℕ). get_or xs 0 0) t.told

module _ {before after answer : List ℕ} {n : ℕ} where
  module _ (P : Permits) {text : List ℕ} where
    pub check_never_1 : Tells of_checked (Checks P text before after) answer n → 256 ≤ length before → n ≡ 1 → ⊥
    unfolding of_checked numbers verdict
    check_never_1 t room e = check_other P text (length before) room (sym (ap (λ (r : Checked). r.number) t.meets.gives.result) ∙ sym (returned t) ∙ e)

    pub ascii_never_1 : Tells of_ascii_form (AsciiForms P text before after) answer n → 192 ≤ length before → n ≡ 1 → ⊥
    unfolding of_ascii_form numbers verdict
    ascii_never_1 t room e = ascii_other P text (length before) room (sym (ap (λ (r : AsciiForm). r.number) t.meets.gives.result) ∙ sym (returned t) ∙ e)

    pub host_never_1 : Tells of_host_form (HostForms P text before after) answer n → 255 ≤ length before → n ≡ 1 → ⊥
    unfolding of_host_form unnamed numbers
    host_never_1 t room e = host_other P text (length before) room (sym (ap (λ (r : Filled). r.number) t.meets.gives.result) ∙ sym (returned t) ∙ e)

  pub encode_never_1 : {label : List ℕ} → Tells of_encoded (Encodes label before after) answer n → 63 ≤ length before → n ≡ 1 → ⊥
  unfolding of_encoded unnamed numbers coder_number
  encode_never_1 {label} t room e =
      coder (encodable label) (leb (length (ace label)) 63)
      (sym (ap (λ (r : Filled). r.number) t.meets.answer ∙ rw (le-ltb (length before) 63 room)) ∙ sym (returned t) ∙ e)
    where
      coder : (b c : Bool) → pick {A = ℕ} b (pick c 0 14) 13 ≡ 1 → ⊥
      coder true true z = omega arith
      coder true false z = omega arith
      coder false c z = omega arith

  pub decode_never_1 : {octets : List ℕ} → Tells of_decoded (Decodes octets before after) answer n → 63 ≤ length before → n ≡ 1 → ⊥
  unfolding of_decoded unnamed numbers
  decode_never_1 t room e =
      decoder t.meets.says (sym (ap (λ (r : Filled). r.number) t.meets.answer) ∙ sym (returned t) ∙ e)
    where
      decoder : {octets l : List ℕ} {k : ℕ} → DecoderSays octets (length before) k l → k ≡ 1 → ⊥
      decoder (small h) z = omega arith
      decoder (taken l h x) z = omega arith
      decoder (left h x) z = omega arith

-- ---- a look, from any state

pub look_never_1 : (l : Live) {text form answer : List ℕ} {n : ℕ} → Shows (of_judged (looked edition_of l)) text form answer n → n ≡ 1 → ⊥
unfolding looked looked_by judged too_long no_text rules verdict of_judged numbers text_rows front_rows name_rows label_rows all_of
look_never_1 l h e = go (ltb 256 l.count) (known (edition_of l.edition)) (sym (h.number ∙ ap (λ (xs : List ℕ). get_or xs 0 0) h.told) ∙ e)
  where
    known : Permits → Bool
    known P = P.known

    go : (b c : Bool) → (pick b (pick c (no_text 3 256) (no_text 25 0)) (judged (edition_of l.edition) (take l.count l.text))).number ≡ 1 → ⊥
    go true true z = omega arith
    go true false z = omega arith
    go false c z = all_other (text_rows (edition_of l.edition) (take l.count l.text)) refl z

pub look_host_never_1 : (l : Live) {text form answer : List ℕ} {n : ℕ} → Shows (of_host_judged (host_looked today l)) text form answer n → n ≡ 1 → ⊥
unfolding host_looked looked_by host_judged host_too_long of_host_judged unnamed numbers
look_host_never_1 l h e = go (ltb 256 l.count) (sym (h.number ∙ ap (λ (xs : List ℕ). get_or xs 0 0) h.told) ∙ e)
  where
    go : (b : Bool) → (pick b host_too_long (host_judged today (take l.count l.text))).number ≡ 1 → ⊥
    go true z = omega arith
    go false z = rules_other today (take l.count l.text) z
