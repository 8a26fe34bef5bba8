-- What the calls on a host answer: 2 to 4 are the front's (fronts, proofs/Fronting), and where none of them applies the labels of the form are
-- asked in the order of the rows. With 0 the coder takes every label and the whole has room, so the form is put.
-- Assumes nothing.
use mathlib.Core.Path.{◌≡◌, refl, sym, ap, ◌∙◌}
use mathlib.Core.Bool.{Bool, true, false}
use mathlib.Core.List.{List, ◌++◌, append_assoc}
use Prim.Native.Nat.{ℕ, ◌-◌, ◌≤◌, ◌<◌}
use native.Mathlib.Omega.{arith}
use lib.Dec.{ltb}
use lib.ListN.{length, take, replicate}
use borrow.Author.Tests.{lt-ltb, le-ltb, ltb-true, ltb-false}
use Rattle.std.proofs.Common.{Option, Some, None}
use Rattle.lists.specs.Tests.{all_of, any_of}
use Rattle.lists.specs.Front.{written, Puts}
use Rattle.lists.specs.Rows.{Row, accepted, first, Clear}
use Rattle.lists.specs.Rows.{Answer}
use Rattle.lists.proofs.Pieces.{puts_count, puts_written}
use Rattle.lists.proofs.Tables.{clear, stands, hands_on, hit, passed_over, split_clear, gives_no, gives_yes}
use Rattle.normal.specs.Normal.{normal_form}
use Rattle.normal.proofs.Laws.{no_longer}
use Rattle.rules.specs.Labels.{labels}
use Rattle.rules.specs.Permits.{Permits, is_empty, label_char}
use Rattle.rules.specs.Rules.{unfit, long, pretends, front_rows}
use Rattle.rules.specs.Hosts.{of_host, each_rows, host_rows, host_text_rows}
use Rattle.rules.proofs.ByName.{clear_kept, kept_cleared, clear_host, clear_front, front_cleared}
use Rattle.rules.proofs.Cuts.{labels_fit}
use Rattle.rules.proofs.Derived.{left_size}
use Rattle.rules.proofs.Steps.{host_5, host_6, host_each}
use Rattle.fronts.specs.Fronts.{shown}
use Rattle.fronts.proofs.Shown.{padded_is, at_start, shown_full}
use Rattle.fronts.proofs.Fronting.{Told, told_size, told_fits, told_form}
use Rattle.ascii.specs.Ascii.{ascii_form, writable}
use Rattle.ascii.proofs.OfNames.{label_writable}
use Rattle.hosts.specs.Hosts.{coded_rows, rows, host_rules, host_judged, call_rows, host_formed, HostForms}
use Rattle.hosts.specs.Steps.{Ruled, Judges, AllReady, first_label}
use Rattle.refusals.specs.Refusals.{Filled}
use Rattle.hosts.specs.Hosts.{HostJudged}
use Rattle.hosts.proofs.Splitting.{found_first, found_none}
use Rattle.hosts.proofs.Coded.{of_kept, each_label}
use Rattle.hosts.proofs.Exactly.{number_clear}

-- the ASCII form of a label has at most 63 octets, if the coder takes it
fitting : (P : Permits) (l : List ℕ) → all_of (label_char P) l ≡ true → long P l ≡ false → pretends P of_host l ≡ false → writable P l ≡ true
fitting P l a k h = label_writable P l a (λ q. rw q at (left_size P l k))

-- ---- the labels of a form: 5, 6, label by label, then 14 and 19

module _ (P : Permits) (form : List ℕ) where
  -- what is asked of them
  abbrev asked : List Row
  asked = host_rows P (labels form) ++ coded_rows P form

  module _ {b : Bool} (e : b ≡ ltb (length (labels form)) 3) where
    pub said_5 : {a : Answer} → b ≡ true → a ≡ record { number = 5; place = 0 } → a ≡ first asked
    said_5 t q = q ∙ sym (stands (host_rows P (labels form)) _ (host_5 P (labels form) (ltb-true _ 3 (sym e ∙ t))) (λ z. omega arith))

    module _ (f : b ≡ false) {r : Option ℕ} (q : r ≡ first_label is_empty (labels form)) where
      many : 3 ≤ length (labels form)
      many = ltb-false _ 3 (sym e ∙ f)

      -- the first empty label
      pub said_6 : {i : ℕ} → r ≡ Some i → {a : Answer} → a ≡ record { number = 6; place = i } → a ≡ first asked
      said_6 h p =
          let n = found_first is_empty (labels form) (sym h ∙ q) in
          p ∙ sym (stands (host_rows P (labels form)) _ (host_6 P (labels form) many n.0 ∙ rw n.1) (λ z. omega arith))

      module _ (z : r ≡ None) {d : Answer} (t : d ≡ first (each_rows P 0 (labels form))) where
        none_empty : any_of is_empty (labels form) ≡ false
        none_empty = found_none is_empty (labels form) (sym z ∙ q)

        rows_are : first (host_rows P (labels form)) ≡ d
        rows_are = host_each P (labels form) many none_empty ∙ sym t

        pub said_each : (d.number ≡ 0 → ⊥) → d ≡ first asked
        said_each h = sym (stands (host_rows P (labels form)) _ rows_are h)

        module _ (y : d.number ≡ 0) where
          pub all_writable : any_of (unfit P) form ≡ false → all_of (writable P) (labels form) ≡ true
          all_writable w =
              of_kept P (writable P) (fitting P) (labels_fit P form w)
              (clear_kept P (labels form) (kept_cleared P (labels form) (ap (λ (x : Answer). x.number) rows_are ∙ y))).each

          pub said_coded : {x : Answer} → x ≡ first (coded_rows P form) → x ≡ first asked
          said_coded p = p ∙ sym (hands_on (host_rows P (labels form)) _ rows_are (kept_cleared P (labels form)) y)

-- ---- the judge

-- in an array of zeros
pub as_judged : (P : Permits) (text : List ℕ) {after : List ℕ} {r : Ruled} → Judges P text (replicate 256 0) after r
    → ◌≡◌ {A = HostJudged} (record { number = r.number; place = r.place; form = after; length = r.length }) (host_judged P text)
unfolding host_judged
as_judged P text j = rw (j.result, j.buffer, padded_is (shown text))

-- the front, and what is asked of the labels of the form
parted : (P : Permits) (text : List ℕ) → rows P text ≡ front_rows P text ++ asked P (normal_form text)
unfolding rows host_text_rows
parted P text = append_assoc (front_rows P text) (host_rows P (labels (normal_form text))) (coded_rows P (normal_form text))

module _ (P : Permits) {text before after : List ℕ} {n : ℕ} where
  judges_as : {a b : Answer} → Told P text before after a n → host_rules P text ≡ b
      → Judges P text before after (record { number = b.number; place = b.place; length = n })
  judges_as T e = record { result = rw (e, T.size); buffer = T.buffer }

  pub judges_front : {a : Answer} → Told P text before after a n → (a.number ≡ 0 → ⊥)
      → Judges P text before after (record { number = a.number; place = a.place; length = n })
  unfolding host_rules
  judges_front T h = judges_as T (ap first (parted P text) ∙ stands (front_rows P text) _ T.answer h)

  module _ (T : Told P text before after accepted n) where
    form_told : take n after ≡ normal_form text
    form_told =
        let e : n ≡ n - 0 = omega arith in
        ap (λ (k : ℕ). take k after) e ∙ told_form P T

    -- the form holds nothing unfit
    pub form_fit : any_of (unfit P) (take n after) ≡ false
    form_fit = rw form_told (clear_front P text (front_cleared P text (ap (λ (a : Answer). a.number) T.answer))).fit

    pub form_few : length (take n after) ≤ 256
    form_few = rw form_told (omega (arith, told_size P T, told_fits P T))

    pub judges_on : {b : Answer} → b ≡ first (asked P (take n after))
        → Judges P text before after (record { number = b.number; place = b.place; length = n })
    unfolding host_rules
    judges_on q =
        judges_as T
        (ap first (parted P text) ∙ hands_on (front_rows P text) _ T.answer (front_cleared P text) refl ∙ sym (q ∙ ap (λ (l : List ℕ). first (asked P l)) form_told))

-- ---- the call

module _ (P : Permits) (text before : List ℕ) where
  pub no_room : {r : Filled} → length before < 255 → r ≡ host_formed (record { number = 1; place = 0 }) 0 → HostForms P text before before r
  unfolding call_rows
  no_room h q = record { gives = gives_no host_formed _ _ before (hit 1 _ 0 _ (lt-ltb (length before) 255 h)) (λ z. omega arith) q }

  module _ (h : 255 ≤ length before) {lent form : List ℕ} {j : Ruled} (J : Judges P text lent form j) where
    ruled : first (call_rows P text (length before)) ≡ record { number = j.number; place = j.place }
    unfolding call_rows host_rules
    ruled =
        passed_over 1 _ 0 _ (le-ltb (length before) 255 h)
        ∙ sym (ap (λ (x : Ruled). record { number = x.number; place = x.place }) J.result)

    pub ruled_out : {r : Filled} → (j.number ≡ 0 → ⊥) → r ≡ host_formed (record { number = j.number; place = j.place }) 0 → HostForms P text before before r
    ruled_out n q = record { gives = gives_no host_formed _ _ before ruled n q }

    module _ (z : j.number ≡ 0) where
      clears : Clear (rows P text)
      clears = number_clear P text (sym (ap (λ (x : Ruled). x.number) J.result) ∙ z)

      text_clears : Clear (host_text_rows P text)
      unfolding rows
      text_clears = (split_clear (host_text_rows P text) (coded_rows P (normal_form text)) clears).0

      coded_clears : Clear (coded_rows P (normal_form text))
      unfolding rows
      coded_clears = (split_clear (host_text_rows P text) (coded_rows P (normal_form text)) clears).1

      -- what is shown is the normal form
      shows : shown text ≡ normal_form text
      shows = shown_full text (clear_host P text text_clears).0.few

      size : j.length ≡ length (normal_form text)
      size = ap (λ (x : Ruled). x.length) J.result ∙ ap length shows

      pub form_inside : j.length ≤ 256
      form_inside = omega (arith, size, no_longer text, (clear_host P text text_clears).0.few)

      form_is : take j.length form ≡ normal_form text
      form_is =
          let e : length (normal_form text) ≡ length (normal_form text) - 0 = omega arith in
          rw (size, J.buffer, shows) (ap (λ (k : ℕ). take k (written (normal_form text) lent)) e ∙ at_start (normal_form text) lent)

      pub all_ready : AllReady P (take j.length form) (length before)
      unfolding coded_rows
      all_ready = rw form_is (record {
        fit = each_label P (writable P) (fitting P) text text_clears;
        coded = coded_clears.0;
        fits = omega (arith, ltb-false _ (length (ascii_form P (normal_form text))) coded_clears.1.0);
      })

      pub put_all : {after : List ℕ} {n : ℕ} → Puts (ascii_form P (take j.length form)) before after 0 n
          → HostForms P text before after (record { number = 0; place = 0; length = n })
      unfolding call_rows
      put_all t =
          let u = rw form_is at t in
          record { gives = gives_yes host_formed _ _ before (passed_over 1 _ 0 _ (le-ltb (length before) 255 h) ∙ clear (rows P text) clears) (puts_count u) (puts_written u) }
