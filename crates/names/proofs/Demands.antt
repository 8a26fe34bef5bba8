-- The calls accept exactly what derives from the grammar and does not pretend, from their statements alone: with room the check and the whole
-- ASCII form say what the rules say of the text, since row 1 does not apply and row 14 never does (Coded), and the rules accept exactly that.
-- Assumes nothing.
use mathlib.Core.Path.{◌≡◌, refl, sym, ap, ◌∙◌}
use mathlib.Core.Bool.{true, false}
use mathlib.Core.List.{List}
use mathlib.Core.Logic.{◌↔◌}
use Prim.Native.Nat.{ℕ, ◌≤◌}
use lib.Dec.{ltb}
use lib.ListN.{length}
use borrow.Author.Tests.{le-ltb}
use Rattle.lists.specs.Tests.{within}
use Rattle.lists.specs.Rows.{Row, first}
use Rattle.lists.specs.Rows.{Answer}
use Rattle.lists.proofs.Tables.{passed_over}
use Rattle.normal.specs.Normal.{normal_form}
use Rattle.rules.specs.Labels.{labels}
use Rattle.rules.specs.Permits.{Permits, InStretch, ShortMiddles, Laws}
use Rattle.rules.specs.Rules.{text_rows, verdict, rules, accepted}
use Rattle.rules.specs.Pretends.{Admitted}
use Rattle.rules.specs.Editions.{is_edition, edition_of, today}
use Rattle.rules.specs.Verdicts.{Class}
use Rattle.rules.specs.Verdicts.{Verdict}
use Rattle.rules.proofs.Exactly.{formed, accepted_derives}
use Rattle.rules.proofs.Editions.{edition_laws}
use Rattle.names.specs.Calls.{Answers, check_rows, check_said, Checks, ascii_said, AsciiForms}
use Rattle.names.specs.Steps.{refused_check, refused_form}
use Rattle.names.specs.Calls.{AsciiForm}
use Rattle.names.specs.Calls.{Checked}
use Rattle.names.proofs.Answering.{check_25, ascii_25}
use Rattle.names.proofs.Coded.{ascii_first}
use Rattle.names.proofs.Unique.{unique}

-- a call whose first row that applies is that of the rules says what they say
answers_say : {R : Type 0} {make : Verdict → ℕ → R} (said : R → Verdict) → ((v : Verdict) (n : ℕ) → said (make v n) ≡ v) → (P : Permits) {rows : List Row}
    {text xs before after : List ℕ} {r : R} → Answers make rows text xs before after r → first rows ≡ first (text_rows P text) → said r ≡ rules P text
unfolding rules
answers_say said back P {text = text} a e = ap said a.gives.result ∙ back _ _ ∙ ap (λ (x : Answer). verdict x (labels (normal_form text))) e

-- what says what the rules say of a text is 0 with a class exactly where its normal form is admitted as a name of that class
said_derives : (P : Permits) → Laws P → (text : List ℕ) (v : Verdict) → v ≡ rules P text → (k : Class)
    → ((v.number ≡ 0) × (v.class ≡ k)) ↔ Admitted P k (normal_form text)
said_derives P L text v e k = (λ p. (accepted_derives P L text k).0 (whole p), λ d. of (e ∙ (accepted_derives P L text k).1 d))
  where
    whole : (v.number ≡ 0) × (v.class ≡ k) → rules P text ≡ accepted k
    whole p =
        let n : (rules P text).number ≡ 0 = sym (ap (λ (x : Verdict). x.number) e) ∙ p.0 in
        let q : (rules P text).place ≡ 0 = (formed P text).place n in
        let c : (rules P text).class ≡ k = sym (ap (λ (x : Verdict). x.class) e) ∙ p.1 in
        λ i. record { number = n i; place = q i; class = c i }

    of : v ≡ accepted k → (v.number ≡ 0) × (v.class ≡ k)
    of f = (ap (λ (x : Verdict). x.number) f, ap (λ (x : Verdict). x.class) f)

-- ---- the check

module _ (P : Permits) {text before after : List ℕ} {r : Checked} (c : Checks P text before after r) (room : 256 ≤ length before) where
  pub check_says : check_said r ≡ rules P text
  unfolding check_rows
  check_says = answers_say check_said (λ v n. refl) P c (passed_over 1 (ltb (length before) 256) 0 (text_rows P text) (le-ltb (length before) 256 room))

  pub check_derives : Laws P → (k : Class) → ((r.number ≡ 0) × (r.class ≡ k)) ↔ Admitted P k (normal_form text)
  check_derives L = said_derives P L text (check_said r) check_says

-- ---- the whole ASCII form

module _ (P : Permits) {text before after : List ℕ} {r : AsciiForm} where
  pub ascii_says : InStretch P → ShortMiddles P → AsciiForms P text before after r → 192 ≤ length before → ascii_said r ≡ rules P text
  ascii_says stretch short a room = answers_say ascii_said (λ v n. refl) P a (ascii_first P stretch short text (length before) room)

  pub ascii_derives : Laws P → AsciiForms P text before after r → 192 ≤ length before → (k : Class)
      → ((r.number ≡ 0) × (r.class ≡ k)) ↔ Admitted P k (normal_form text)
  ascii_derives L a room = said_derives P L text (ascii_said r) (ascii_says L.stretch L.middle_short a room)

-- ---- within each edition

module _ (e : ℕ) (there_is : is_edition e ≡ true) {text before after : List ℕ} where
  pub check_edition : {r : Checked} → Checks (edition_of e) text before after r → 256 ≤ length before → (k : Class)
      → ((r.number ≡ 0) × (r.class ≡ k)) ↔ Admitted (edition_of e) k (normal_form text)
  check_edition c room = check_derives (edition_of e) c room (edition_laws e there_is)

  -- 14 is no other way out: it never comes (Coded, never-14-edition)
  pub ascii_edition : {r : AsciiForm} → AsciiForms (edition_of e) text before after r → 192 ≤ length before → (k : Class)
      → ((r.number ≡ 0) × (r.class ≡ k)) ↔ Admitted (edition_of e) k (normal_form text)
  ascii_edition a room = ascii_derives (edition_of e) (edition_laws e there_is) a room

-- ---- with a number that is none: 25 where there is room, and nothing is written

module _ (e : ℕ) (unknown : is_edition e ≡ false) where
  not_known : (edition_of e).known ≡ false
  unfolding edition_of
  not_known = unknown

  pub unknown_check : {text before after : List ℕ} {r : Checked} → Checks (edition_of e) text before after r → 256 ≤ length before → (r ≡ refused_check 25 0) × (after ≡ before)
  unknown_check {text} {before} c room = unique c (check_25 (edition_of e) text before room not_known)

  pub unknown_ascii : {text before after : List ℕ} {r : AsciiForm} → AsciiForms (edition_of e) text before after r → 192 ≤ length before → (r ≡ refused_form 25 0) × (after ≡ before)
  unknown_ascii {text} {before} a room = unique a (ascii_25 (edition_of e) text before room not_known)

-- ---- at the edition in force

module _ {text before after : List ℕ} where
  pub check_today : {r : Checked} → Checks today text before after r → 256 ≤ length before → (k : Class)
      → ((r.number ≡ 0) × (r.class ≡ k)) ↔ Admitted today k (normal_form text)
  unfolding within
  check_today c room = check_edition 4 refl c room

  pub ascii_today : {r : AsciiForm} → AsciiForms today text before after r → 192 ≤ length before → (k : Class)
      → ((r.number ≡ 0) × (r.class ≡ k)) ↔ Admitted today k (normal_form text)
  unfolding within
  ascii_today a room = ascii_edition 4 refl a room
