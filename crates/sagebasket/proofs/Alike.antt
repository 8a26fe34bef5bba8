-- Of any two texts past 256 code points a call says the same, since it looks no further than the length: so a text may be lent up to its
-- 257th code point, and a state that holds no text past 256 says all.
-- Assumes nothing.
use mathlib.Core.Path.{◌≡◌, refl, sym, ap, ◌∙◌}
use mathlib.Core.Bool.{Bool}
use mathlib.Core.List.{List, [], ◌∷◌, ◌++◌}
use mathlib.Core.Logic.{⊎_elim}
use Prim.Native.Nat.{ℕ, ◌<◌}
use native.Mathlib.Omega.{arith}
use lib.Dec.{ltb}
use lib.ListN.{length, take}
use lib.Seq.{length-take-le, take_all}
use borrow.Author.Tests.{ne_eqb}
use Rattle.lists.specs.Tests.{pick}
use Rattle.lists.specs.Front.{written}
use Rattle.lists.specs.Rows.{Row, row, first, given, Gives}
use Rattle.lists.specs.Rows.{Answer}
use Rattle.lists.proofs.Laws.{lt_or_le, by_test}
use Rattle.lists.proofs.Tables.{stands}
use Rattle.normal.specs.Normal.{normal_form}
use Rattle.rules.specs.Permits.{Permits}
use Rattle.rules.specs.Places.{places_said}
use Rattle.rules.specs.Rules.{text_rows, verdict}
use Rattle.rules.specs.Hosts.{host_text_rows}
use Rattle.rules.proofs.Steps.{front_3, first_25, first_front, host_front}
use Rattle.names.specs.Calls.{check_rows, Checks, kinds_said, ascii_rows, AsciiForms}
use Rattle.names.specs.Calls.{AsciiForm}
use Rattle.names.specs.Calls.{Checked}
use Rattle.hosts.specs.Hosts.{coded_rows, rows, call_rows, HostForms}
use Rattle.refusals.specs.Refusals.{Filled}
use Rattle.sagebasket.specs.Outside.{of_checked, of_ascii_form, of_host_form, Tells}

-- what is said of one text past 256 is said of every one
abbrev pub Alike : (List ℕ → Type 0) → Type 0
Alike Says = (t u : List ℕ) → 256 < length t → 256 < length u → Says t → Says u

-- so it is said of a text where it is said of its first 257
pub cut : (Says : List ℕ → Type 0) → Alike Says → (t : List ℕ) → Says (take 257 t) → Says t
cut Says alike t h =
    ⊎_elim (λ long. alike (take 257 t) t (rw (length-take-le 257 t (omega arith)) (omega arith)) long h)
    (λ few. rw (take_all 257 t (omega arith)) at h) (lt_or_le 256 (length t))

-- ---- from rows: the first is the same, and is a refusal

refused_alike : {R : Type 0} {make make' : Answer → ℕ → R} {table table' : List Row} {xs xs' before after : List ℕ} {r : R}
    → first table ≡ first table' → ((first table).number ≡ 0 → ⊥) → make (first table) 0 ≡ make' (first table) 0
    → Gives make table xs before after r → Gives make' table' xs' before after r
unfolding given
refused_alike {make = make} {make'} {table} {table'} {xs} {xs'} {before} e n m g =
    let f : given (first table) xs ≡ [] = rw (ne_eqb _ 0 n) in
    let f' : given (first table') xs' ≡ [] = rw (← e, ne_eqb _ 0 n) in
    record {
      result = g.result ∙ ap (λ (ys : List ℕ). make (first table) (length ys)) f ∙ m ∙ ap (λ (a : Answer). make' a 0) e
          ∙ ap (λ (ys : List ℕ). make' (first table') (length ys)) (sym f');
      buffer = g.buffer ∙ ap (λ (ys : List ℕ). written ys before) (f ∙ sym f');
    }

-- past 256 a name is refused with 3, or with 25 where there is no such edition
abbrev over : Permits → Answer
over P = pick P.known (record { number = 3; place = 256 }) (record { number = 25; place = 0 })

some_number : (P : Permits) → (over P).number ≡ 0 → ⊥
some_number P = by_test (λ b. (pick {A = Answer} b (record { number = 3; place = 256 }) (record { number = 25; place = 0 })).number ≡ 0 → ⊥) P.known
    (λ k e. omega arith) (λ k e. omega arith)

text_over : (P : Permits) (t : List ℕ) → 256 < length t → first (text_rows P t) ≡ over P
text_over P t h =
    by_test (λ b. P.known ≡ b → first (text_rows P t) ≡ pick b (record { number = 3; place = 256 }) (record { number = 25; place = 0 })) P.known
    (λ p q. first_front P t (front_3 P t (λ e. omega arith) h) q (λ e. omega arith)) (λ p q. first_25 P t q) refl

-- and a host with 3, whatever rows follow
name_over : (P : Permits) (t : List ℕ) → 256 < length t → (more : List Row) → first (text_rows P t ++ more) ≡ over P
name_over P t h more = stands (text_rows P t) more (text_over P t h) (some_number P)

host_over : (P : Permits) (t : List ℕ) → 256 < length t → (more : List Row) → first (host_text_rows P t ++ more) ≡ record { number = 3; place = 256 }
host_over P t h more = stands (host_text_rows P t) more (host_front P t (front_3 P t (λ e. omega arith) h) (λ e. omega arith)) (λ e. omega arith)

-- behind a row 1, which does not ask the text
module _ (b : Bool) (table : List Row) where
  behind : (table' : List Row) → first table ≡ first table' → first (row 1 b 0 ∷ table) ≡ first (row 1 b 0 ∷ table')
  unfolding first
  behind table' e = ap (λ (a : Answer). pick b (record { number = 1; place = 0 }) a) e

  behind_some : ((first table).number ≡ 0 → ⊥) → (first (row 1 b 0 ∷ table)).number ≡ 0 → ⊥
  unfolding first
  behind_some n = by_test (λ c. (pick c (record { number = 1; place = 0 }) (first table)).number ≡ 0 → ⊥) b (λ p e. omega arith) (λ p. n)

-- ---- the calls

module _ (P : Permits) (before after : List ℕ) (t u : List ℕ) (long : 256 < length t) (long' : 256 < length u) where
  checks_alike : {r : Checked} → Checks P t before after r → Checks P u before after r
  unfolding check_rows places_said verdict
  checks_alike c =
      let e = text_over P t long in
      let n = behind_some (ltb (length before) 256) (text_rows P t) (λ z. some_number P (sym (ap (λ (a : Answer). a.number) e) ∙ z)) in
      record { gives = refused_alike (behind _ (text_rows P t) (text_rows P u) (e ∙ sym (text_over P u long'))) n (rw (ne_eqb _ 0 n)) c.gives }

  forms_alike : {r : AsciiForm} → AsciiForms P t before after r → AsciiForms P u before after r
  unfolding ascii_rows kinds_said verdict
  forms_alike c =
      let e = name_over P t long _ in
      let n = behind_some (ltb (length before) 192) _ (λ z. some_number P (sym (ap (λ (a : Answer). a.number) e) ∙ z)) in
      record { gives = refused_alike (behind _ _ _ (e ∙ sym (name_over P u long' _))) n (rw (ne_eqb _ 0 n)) c.gives }

  hosts_alike : {r : Filled} → HostForms P t before after r → HostForms P u before after r
  unfolding call_rows rows
  hosts_alike c =
      let e = host_over P t long (coded_rows P (normal_form t)) in
      let n = behind_some (ltb (length before) 255) (rows P t) (λ z. omega (arith, sym (ap (λ (a : Answer). a.number) e) ∙ z)) in
      record { gives = refused_alike (behind _ _ _ (e ∙ sym (host_over P u long' _))) n refl c.gives }

-- ---- and so what is told of them

module _ {R : Type 0} (inNumbers : R → List ℕ) (Meets : List ℕ → R → Type 0)
    (alike : (t u : List ℕ) → 256 < length t → 256 < length u → (r : R) → Meets t r → Meets u r) (answer : List ℕ) (n : ℕ) where
  told_alike : Alike (λ (t : List ℕ). Tells inNumbers (Meets t) answer n)
  told_alike t u h g x = record { result = x.result; meets = alike t u h g x.result x.meets; told = x.told; number = x.number }

module _ (P : Permits) (before after answer : List ℕ) (n : ℕ) where
  pub check_alike : Alike (λ (t : List ℕ). Tells of_checked (Checks P t before after) answer n)
  check_alike = told_alike of_checked (λ (t : List ℕ) (r : Checked). Checks P t before after r) (λ t u h g r. checks_alike P before after t u h g) answer n

  pub ascii_alike : Alike (λ (t : List ℕ). Tells of_ascii_form (AsciiForms P t before after) answer n)
  ascii_alike = told_alike of_ascii_form (λ (t : List ℕ) (r : AsciiForm). AsciiForms P t before after r) (λ t u h g r. forms_alike P before after t u h g) answer n

  pub host_alike : Alike (λ (t : List ℕ). Tells of_host_form (HostForms P t before after) answer n)
  host_alike = told_alike of_host_form (λ (t : List ℕ) (r : Filled). HostForms P t before after r) (λ t u h g r. hosts_alike P before after t u h g) answer n
