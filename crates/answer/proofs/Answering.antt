-- The answer to a line, on plain lists: from a text to the fields, to the line.
-- Assumes nothing.
use mathlib.Core.Path.{◌≡◌, refl, sym, ap, ◌∙◌}
use mathlib.Core.Bool.{Bool, true, false}
use mathlib.Core.List.{List}
use mathlib.Core.Logic.{⊎_elim}
use Prim.Native.Nat.{ℕ, suc, ◌+◌, ◌-◌, ◌≤◌, ◌<◌, min}
use native.Mathlib.Omega.{arith}
use lib.Dec.{ltb}
use lib.ListN.{length, take, drop, length-drop, length-take}
use lib.Seq.{take_all, take_at, length-take-le}
use borrow.Author.Tests.{ne_eqb, lt-ltb, le-ltb}
use Rattle.lists.specs.Tests.{pick, index_of}
use Rattle.lists.specs.Front.{written}
use Rattle.lists.specs.Rows.{first}
use Rattle.lists.specs.Rows.{Answer}
use Rattle.lists.proofs.Laws.{both, by_test, lt_or_le}
use Rattle.lists.proofs.Scan.{found_inside}
use Rattle.lists.proofs.Tables.{passed_over, refused_before}
use Rattle.rules.specs.Permits.{Permits}
use Rattle.rules.specs.Rules.{text_rows, verdict}
use Rattle.rules.proofs.Steps.{front_3, first_25, first_front}
use Rattle.names.specs.Calls.{ascii_rows, kinds_said}
use Rattle.std.specs.Prelude.{Some, None}
use Rattle.utf8.specs.Utf8.{decoded}
use Rattle.lines.specs.Fields.{tab, id_of, name_of, one_tab, good_id, parts_of}
use Rattle.answer.specs.Answer.{bad_line, refused_answer, bad_answer, good_answer, answer_to}
use Rattle.answer.specs.Answers.{fields_answer}

-- ---- a text of more than 256 code points is refused with 3 at 256, or with 25 by no edition, whatever it holds

module _ (P : Permits) (id : List ℕ) where
  refused_line : (text : List ℕ) {n p : ℕ} → first (text_rows P text) ≡ record { number = n; place = p } → (n ≡ 0 → ⊥) → good_answer P id text ≡ refused_answer id n p
  unfolding good_answer refused_answer verdict kinds_said ascii_rows
  refused_line text {n} {p} e h =
      let f : first (ascii_rows P text 192) ≡ record { number = n; place = p } = passed_over 1 (ltb 192 192) 0 _ refl ∙ refused_before (text_rows P text) _ (λ z. h (sym (ap (λ (a : Answer). a.number) e) ∙ z)) ∙ e in
      rw (f, ne_eqb n 0 h)

  over_line : (text : List ℕ) → 256 < length text → good_answer P id text ≡ pick P.known (refused_answer id 3 256) (refused_answer id 25 0)
  over_line text h =
      by_test (λ b. P.known ≡ b → good_answer P id text ≡ pick b (refused_answer id 3 256) (refused_answer id 25 0)) P.known
      (λ p k. refused_line text (first_front P text (front_3 P text (λ z. omega arith) h) k (λ z. omega arith)) (λ z. omega arith))
      (λ p k. refused_line text (first_25 P text k) (λ z. omega arith)) refl

  -- so its first 257 say the same
  pub cut : (text : List ℕ) → good_answer P id (take 257 text) ≡ good_answer P id text
  cut text =
      ⊎_elim
      (λ h. over_line (take 257 text) (rw (length-take-le 257 text (omega arith)) (omega arith)) ∙ sym (over_line text h))
      (λ h. ap (good_answer P id) (take_all 257 text (omega arith)))
      (lt_or_le 256 (length text))

-- ---- the fields

-- what is lent of a decoded name: its first 257 code points
pub lent_name : (codes before after : List ℕ) (n : ℕ) → length before ≡ 257 → after ≡ written (take (length before) codes) before → n ≡ min (length codes) 257
    → take n after ≡ take 257 codes
unfolding written
lent_name codes before after n e f g =
    let k : n ≡ length (take 257 codes) = omega (arith, length-take 257 codes) in
    ap (take n) f ∙ rw e (rw k (take_at (take 257 codes) _ (length (take 257 codes)) refl))

module _ (P : Permits) (id name : List ℕ) where
  pub bad_id : good_id id ≡ false → fields_answer P id name ≡ bad_answer
  unfolding fields_answer
  bad_id e = simp e

  pub bad_name : good_id id ≡ true → (decoded name).ok ≡ false → fields_answer P id name ≡ bad_answer
  unfolding fields_answer
  bad_name e f = simp (e, f)

  pub fields_good : good_id id ≡ true → (decoded name).ok ≡ true → fields_answer P id name ≡ good_answer P id (decoded name).codes
  unfolding fields_answer
  fields_good e f = simp (e, f)

  pub good_fields : (text : List ℕ) → good_id id ≡ true → (decoded name).ok ≡ true → text ≡ take 257 (decoded name).codes → fields_answer P id name ≡ good_answer P id text
  good_fields text e f g = fields_good e f ∙ sym (ap (good_answer P id) g ∙ cut P id (decoded name).codes)

-- ---- the line

module _ (P : Permits) (line : List ℕ) where
  pub long_line : 1024 < length line → answer_to P line ≡ bad_answer
  unfolding answer_to bad_line
  long_line h = simp (lt-ltb 1024 (length line) h)

  module _ (h : length line ≤ 1024) where
    pub no_parts : None ≡ parts_of line → answer_to P line ≡ bad_answer
    unfolding parts_of answer_to bad_line
    no_parts e = go (one_tab line) refl e
      where
        go : (b : Bool) → one_tab line ≡ b → None ≡ pick b (Some (index_of tab line)) None → answer_to P line ≡ bad_answer
        go true q p = absurd (let z : ◌≡◌ {A = ℕ} 0 1 = cc in omega arith)
        go false q p = simp (le-ltb 1024 (length line) h, q)

    pub two_parts : one_tab line ≡ true → answer_to P line ≡ fields_answer P (id_of line) (name_of line)
    unfolding answer_to bad_line fields_answer
    two_parts q = simp (le-ltb 1024 (length line) h, q)

-- where two parts are found, one tab is there, and it is the first
pub record Parted (line : List ℕ) (t : ℕ) : Type 0 where
  pub one : one_tab line ≡ true
  pub at : t ≡ index_of tab line
  pub inside : t < length line

pub parted : (line : List ℕ) (t : ℕ) → Some t ≡ parts_of line → Parted line t
unfolding parts_of one_tab
parted line t e = go (one_tab line) refl e
  where
    go : (b : Bool) → one_tab line ≡ b → Some t ≡ pick b (Some (index_of tab line)) None → Parted line t
    go true q p =
        let z : t ≡ index_of tab line = cc in
        record { one = q; at = z; inside = omega (arith, z, found_inside tab line (both _ _ q).0) }
    go false q p = absurd (let z : ◌≡◌ {A = ℕ} 0 1 = cc in omega arith)

pub tab_inside : (line : List ℕ) (t : ℕ) → Some t ≡ parts_of line → t < length line
tab_inside line t e = (parted line t e).inside

pub line_fields : (P : Permits) (line : List ℕ) (t : ℕ) → length line ≤ 1024 → Some t ≡ parts_of line
    → answer_to P line ≡ fields_answer P (take t line) (take (length line - (t + 1)) (drop (t + 1) line))
unfolding id_of name_of
line_fields P line t h e =
    let p = parted line t e in
    let w : t + 1 ≡ suc (index_of tab line) = omega (arith, p.at) in
    let d : List ℕ = drop (suc (index_of tab line)) line in
    two_parts P line h p.one
    ∙ sym (rw (w, p.at) (ap (fields_answer P (take (index_of tab line) line)) (take_all (length line - suc (index_of tab line)) d (omega (arith, length-drop (suc (index_of tab line)) line)))))
