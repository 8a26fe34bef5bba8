-- No answer is longer than 256 bytes: an id has at most 32, number and place three digits each, the kinds four letters, and the ASCII form
-- of an accepted name is two or three labels of at most 63 octets each.
-- Assumes nothing.
use mathlib.Core.Path.{◌≡◌, refl}
use mathlib.Core.Bool.{Bool, true, false, not}
use mathlib.Core.List.{List, [], ◌∷◌, map}
use Prim.Native.Nat.{ℕ, ◌+◌, ◌*◌, ◌≤◌}
use native.Mathlib.Omega.{arith}
use lib.Dec.{eqb, ltb}
use lib.ListN.{length, length-append}
use borrow.Author.Tests.{eqb-true, not-false}
use Rattle.lists.specs.Tests.{pick, all_of, any_of}
use Rattle.lists.specs.Rows.{first}
use Rattle.lists.proofs.Laws.{both, neither}
use Rattle.characters.specs.KanjiBits.{kanji_bits}
use Rattle.normal.specs.Normal.{normal_form}
use Rattle.rules.specs.Labels.{labels, join}
use Rattle.rules.specs.Permits.{Permits, ShortMiddles}
use Rattle.rules.specs.Rules.{verdict}
use Rattle.rules.specs.Editions.{today, today_with}
use Rattle.rules.proofs.Editions.{lending, lent_short}
use Rattle.rules.specs.Kinds.{no_kinds}
use Rattle.rules.specs.declared.Kinds.{Kinds}
use Rattle.rules.specs.Verdicts.{Class}
use Rattle.rules.specs.Verdicts.{None}
use Rattle.rules.specs.Verdicts.{Verdict}
use Rattle.ascii.specs.Ascii.{ascii_label, ascii_form, uncoded, writable}
use Rattle.ascii.proofs.OfNames.{label_size}
use Rattle.names.specs.Calls.{ascii_rows, kinds_said}
use Rattle.names.proofs.Enough.{accepted_writable}
use Rattle.names.proofs.Answering.{ascii_passed}
use Rattle.utf8.specs.Utf8.{decoded}
use Rattle.lines.specs.Fields.{id_of, name_of, one_tab, good_id}
use Rattle.lines.proofs.LineFields.{id_length}
use Rattle.answer.specs.Answer.{bad_line, answer_line, refused_answer, bad_answer, good_answer, answer_to}
use Rattle.answer.proofs.Pieces.{decimal_length, field_length}

line_length : (id : List ℕ) (number place : ℕ) (class : Class) (form : List ℕ) (ks : Kinds) → length (answer_line id number place class form ks) ≤ length id + length form + 17
unfolding answer_line
line_length id number place class form ks = simp length-append (omega (arith, decimal_length number, decimal_length place, field_length ks))

pub bad_length : length bad_answer ≤ 256
unfolding bad_answer refused_answer
bad_length = omega (arith, line_length (0x2D ∷ []) 16 0 None (0x2D ∷ []) no_kinds)

-- of a line that is not bad, the id is good
pub good_id_lem : (line : List ℕ) → bad_line line ≡ false → good_id (id_of line) ≡ true
unfolding bad_line
good_id_lem line e =
    let c = neither (not (good_id (id_of line))) _ (neither (not (one_tab line)) _ (neither (ltb 1024 (length line)) _ e).1).1 in
    not-false (good_id (id_of line)) c.0

-- ---- the ASCII form of an accepted name: two or three labels, each of at most 63 octets

joined_short : (P : Permits) (ls : List (List ℕ)) → all_of (writable P) ls ≡ true → any_of (uncoded P) ls ≡ false
    → length (join (map (ascii_label P) ls)) ≤ 64 * length ls
unfolding all_of any_of join
joined_short P [] w u = omega arith
joined_short P (l ∷ []) w u =
    let p = both (writable P l) true w in
    let q = neither (uncoded P l) false u in
    omega (arith, label_size P l p.0 q.0)
joined_short P (l ∷ m ∷ ls) w u =
    let p = both (writable P l) (all_of (writable P) (m ∷ ls)) w in
    let q = neither (uncoded P l) (any_of (uncoded P) (m ∷ ls)) u in
    omega (arith, label_size P l p.0 q.0, joined_short P (m ∷ ls) p.1 q.1, length-append (ascii_label P l) (0x2E ∷ join (map (ascii_label P) (m ∷ ls))))

form_short : (P : Permits) → ShortMiddles P → (text : List ℕ) → (first (ascii_rows P text 192)).number ≡ 0
    → length (ascii_form P (normal_form text)) ≤ 192
unfolding ascii_form
form_short P shorts text e =
    let c = ascii_passed P text 192 e in
    let w = accepted_writable P shorts text c.0 in
    omega (arith, joined_short P (labels (normal_form text)) w.fit c.1, w.few)

-- ---- the answer

module _ (table : List ℕ) where
  abbrev edition : Permits
  edition = today_with table

  good_length : (id text : List ℕ) → length id ≤ 32 → length (good_answer edition id text) ≤ 256
  unfolding good_answer
  good_length id text h = go (eqb (first (ascii_rows edition text 192)).number 0) refl
    where
      v : Verdict
      v = verdict (first (ascii_rows edition text 192)) (labels (normal_form text))

      ks : Kinds
      ks = kinds_said edition (labels (normal_form text)) v.number

      go : (b : Bool) → eqb (first (ascii_rows edition text 192)).number 0 ≡ b
          → length (answer_line id v.number v.place v.class (pick b (ascii_form edition (normal_form text)) (0x2D ∷ [])) ks) ≤ 256
      go true e =
          omega (arith, line_length id v.number v.place v.class (ascii_form edition (normal_form text)) ks, form_short edition (lent_short table 4) text (eqb-true _ 0 e))
      go false e = omega (arith, line_length id v.number v.place v.class (0x2D ∷ []) ks)

  pub longest : (line : List ℕ) → length (answer_to edition line) ≤ 256
  unfolding answer_to
  longest line = go (bad_line line) refl
    where
      go : (b : Bool) → bad_line line ≡ b → length (pick b bad_answer (good_answer edition (id_of line) (decoded (name_of line)).codes)) ≤ 256
      go true e = bad_length
      go false e = good_length (id_of line) (decoded (name_of line)).codes (id_length (id_of line) (good_id_lem line e))

-- at the edition in force
pub longest_today : (line : List ℕ) → length (answer_to today line) ≤ 256
longest_today line = lending (λ (P : Permits). length (answer_to P line) ≤ 256) 4 {table = kanji_bits} refl (longest kanji_bits line)
