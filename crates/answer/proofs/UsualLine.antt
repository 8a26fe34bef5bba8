-- The usual line, on plain lists: bytes of an id, a tab and a name of no control character, up to an LF, are a line with these two fields,
-- and its answer is that to the name's code points.
-- Assumes nothing.
use mathlib.Core.Path.{◌≡◌, refl, sym, ap, ◌∙◌}
use mathlib.Core.Bool.{true, false}
use mathlib.Core.List.{List, ◌∷◌, ◌++◌, append_assoc}
use Prim.Native.Nat.{ℕ, suc, ◌+◌, ◌≤◌, ◌<◌}
use native.Mathlib.Numerals.{add-one}
use native.Mathlib.Omega.{arith}
use lib.Dec.{leb}
use lib.ListN.{length, take, drop, get_or, length-append, length-drop, take-append-drop}
use lib.Seq.{split_at, drop-cons, take_at, length-take-le, get_or-take, get_or-append-add}
use borrow.Author.Tests.{eqb-true}
use Rattle.lists.specs.Tests.{within, all_of, any_of, index_of}
use Rattle.lists.specs.Front.{Puts}
use Rattle.lists.proofs.Laws.{both, in_range, any_append, absent}
use Rattle.lists.proofs.Scan.{cut_first, first_past}
use Rattle.rules.specs.Permits.{Permits}
use Rattle.utf8.specs.Utf8.{Text, decoded}
use Rattle.lines.specs.declared.Stretch.{Stretch}
use Rattle.lines.specs.Lines.{lf}
use Rattle.lines.specs.Fields.{tab, id_byte, good_id, field_at}
use Rattle.lines.proofs.LineFields.{past}
use Rattle.lines.proofs.OneTab.{Fields, fields_are}
use Rattle.answer.specs.Usual.{has_no_controls, Answered}
use Rattle.answer.specs.Answer.{good_answer, answer_to}
use Rattle.answer.proofs.Answering.{two_parts, fields_good}

abbrev line_of : List ℕ → List ℕ → List ℕ
line_of id name = id ++ 0x09 ∷ name

-- an id of such bytes, and a name of no control character
module _ (id name : List ℕ) (ei : all_of id_byte id ≡ true) (en : has_no_controls name ≡ true) where
  no_lf : any_of lf (line_of id name) ≡ false
  unfolding lf id_byte within any_of
  no_lf = rw (any_append lf id (0x09 ∷ name), absent id_byte 0x0A refl id ei) (absent (leb 0x20) 0x0A refl name en)

  fields : Fields (line_of id name) id name
  unfolding tab id_byte within
  fields = record { parts = refl; id_no_tab = absent id_byte 0x09 refl id ei; name_no_tab = absent (leb 0x20) 0x09 refl name en }

  line_answer : (P : Permits) {codes : List ℕ} → good_id id ≡ true → length id ≤ 32 → length name < 64 → decoded name ≡ record { codes = codes; ok = true }
      → answer_to P (line_of id name) ≡ good_answer P id codes
  line_answer P {codes} good q r d =
      let f = fields_are (line_of id name) id name fields in
      let fine : (decoded name).ok ≡ true = ap (λ (t : Text). t.ok) d in
      two_parts P (line_of id name) (omega (arith, length-append id (0x09 ∷ name))) f.0 ∙ rw (f.1, f.2) (fields_good P id name good fine ∙ ap (λ (t : Text). good_answer P id t.codes) d)

-- the first field of the first k bytes ends at t, before their end: there is a tab
tab_there : (s : List ℕ) {k t : ℕ} → k ≤ length s → t ≡ 0 + index_of tab (take k s) → t < k → get_or s t 0 ≡ 0x09
unfolding tab
tab_there s {k} {t} high et it =
    let xs : List ℕ = take k s in
    let u : ℕ = index_of tab (take k s) in
    let h : index_of tab xs < length xs = omega (arith, length-take-le k s high) in
    let w : t ≡ length (take u xs) + 0 = omega (arith, length-take-le u xs (omega arith)) in
    sym (get_or-take k s t 0 it) ∙ ap (λ (l : List ℕ). get_or l t 0) (cut_first tab 0x09 (λ b e. eqb-true b 0x09 e) xs h)
    ∙ ap (λ (i : ℕ). get_or (take u xs ++ 0x09 ∷ drop (suc u) xs) i 0) w ∙ get_or-append-add (take u xs) (0x09 ∷ drop (suc u) xs) 0 0

-- and reading goes on past it
pub past_id : (s : List ℕ) {k : ℕ} {r : Stretch} → k ≤ length s → r ≡ field_at (take k s) 0 → r.end < k → r.next ≡ r.end + 1
past_id s {k} high e it = past (take k s) 0 e (omega (arith, length-take-le k s high))

-- the first field of s is an id, which ends at t, and the rest begins with the name, up to an LF at e
module _ (s : List ℕ) {k t e : ℕ} {rest : List ℕ} (high : k ≤ length s) (et : t ≡ 0 + index_of tab (take k s)) (it : t < k)
    (good : good_id (take t s) ≡ true)
    (er : rest ≡ drop (t + 1) s) (ie : e < length rest) (lf-there : get_or rest e 0 ≡ 0x0A) (en : has_no_controls (take e rest) ≡ true) where
  abbrev id : List ℕ
  id = take t s

  abbrev name : List ℕ
  name = take e rest

  parts : (within 1 32 (length id) ≡ true) × (all_of id_byte id ≡ true)
  unfolding good_id
  parts = both (within 1 32 (length id)) (all_of id_byte id) good

  id_long : length id ≡ t
  id_long = length-take-le t s (omega arith)

  name_long : length name ≡ e
  name_long = length-take-le e rest (omega arith)

  all : s ≡ line_of id name ++ 0x0A ∷ drop (suc e) rest
  all =
      let back : drop t s ≡ 0x09 ∷ rest =
      rw (er, add-one t) (drop-cons s t 0 (omega arith) ∙ ap (λ (b : ℕ). b ∷ drop (suc t) s) (tab_there s high et it)) in
      let name_then : rest ≡ name ++ 0x0A ∷ drop (suc e) rest = split_at rest e 0 ie ∙ ap (λ (b : ℕ). name ++ b ∷ drop (suc e) rest) lf-there in
      sym (take-append-drop t s) ∙ ap (λ (l : List ℕ). id ++ l) (back ∙ ap (λ (l : List ℕ). 0x09 ∷ l) name_then)
      ∙ sym (append_assoc id (0x09 ∷ name) (0x0A ∷ drop (suc e) rest))

  long : length (line_of id name) ≡ t + 1 + e
  long = omega (arith, length-append id (0x09 ∷ name), id_long, name_long)

  pub inside : t + 1 + e < length s
  inside = omega (arith, ap length er, length-drop (t + 1) s)

  pub answered : (P : Permits) {codes before after : List ℕ} {n : ℕ} → e < 64
      → decoded name ≡ record { codes = codes; ok = true } → Puts (good_answer P id codes) before after 0 n
      → Answered (answer_to P) s before after (record { end = t + 1 + e; length = n })
  unfolding lf
  answered P {n = n} r d x =
      let first : index_of lf s ≡ t + 1 + e =
      ap (index_of lf) all ∙ first_past lf (line_of id name) 0x0A (drop (suc e) rest) (no_lf id name parts.1 en) refl ∙ long in
      let is : take (t + 1 + e) s ≡ line_of id name =
      ap (take (t + 1 + e)) all ∙ take_at (line_of id name) (0x0A ∷ drop (suc e) rest) (t + 1 + e) long in
      let y = rw (← line_answer id name parts.1 en P good (omega (arith, in_range 1 32 (length id) parts.0)) (omega (arith, name_long)) d) at x in
      record { end = sym first; inside = inside; text = rw is y }
