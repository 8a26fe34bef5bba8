-- 192 octets are enough for an accepted name: it has two or three labels, and each that is not coded has at most 63 characters, the
-- leftmost by rule 9, a prefecture label by the table, the last since it is "jp".
-- Assumes nothing.
use mathlib.Core.Path.{◌≡◌, refl, sym, ap, ◌∙◌}
use mathlib.Core.Bool.{Bool, true, false, not}
use mathlib.Core.List.{List, [], ◌∷◌, ◌++◌}
use mathlib.Core.Logic.{⊎_elim}
use Prim.Native.Nat.{ℕ, ◌+◌, ◌≤◌}
use native.Mathlib.Omega.{arith}
use Rattle.std.proofs.Common.{Option, Some, None, Ok}
use Rattle.std.specs.Option.{is_some}
use lib.ListN.{length, take, drop, get_or, length-append}
use lib.Seq.{take_at}
use borrow.Author.Tests.{not-true, not-false}
use Rattle.lists.specs.Tests.{all_of, any_of, index_of, same}
use Rattle.lists.specs.Front.{written}
use Rattle.lists.specs.Rows.{Clear}
use Rattle.lists.proofs.Laws.{both, clash, or_right, first_of, same_is}
use Rattle.normal.specs.Normal.{normal_form}
use Rattle.rules.specs.Labels.{period, labels}
use Rattle.rules.specs.Permits.{Permits, ShortMiddles, label_char, middle}
use Rattle.rules.specs.Rules.{is_japanese, long, of_name, pretends, jp, text_rows}
use Rattle.rules.specs.Kinds.{kinds_in}
use Rattle.rules.specs.declared.Class as one
use Rattle.rules.specs.declared.Kinds.{Kinds}
use Rattle.labels.specs.Held.{Held, held_in, held_told}
use Rattle.rules.proofs.ByName.{Passed, Honest, clear_text}
use Rattle.rules.proofs.Cuts.{labels_fit}
use Rattle.rules.proofs.Derived.{left_size, middle_length, two_or_three}
use Rattle.ascii.specs.Labels.{high}
use Rattle.ascii.specs.Ascii.{ascii_form, uncoded, writable}
use Rattle.ascii.proofs.OfNames.{label_writable}
use Rattle.names.specs.Calls.{ascii_told, AsciiForms}
use Rattle.names.specs.Steps.{refused_form, Writable, PutsWhere, ruled_told, Judges}
use Rattle.names.specs.declared.judges.Ruled as code
use Rattle.names.proofs.Cutting.{leftmost_is}
use Rattle.names.proofs.Answering.{accepted_as, ascii_uncoded, ascii_accepted}

-- ---- a law of each label of an accepted name

module _ (P : Permits) (f : List ℕ → Bool) (left : (l : List ℕ) → all_of (label_char P) l ≡ true → long P l ≡ false → pretends P of_name l ≡ false → f l ≡ true)
    (mid : (l : List ℕ) → all_of (label_char P) l ≡ true → middle P l ≡ true → f l ≡ true) (last : f jp ≡ true) where
  jp_last : (l : List ℕ) → same l jp ≡ true → f l ≡ true
  jp_last l e = ap f (same_is l jp e) ∙ last

  of_passed : (ls : List (List ℕ)) → Passed P ls → Honest P ls → all_of (all_of (label_char P)) ls ≡ true → (all_of f ls ≡ true) × (length ls ≤ 3)
  unfolding all_of
  of_passed [] N h a = (refl, omega arith)
  of_passed (l ∷ []) N h a = absurd (⊎_elim (λ e. omega arith) (λ e. omega arith) (two_or_three 1 P.three N.count))
  of_passed (l ∷ m ∷ []) N h a =
      let p = both (all_of (label_char P) l) _ a in
      (rw (left l p.0 N.left.few h, jp_last m N.last), omega arith)
  of_passed (l ∷ m ∷ n ∷ []) N h a =
      let p = both (all_of (label_char P) l) _ a in
      let q = both (all_of (label_char P) m) _ p.1 in
      (rw (left l p.0 N.left.few h, mid m q.0 (not-false (middle P m) N.mid), jp_last n N.last), omega arith)
  of_passed (l ∷ m ∷ n ∷ o ∷ ls) N h a =
      absurd (⊎_elim (λ e. omega arith) (λ e. omega arith) (two_or_three (length (l ∷ m ∷ n ∷ o ∷ ls)) P.three N.count))

  pub each_label : (text : List ℕ) → Clear (text_rows P text) → (all_of f (labels (normal_form text)) ≡ true) × (length (labels (normal_form text)) ≤ 3)
  each_label text c =
      let k = clear_text P text c in
      of_passed (labels (normal_form text)) k.1 k.2 (labels_fit P (normal_form text) k.0.fit)

-- ---- of at most 63 characters where it is not coded

jp_writable : (P : Permits) → writable P jp ≡ true
unfolding writable jp any_of high
jp_writable P = or_right (is_japanese P (0x6A ∷ 0x70 ∷ [])) true refl

module _ (P : Permits) (short : ShortMiddles P) (text : List ℕ) where
  pub accepted_writable : Clear (text_rows P text) → Writable P (normal_form text) 192
  accepted_writable c =
      let w = each_label P (writable P) (λ l a k h. label_writable P l a (λ q. rw q at (left_size P l k)))
      (λ l a m. label_writable P l a (λ q. let h = middle_length P short l m in omega arith)) (jp_writable P) text c in
      record { fit = w.0; few = omega (arith, w.1) }

  pub ready : {lent after : List ℕ} {j : code.Ruled} → Judges P text lent after (ruled_told j) → {k : one.Class} → j.said ≡ Ok k
      → Writable P (take j.length after) 192
  ready e z = let p = accepted_as P text e z in rw p.form (accepted_writable p.clear)

-- ---- what the leftmost label of an accepted name holds

leftmost_fit : (P : Permits) (text : List ℕ) → Clear (text_rows P text) → all_of (label_char P) (get_or (labels (normal_form text)) 0 []) ≡ true
unfolding all_of
leftmost_fit P text c = first_of (all_of (label_char P)) [] refl (labels (normal_form text)) (labels_fit P (normal_form text) (clear_text P text c).0.fit)

-- of what holds only what a label may it is told
held_there : (P : Permits) (l : List ℕ) → all_of (label_char P) l ≡ true → (r : Option Kinds) → held_told r ≡ held_in P l → r ≡ Some (kinds_in P l)
unfolding held_in
held_there P l f (Some ks) e = ap (λ (h : Held). Some h.kinds) e ∙ rw f
held_there P l f None e = clash f (sym (ap (λ (h : Held). h.fit) e))

pub leftmost_held : (P : Permits) (t : List ℕ) (a : ℕ) → a ≡ 0 + index_of period (drop 0 t) → all_of (label_char P) (get_or (labels t) 0 []) ≡ true
    → (r : Option Kinds) → held_told r ≡ held_in P (take a t) → r ≡ Some (kinds_in P (get_or (labels t) 0 []))
leftmost_held P t a s f r e = held_there P _ f r (e ∙ ap (held_in P) (leftmost_is t a s))

-- ---- what is put is the form

module _ (P : Permits) (text : List ℕ) {lent form : List ℕ} {j : code.Ruled} (e : Judges P text lent form (ruled_told j)) {k : one.Class} (z : j.said ≡ Ok k) {zeros last : List ℕ} {r : Option ℕ}
    (t : PutsWhere (not (any_of (uncoded P) (labels (take j.length form)))) (ascii_form P (take j.length form)) zeros last 0 r) where
  pub leftmost_passed : all_of (label_char P) (get_or (labels (take j.length form)) 0 []) ≡ true
  leftmost_passed = let p = accepted_as P text e z in rw p.form (leftmost_fit P text p.clear)

  put_form : PutsWhere (not (any_of (uncoded P) (labels (normal_form text)))) (ascii_form P (normal_form text)) zeros last 0 r
  put_form = rw (accepted_as P text e z).form at t

  module _ {n : ℕ} (y : r ≡ Some n) where
    place_is : n ≡ length (ascii_form P (normal_form text))
    place_is = omega (arith, (put_form.put n y).place)

    pub put_size : n ≤ length last
    put_size = omega (arith, place_is, ap length (put_form.put n y).buffer, length-append (ascii_form P (normal_form text)) (drop n zeros))

    piece : take n last ≡ ascii_form P (normal_form text)
    piece = rw (place_is, (put_form.put n y).buffer) (take_at (ascii_form P (normal_form text)) _ (length (ascii_form P (normal_form text))) refl)

  module _ (before : List ℕ) (h : 192 ≤ length before) where
    pub stopped : r ≡ None → AsciiForms P text before before (refused_form 14 0)
    stopped y =
        ascii_uncoded P text before h (accepted_as P text e z).clear (not-false (any_of (uncoded P) (labels (normal_form text))) (sym put_form.coded ∙ ap is_some y))

    pub finished : {after : List ℕ} {ks : Kinds} {n : ℕ} → r ≡ Some n
        → after ≡ take n last ++ drop n before → ks ≡ kinds_in P (get_or (labels (take j.length form)) 0 [])
        → AsciiForms P text before after (ascii_told (Ok (record { class = k; kinds = ks; length = n })))
    unfolding written
    finished {after} {ks} {n} y w f =
        let p = accepted_as P text e z in
        ascii_accepted P text before h p.clear (not-true (any_of (uncoded P) (labels (normal_form text))) (sym put_form.coded ∙ ap is_some y)) p.class
        (f ∙ ap (λ (l : List ℕ). kinds_in P (get_or (labels l) 0 [])) p.form) (place_is y)
        (w ∙ rw (piece y, place_is y))
