-- The usual name, a label that holds only what a label may and ".jp": such a character is its own replacement, no mark and no period, so
-- the text is its own normal form, its labels are the two, and only 7 to 10 and 17 can apply; that 14 never comes (proofs/Coded) is not needed.
-- Assumes nothing.
use mathlib.Core.Path.{◌≡◌, refl, sym, ap, ◌∙◌}
use mathlib.Core.Bool.{Bool, true, false, not, ◌||◌, or-false, or-true}
use mathlib.Core.List.{List, [], ◌∷◌, ◌++◌}
use Prim.Native.Nat.{ℕ, ◌+◌, ◌-◌, ◌≤◌}
use native.Mathlib.Omega.{arith}
use lib.Dec.{eqb}
use Rattle.std.proofs.Common.{Option, Some, None, Err}
use Rattle.std.specs.Option.{is_some}
use lib.ListN.{length, take, drop, length-append, take-append-drop}
use borrow.Author.Tests.{eqb-false, not-true, not-false}
use Rattle.std.proofs.Common.{Bor}
use Rattle.std.specs.Option.{MatchOption}
use Rattle.std.specs.Cmp.Lexicographic.{pointwise}
use Rattle.lists.proofs.Chains.{same_is as ending_is}
use Rattle.lists.specs.Tests.{within, all_of, any_of, elem, same}
use Rattle.lists.specs.Front.{written}
use Rattle.lists.specs.Rows.{Answer, accepted as taken, first, Clear}
use Rattle.lists.proofs.Laws.{either, both, or_right, in_range, all_append, all_weaker, all_none, differs, same_refl, same_is}
use Rattle.lists.proofs.Pieces.{then}
use Rattle.refusals.specs.Refusals.{refusal_told}
use Rattle.refusals.specs.declared.Refused.{Refused}
use Rattle.refusals.proofs.Once.{number_not_0}
use Rattle.characters.specs.Characters.{alnum, hyphen, ascii_set, kinds, signs, stretch, kind_among, kind_by, any_kind, kanji_with, kind_with}
use Rattle.characters.specs.declared.Edition.{Edition}
use Rattle.characters.specs.Replace.{ranges, range_in, is_half, replace_in, replace}
use Rattle.characters.proofs.Classes.{stays, ascii_stays}
use Rattle.characters.proofs.OneKind.{sign_is}
use Rattle.normal.specs.Normal.{normal_form}
use Rattle.normal.proofs.Unchanged.{unchanged, unchanged_by, unchanged_form}
use Rattle.rules.specs.Labels.{period, into_first, labels, join}
use Rattle.rules.specs.Permits.{Permits, InStretch, ShortMiddles, ja_char, label_char, is_empty}
use Rattle.rules.specs.Rules.{unfit, is_japanese, of_name, label_rows, jp, text_rows, class_of, verdict, by_labels, rules, accepted}
use Rattle.rules.specs.Kinds.{any_found}
use Rattle.rules.specs.Editions.{edition_with, permits}
use Rattle.rules.specs.Verdicts.{General}
use Rattle.rules.specs.declared.Kinds.{Kinds}
use Rattle.rules.specs.Verdicts.{Verdict}
use Rattle.rules.proofs.ByName.{text_cleared}
use Rattle.rules.proofs.Cuts.{labels_cut}
use Rattle.rules.proofs.Derived.{no_period}
use Rattle.rules.proofs.Sound.{low}
use Rattle.rules.proofs.Steps.{front_0, text_on, name_left, name_0}
use Rattle.labels.specs.Known.{known_rows}
use Rattle.labels.specs.Held.{Held, held_in, held_told}
use Rattle.labels.proofs.OfLabel.{lent_dot, rows_are}
use Rattle.labels.proofs.Holding.{any_found_lem}
use Rattle.ascii.specs.Ascii.{ascii_label, ascii_form, uncoded, writable}
use Rattle.ascii.proofs.OfNames.{label_size}
use Rattle.names.specs.Calls.{AsciiForm, ascii_told, AsciiForms}
use Rattle.names.specs.Steps.{refused_form, PutsOrKeeps, UsualLabel, EndsInJp, dot_jp, ends_in_jp}
use Rattle.names.proofs.Answering.{ascii_refused, ascii_uncoded, ascii_accepted}
use Rattle.names.proofs.Enough.{accepted_writable}
use Rattle.names.proofs.Joining.{put_jp}
use Rattle.labelled.proofs.OfName.{two_filled}

-- ---- what a label may hold

-- the two marks are not among it and the middle dot is Japanese, whatever table is lent, in every edition
pub record Marks (P : Permits) : Type 0 where
  pub voiced : label_char P 0x309B ≡ false
  pub half_voiced_lem : label_char P 0x309C ≡ false
  pub dot : ja_char P 0x30FB ≡ true

pub lent_marks : (E : Edition) → Marks (permits E)
unfolding ja_char label_char edition_with kind_with kinds stretch kind_among kind_by any_kind kanji_with elem any_of signs ascii_set alnum hyphen within
lent_marks E = record { voiced = rw (sign_is E.number 0x309B); half_voiced_lem = rw (sign_is E.number 0x309C); dot = lent_dot E }

module _ (P : Permits) (stretch : InStretch P) where
  jp_fits : all_of (label_char P) jp ≡ true
  unfolding all_of label_char ascii_set alnum within jp
  jp_fits = simp or-true

  jp_ascii : is_japanese P jp ≡ false
  unfolding is_japanese any_of jp
  jp_ascii = rw (low P stretch 0x6A (omega arith), low P stretch 0x70 (omega arith))

  module _ (c : ℕ) (e : label_char P c ≡ true) where
    other : (v : ℕ) → label_char P v ≡ false → c ≡ v → ⊥
    other v n = eqb-false c v (differs (label_char P) v n c e)

    kept : c ≡ replace c
    unfolding label_char
    kept =
        either (ja_char P c) (ascii_set c) e
        (λ j. let r = in_range 0x3003 0x9FA0 c (stretch c j) in stays c (omega arith) (omega arith)) (ascii_stays c)

    char_unchanged : Marks P → unchanged c ≡ true
    char_unchanged m = unchanged_by c kept (other 0x309B m.voiced) (other 0x309C m.half_voiced_lem)

-- ---- ".jp" at the end of a text

pub by_length : (text : List ℕ) → within 4 256 (length text) ≡ false → ends_in_jp text ≡ false
unfolding ends_in_jp
by_length text e = rw e

pub by_ending : (text : List ℕ) → within 4 256 (length text) ≡ true → (r : Option (Bor (List ℕ)))
    → MatchOption r (pointwise eqb (drop (length text - 3) text) (0x2E ∷ 0x6A ∷ 0x70 ∷ []) ≡ false)
    (λ x. (pointwise eqb (drop (length text - 3) text) (0x2E ∷ 0x6A ∷ 0x70 ∷ []) ≡ true) × (x.now ≡ take (length text - 3) text) × (length x.now + 3 ≡ length text))
    → MatchOption r (ends_in_jp text ≡ false) (λ label. EndsInJp text label.now)
unfolding ends_in_jp jp
by_ending text e None m = rw e (sym (ending_is _ _) ∙ m)
by_ending text e (Some x) m =
    let q = sym (ending_is (drop (length text - 3) text) dot_jp) ∙ m.0 in
    record { ending = rw e q; parts = rw (m.1, ← same_is (drop (length text - 3) text) dot_jp q) (take-append-drop (length text - 3) text) }

module _ (text label : List ℕ) (E : EndsInJp text label) where
  pub ending_sizes : (4 ≤ length text) × (length text ≤ 256)
  unfolding ends_in_jp
  ending_sizes = in_range 4 256 (length text) (both (within 4 256 (length text)) (same (drop (length text - 3) text) dot_jp) E.ending).0

  pub usual_label : (P : Permits) → P.known ≡ true → {ks : Kinds} → held_told (Some ks) ≡ held_in P label → UsualLabel P label ks
  unfolding jp held_in
  usual_label P there_is q =
      let s = ending_sizes in
      let n : length label + 3 ≡ length text = sym (length-append label dot_jp) ∙ ap length E.parts in
      let fits = sym (ap (λ (x : Held). x.fit) q) in
      record { there_is = there_is; fit = fits; found = ap (λ (x : Held). x.kinds) q ∙ rw fits; some = omega arith; few = omega arith }

  -- what is said of the two is said of the text
  pub as_text : (P : Permits) {before after : List ℕ} {r : AsciiForm} → AsciiForms P (label ++ dot_jp) before after r → AsciiForms P text before after r
  as_text P a = rw E.parts at a

-- ---- the text

module _ (P : Permits) (stretch : InStretch P) (shorts : ShortMiddles P) (marks : Marks P) (label : List ℕ) {ks : Kinds} (w : UsualLabel P label ks) where
  abbrev text : List ℕ
  text = label ++ dot_jp

  -- what holds of what a label may hold and of the period holds of each character
  throughout : (f : ℕ → Bool) → ((c : ℕ) → label_char P c ≡ true → f c ≡ true) → f 0x2E ≡ true → all_of f text ≡ true
  unfolding all_of
  throughout f imp d =
      all_append f label dot_jp ∙ rw (all_weaker (label_char P) f imp label w.fit, d) (all_weaker (label_char P) f imp jp (jp_fits P stretch))

  form_is : normal_form text ≡ text
  unfolding unchanged replace replace_in is_half ranges range_in within
  form_is = unchanged_form text (throughout unchanged (λ c e. char_unchanged P stretch c e marks) refl)

  labels_are : labels (normal_form text) ≡ label ∷ jp ∷ []
  unfolding labels into_first period jp
  labels_are = ap labels form_is ∙ labels_cut label jp (no_period P stretch label w.fit)

  all_fit : any_of (unfit P) (normal_form text) ≡ false
  unfolding unfit period
  all_fit =
      ap (any_of (unfit P)) form_is
      ∙ all_none (λ (c : ℕ). period c || label_char P c) (unfit P) (λ c e. ap not e) text
      (throughout (λ (c : ℕ). period c || label_char P c) (λ c e. or_right (period c) (label_char P c) e) refl)

  ruled : rules P text ≡ by_labels P (label ∷ jp ∷ [])
  unfolding jp
  ruled =
      let n = length-append label dot_jp in
      text_on P text (front_0 P text (λ z. omega (arith, w.some)) (omega (arith, w.few)) all_fit) w.there_is refl ∙ ap (by_labels P) labels_are

  filled : any_of is_empty (label ∷ jp ∷ []) ≡ false
  unfolding jp
  filled = two_filled label jp (λ z. omega (arith, w.some)) (λ z. omega arith)

  -- ---- what is said of it

  module _ {j : Bool} (known : j ≡ any_found ks) where
    of_label : {a : Answer} → a ≡ first (known_rows P j of_name label 0) → a ≡ first (label_rows P of_name label 0)
    of_label told = told ∙ rows_are P marks.dot label of_name 0 (known ∙ ap any_found w.found ∙ sym (any_found_lem P label))

    pub usual_refused : {before : List ℕ} → 192 ≤ length before → (x : Refused) → refusal_told x ≡ first (known_rows P j of_name label 0)
        → AsciiForms P text before before (ascii_told (Err x))
    unfolding rules verdict
    usual_refused {before} room x told =
        let said = ruled ∙ name_left P (label ∷ jp ∷ []) refl filled (of_label told) (number_not_0 x.why) in
        ascii_refused P text before room x (ap (λ (v : Verdict). record { number = v.number; place = v.place }) said)

    module _ (told : taken ≡ first (known_rows P j of_name label 0)) where
      accepted_by : rules P text ≡ accepted General
      unfolding class_of
      accepted_by = ruled ∙ name_0 P (label ∷ jp ∷ []) refl filled (of_label told) refl (same_refl jp) refl

      clears : Clear (text_rows P text)
      unfolding rules verdict
      clears = text_cleared P text (ap (λ (v : Verdict). v.number) accepted_by)

      pub label_writable : writable P label ≡ true
      unfolding all_of
      label_writable = (both (writable P label) _ (ap (all_of (writable P)) (sym labels_are) ∙ (accepted_writable P shorts text clears).fit)).0

      -- what is put for the label, by which the buffer has become `after`
      module _ {before after : List ℕ} {r : Option ℕ} (t : PutsOrKeeps (not (uncoded P label)) (ascii_label P label) before after 0 r) where
        uncoded_is : any_of (uncoded P) (labels (normal_form text)) ≡ uncoded P label
        unfolding any_of uncoded
        uncoded_is = rw (labels_are, jp_ascii P stretch) (or-false _)

        pub usual_uncoded : 192 ≤ length before → r ≡ None → AsciiForms P text before after (refused_form 14 0)
        usual_uncoded room y =
            rw (t.kept (ap is_some y)) (ascii_uncoded P text before room clears (uncoded_is ∙ not-false (uncoded P label) (sym t.puts.coded ∙ ap is_some y)))

        module _ {n : ℕ} (y : r ≡ Some n) where
          coded : uncoded P label ≡ false
          coded = not-true (uncoded P label) (sym t.puts.coded ∙ ap is_some y)

          pub at_most : n ≤ 63
          at_most = omega (arith, (t.puts.put n y).place, label_size P label label_writable coded)

          form_ascii : ascii_form P (normal_form text) ≡ ascii_label P label ++ dot_jp
          unfolding ascii_form ascii_label join
          form_ascii = rw (labels_are, jp_ascii P stretch)

          pub usual_accepted : 192 ≤ length before → n + 3 ≤ length after → {last : List ℕ} → last ≡ dot_jp
              → AsciiForms P text before (take n after ++ (last ++ drop (n + 3 - n) (drop n after)))
              (record { number = 0; place = 0; class = General; kinds = ks; length = n + 3 })
          unfolding class_of written
          usual_accepted room l e =
              let puts = then (t.puts.put n y) (put_jp after n l e) in
              let size : n + 3 ≡ length (ascii_label P label ++ dot_jp) = omega (arith, puts.place) in
              ascii_accepted P text before room clears (uncoded_is ∙ coded) (rw labels_are) (rw labels_are w.found) (size ∙ ap length (sym form_ascii)) (puts.buffer ∙ rw (form_ascii, size))
