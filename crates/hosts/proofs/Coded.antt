-- Of a host to which none of 2 to 10 and 17 applies the coder takes every label, since a Japanese one has at most 15 characters (ascii,
-- proofs/Coded). So 14 never comes: where its row is reached it does not apply. Nor does 8 (rules, proofs/Hosts).
-- Assumes nothing.
use mathlib.Core.Path.{◌≡◌, refl, sym, ap, ◌∙◌}
use mathlib.Core.Bool.{Bool, true, false, not}
use mathlib.Core.List.{List, [], ◌∷◌}
use Prim.Native.Nat.{ℕ}
use native.Mathlib.Omega.{arith}
use lib.Dec.{eqb, ltb}
use lib.ListN.{length}
use Rattle.lists.specs.Tests.{all_of, any_of}
use Rattle.lists.specs.Rows.{Row, row, Clear}
use Rattle.lists.specs.Rows.{Answer}
use Rattle.lists.proofs.Laws.{both, all_not}
use Rattle.lists.proofs.Tables.{clear_before, past_table, of_two, only, never_given}
use Rattle.normal.specs.Normal.{normal_form}
use Rattle.rules.specs.Labels.{labels}
use Rattle.rules.specs.Permits.{Permits, InStretch, label_char}
use Rattle.rules.specs.Rules.{long, pretends, front_rows}
use Rattle.rules.specs.Hosts.{of_host, host_rows, host_text_rows}
use Rattle.rules.specs.Editions.{today}
use Rattle.rules.proofs.Views.{Every, none, also}
use Rattle.rules.proofs.Cuts.{labels_fit}
use Rattle.rules.proofs.ByName.{Kept, each_numbers, clear_host}
use Rattle.rules.proofs.Derived.{left_size}
use Rattle.rules.proofs.Hosts as Hosts
use Rattle.rules.proofs.Editions.{today_laws}
use Rattle.ascii.specs.Ascii.{uncoded}
use Rattle.ascii.proofs.Coded.{label_fine}
use Rattle.hosts.specs.Hosts.{coded_rows, rows, host_rules, call_rows, HostForms}
use Rattle.refusals.specs.Refusals.{Filled}

-- ---- a law of each label

module _ (P : Permits) (f : List ℕ → Bool) (law : (l : List ℕ) → all_of (label_char P) l ≡ true → long P l ≡ false → pretends P of_host l ≡ false → f l ≡ true) where
  pub of_kept : {ls : List (List ℕ)} → all_of (all_of (label_char P)) ls ≡ true → Every (Kept P) ls → all_of f ls ≡ true
  unfolding all_of
  of_kept w none = refl
  of_kept w (also {x = l} k ks) = let a = both (all_of (label_char P) l) _ w in rw (law l a.0 k.0.few k.1) (of_kept a.1 ks)

  pub each_label : (text : List ℕ) → Clear (host_text_rows P text) → all_of f (labels (normal_form text)) ≡ true
  each_label text c = let k = clear_host P text c in of_kept (labels_fit P (normal_form text) k.0.fit) k.1.each

-- ---- none of 2 to 10 and 17 is 14

module _ (P : Permits) where
  text_not_14 : (text : List ℕ) → all_of (λ (r : Row). not (eqb r.number 14)) (host_text_rows P text) ≡ true
  unfolding host_text_rows front_rows host_rows all_of
  text_not_14 text = each_numbers P (λ n. not (eqb n 14)) refl 0 (labels (normal_form text))

  -- ---- 8 does not come

  pub never_8 : (text : List ℕ) → (host_rules P text).number ≡ 8 → ⊥
  unfolding host_rules rows coded_rows only
  never_8 text =
      of_two (λ (a : Answer). a.number ≡ 8 → ⊥) (host_text_rows P text) (coded_rows P (normal_form text)) (Hosts.never_8 P text)
      (never_given 8 (λ z. omega arith) (coded_rows P (normal_form text)) tt)

  -- ---- nor does 14

  module _ (stretch : InStretch P) (text : List ℕ) where
    pub coded : Clear (host_text_rows P text) → any_of (uncoded P) (labels (normal_form text)) ≡ false
    coded c =
        all_not (uncoded P) (labels (normal_form text))
        (each_label P (λ l. not (uncoded P l)) (λ l a k h. label_fine P stretch l a (λ q. rw q at (left_size P l k))) text c)

    pub never_14 : (host_rules P text).number ≡ 14 → ⊥
    unfolding host_rules rows coded_rows only
    never_14 e =
        let c = past_table 14 (host_text_rows P text) (coded_rows P (normal_form text)) (text_not_14 text) e in
        never_given 14 (λ z. omega arith) (coded_rows P (normal_form text)) (coded c, tt)
        (sym (ap (λ (a : Answer). a.number) (clear_before (host_text_rows P text) (coded_rows P (normal_form text)) c)) ∙ e)

    -- and of no text does the call answer 14
    pub form_never_14 : {before after : List ℕ} {r : Filled} → HostForms P text before after r → r.number ≡ 14 → ⊥
    unfolding call_rows host_rules only
    form_never_14 {before} F e =
        of_two (λ (a : Answer). a.number ≡ 14 → ⊥) (row 1 (ltb (length before) 255) 0 ∷ []) (rows P text)
        (never_given 14 (λ z. omega arith) (row 1 (ltb (length before) 255) 0 ∷ []) tt) never_14
        (sym (ap (λ (x : Filled). x.number) F.gives.result) ∙ e)

-- ---- at the edition in force

pub never_14_today : (text : List ℕ) → (host_rules today text).number ≡ 14 → ⊥
never_14_today = never_14 today today_laws.stretch

pub form_never_14_today : {text before after : List ℕ} {r : Filled} → HostForms today text before after r → r.number ≡ 14 → ⊥
form_never_14_today {text} = form_never_14 today today_laws.stretch text
