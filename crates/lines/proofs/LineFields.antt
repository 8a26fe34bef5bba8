-- The fields of a line, on plain lists: a tab is there exactly where the first one stands before the end, and so of the name; what
-- makes a byte one of an id.
-- Assumes nothing.
use mathlib.Core.Path.{◌≡◌, refl, sym, ap, ◌∙◌}
use mathlib.Core.Bool.{Bool, true, false, cond, ◌||◌}
use mathlib.Core.Logic.{⊎_elim}
use mathlib.Core.List.{List}
use Prim.Native.Nat.{ℕ, suc, ◌+◌, ◌-◌, ◌≤◌, ◌<◌}
use native.Mathlib.Omega.{arith}
use lib.Dec.{eqb, leb, ltb}
use lib.ListN.{length, drop, length-drop}
use borrow.Author.Tests.{lt-ltb, le-ltb, leb-true, leb-false}
use Rattle.lists.specs.Tests.{within, any_of, all_of, index_of}
use Rattle.lists.proofs.Laws.{both, in_range, lt_or_le, index_bound}
use Rattle.std.specs.Bool.{then_some}
use Rattle.std.specs.Char.{is_ascii_alphanumeric}
use Rattle.std.specs.List.{position_or_len}
use Rattle.std.specs.Option.{unwrap_or}
use Rattle.std.specs.Prelude.{Option, None, Some}
use Rattle.lists.proofs.Chains.{position_is}
use Rattle.lists.proofs.Scan.{found, not_found}
use Rattle.lines.specs.declared.Stretch.{Stretch}
use Rattle.lines.specs.declared.TwoFields.{TwoFields}
use Rattle.lines.specs.Fields.{tab, name_of, one_tab, id_byte, good_id, field_at, fields_of, parts_of}

-- ---- where a byte was looked for

module _ (f : ℕ → Bool) (xs : List ℕ) where
  pub first_or_end : (r : Option ℕ) → r ≡ cond (ltb (position_or_len f xs) (length xs)) (Some (position_or_len f xs)) None → unwrap_or r (length xs) ≡ index_of f xs
  first_or_end r e =
      let n = position_is f xs in
      ⊎_elim (λ h. rw (e, n, lt-ltb (index_of f xs) (length xs) h) refl) (λ h. rw (e, n, le-ltb (index_of f xs) (length xs) h) (omega (arith, index_bound f xs)))
      (lt_or_le (index_of f xs) (length xs))

-- ---- a field, up to where a tab was looked for

-- the place past it, where there is a tab, and where there is none
pub next_past : (line : List ℕ) (at end : ℕ) → end ≡ at + index_of tab (drop at line) → end < length line → record { start = at; end = end; next = end + 1 } ≡ field_at line at
next_past line at end e h = rw (← e) (rw (lt-ltb end (length line) h))

pub next_at : (line : List ℕ) (at end : ℕ) → end ≡ at + index_of tab (drop at line) → length line ≤ end → record { start = at; end = end; next = end } ≡ field_at line at
next_at line at end e h = rw (← e) (rw (le-ltb end (length line) h))

-- where the field ends before the line does, reading goes on past the tab
pub past : (line : List ℕ) (at : ℕ) {r : Stretch} → r ≡ field_at line at → r.end < length line → r.next ≡ r.end + 1
past line at {r} e h =
    ap (λ (x : Stretch). x.next) (e ∙ sym (next_past line at r.end (ap (λ (x : Stretch). x.end) e) h))

-- ---- exactly one tab

module _ (line : List ℕ) (both : TwoFields) (e : both ≡ fields_of line) where
  tab_at : both.id.end ≡ index_of tab line
  tab_at = omega (arith, ap (λ (x : TwoFields). x.id.end) e)

  pub no_tab : length line ≤ both.id.end → None ≡ parts_of line
  unfolding parts_of one_tab
  no_tab h = simp (not_found tab line (omega (arith, tab_at)))

  module _ (h : both.id.end < length line) where
    past_tab : (field_at line 0).next ≡ suc (index_of tab line)
    past_tab =
        let id = ap (λ (x : TwoFields). x.id) e in
        let n : both.id.end + 1 ≡ suc (index_of tab line) = omega (arith, tab_at) in
        sym (ap (λ (x : Stretch). x.next) id) ∙ past line 0 id h ∙ n

    name_ends : both.name.end ≡ suc (index_of tab line) + index_of tab (name_of line)
    unfolding name_of
    name_ends = ap (λ (x : TwoFields). x.name.end) e ∙ ap (λ (n : ℕ). (field_at line n).end) past_tab

    name_length : length (name_of line) ≡ length line - suc (index_of tab line)
    unfolding name_of
    name_length = length-drop (suc (index_of tab line)) line

    some_tab : any_of tab line ≡ true
    some_tab = found tab line (omega (arith, tab_at))

    two_tabs : both.name.end < length line → None ≡ parts_of line
    unfolding parts_of one_tab
    two_tabs k = simp (some_tab, found tab (name_of line) (omega (arith, name_ends, name_length)))

    one_tab_lem : length line ≤ both.name.end → Some both.id.end ≡ parts_of line
    unfolding parts_of one_tab
    one_tab_lem k = simp (some_tab, not_found tab (name_of line) (omega (arith, name_ends, name_length))) (ap Some tab_at)

    pub at_most_one : (b : Bool) → b ≡ leb (length line) both.name.end → then_some b both.id.end ≡ parts_of line
    at_most_one true e = one_tab_lem (leb-true (length line) both.name.end (sym e))
    at_most_one false e = two_tabs (leb-false (length line) both.name.end (sym e))

-- ---- a byte of an id

-- digits, upper and lower case, as the library asks for them
in_turn : (p q r h : Bool) → ((r || p) || q) || h ≡ p || (q || (r || h))
in_turn true q true h = refl
in_turn true q false h = refl
in_turn false true true h = refl
in_turn false true false h = refl
in_turn false false true h = refl
in_turn false false false h = refl

pub id_byte_is : (b : ℕ) → is_ascii_alphanumeric b || eqb b 0x2D ≡ id_byte b
unfolding id_byte within
id_byte_is b = in_turn (within 0x41 0x5A b) (within 0x61 0x7A b) (within 0x30 0x39 b) (eqb b 0x2D)

-- ---- an id

module _ (id : List ℕ) where
  pub id_length : good_id id ≡ true → length id ≤ 32
  unfolding good_id
  id_length e = (in_range 1 32 (length id) (both (within 1 32 (length id)) (all_of id_byte id) e).0).1
