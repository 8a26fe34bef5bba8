-- The search box says yes exactly where the check, given room, answers 0, and counts by the check's own number and place: both say what the
-- rules say. It reads nothing exactly where the length alone refuses, and never more than 256 code points.
-- Assumes nothing.
use mathlib.Core.Path.{◌≡◌, refl, sym, ap, ◌∙◌}
use mathlib.Core.Bool.{true}
use mathlib.Core.List.{List}
use mathlib.Core.Logic.{◌⊎◌, ◌↔◌, inl, inr}
use Prim.Native.Nat.{ℕ, ◌≤◌, ◌<◌}
use native.Mathlib.Omega.{arith}
use lib.Dec.{eqb}
use lib.ListN.{length}
use borrow.Author.Tests.{eqb-true, eq-eqb}
use Rattle.lists.specs.Tests.{within}
use Rattle.lists.proofs.Laws.{in_range}
use Rattle.characters.specs.KanjiBits.{kanji_bits}
use Rattle.rules.specs.Permits.{Permits}
use Rattle.rules.specs.Editions.{today}
use Rattle.rules.specs.Verdicts.{Verdict}
use Rattle.rules.proofs.Editions.{today_laws, lending}
use Rattle.names.specs.Calls.{check_said, Checks}
use Rattle.names.specs.Calls.{Checked}
use Rattle.names.proofs.Demands.{check_says}
use Rattle.searches.specs.Searches.{read_by, searched_by, searched}
use Rattle.searches.specs.Examples.{AsAsked, as_asked}
use Rattle.searches.specs.declared.Searched.{Searched}
use Rattle.searches.proofs.Searching.{by_length, Ways, unread, stop, all, way}

-- ---- beside the check

module _ (P : Permits) {text before after : List ℕ} {c : Checked} (C : Checks P text before after c) (room : 256 ≤ length before) {r : Searched}
    (S : r ≡ searched P text) where
  pub as_checked : r ≡ searched_by (check_said c) (length text)
  unfolding searched
  as_checked = S ∙ ap (λ (v : Verdict). searched_by v (length text)) (sym (check_says P C room))

  pub yes_exactly : (r.yes ≡ true) ↔ (c.number ≡ 0)
  unfolding searched_by
  yes_exactly =
      let y : r.yes ≡ eqb c.number 0 = ap (λ (x : Searched). x.yes) as_checked in
      (λ e. eqb-true c.number 0 (sym y ∙ e), λ e. y ∙ eq-eqb c.number 0 e)

  pub count_is : r.read ≡ read_by (check_said c) (length text)
  unfolding searched_by
  count_is = ap (λ (x : Searched). x.read) as_checked

-- ---- the length alone

-- nothing is read exactly where the length alone refuses, and no more than 256 code points or than there are
abbrev pub Lengths : List ℕ → Searched → Type 0
Lengths text r = ((r.read ≡ 0) ↔ ((length text ≡ 0) ⊎ (256 < length text))) × (r.read ≤ 256) × (r.read ≤ length text)

module _ (P : Permits) (there_is : P.known ≡ true) (text : List ℕ) where
  pub lengths : Lengths text (searched P text)
  lengths = by_way (way P text there_is)
    where
      over : within 1 256 (length text) ≡ true → (length text ≡ 0) ⊎ (256 < length text) → ⊥
      over r (inl z) = omega (arith, (in_range 1 256 (length text) r).0)
      over r (inr z) = omega (arith, (in_range 1 256 (length text) r).1)

      by_way : {r : Searched} → Ways P text there_is r → Lengths text r
      by_way (unread e) = ((λ z. by_length (length text) e, λ z. refl), omega arith, omega arith)
      by_way (stop r h) = ((λ z. absurd (omega arith), λ z. absurd (over r z)), omega (arith, (in_range 1 256 (length text) r).1), omega arith)
      by_way (all r y) = ((λ z. inl z, λ z. absurd (over r z)), (in_range 1 256 (length text) r).1, omega arith)

-- ---- at the edition in force

module _ {text before after : List ℕ} {c : Checked} (C : Checks today text before after c) (room : 256 ≤ length before) {r : Searched}
    (S : r ≡ searched today text) where
  pub yes_today : (r.yes ≡ true) ↔ (c.number ≡ 0)
  yes_today = yes_exactly today C room S

  pub count_today : r.read ≡ read_by (check_said c) (length text)
  count_today = count_is today C room S

pub lengths_today : (text : List ℕ) → Lengths text (searched today text)
lengths_today = lengths today today_laws.there_is

pub asked_today : AsAsked today
asked_today = lending AsAsked 4 {table = kanji_bits} refl as_asked
