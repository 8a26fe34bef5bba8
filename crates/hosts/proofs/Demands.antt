-- The call for the ASCII form accepts exactly the hosts, from its statement alone: with room row 1 does not apply, so it says what the rules
-- say. With 0 it writes the joined form, and with every refusal nothing. And the minus sign 2212 is a hyphen to it (document 02, K2).
-- Assumes nothing.
use mathlib.Core.Path.{◌≡◌, sym, ap, ◌∙◌}
use mathlib.Core.List.{List}
use mathlib.Core.Logic.{◌↔◌}
use Prim.Native.Nat.{ℕ, ◌≤◌}
use lib.Dec.{ltb}
use lib.ListN.{length}
use borrow.Author.Tests.{le-ltb}
use Rattle.lists.specs.Tests.{all_of}
use Rattle.lists.specs.Front.{written}
use Rattle.lists.specs.Rows.{first}
use Rattle.lists.specs.Rows.{Answer}
use Rattle.lists.proofs.Tables.{passed_over, clear, refusing, accepted_clear, gave_all, gave_none}
use Rattle.normal.specs.Normal.{normal_form}
use Rattle.rules.specs.Permits.{Permits, Laws}
use Rattle.rules.specs.Hosts.{host_text_rows}
use Rattle.rules.specs.Editions.{today}
use Rattle.rules.proofs.Minus.{with_hyphens, minus_length, minus_form, minus_front}
use Rattle.rules.proofs.Editions.{today_laws}
use Rattle.fronts.specs.Fronts.{shown}
use Rattle.ascii.specs.Ascii.{ascii_form}
use Rattle.hosts.specs.Hosts.{rows, host_rules, HostGranted, host_judged, call_rows, host_formed, HostForms}
use Rattle.refusals.specs.Refusals.{Filled}
use Rattle.hosts.proofs.Exactly.{all_refuse, number_granted}

module _ (P : Permits) {text before after : List ℕ} {r : Filled} (F : HostForms P text before after r) where
  abbrev said : Answer
  said = first (call_rows P text (length before))

  number_is : r.number ≡ said.number
  number_is = ap (λ (x : Filled). x.number) F.gives.result

  -- ---- what is written

  pub host_written : r.number ≡ 0 → (after ≡ written (ascii_form P (normal_form text)) before) × (r.length ≡ length (ascii_form P (normal_form text)))
  host_written z = let g = gave_all host_formed _ _ before F.gives (sym number_is ∙ z) in (g.0, ap (λ (x : Filled). x.length) g.1)

  -- there was room then, and the rules accept
  pub host_accepts : r.number ≡ 0 → (host_rules P text).number ≡ 0
  unfolding call_rows host_rules refusing all_of
  host_accepts z =
      let c = accepted_clear (call_rows P text (length before)) (all_refuse P text) (sym number_is ∙ z) in
      ap (λ (a : Answer). a.number) (clear (rows P text) c.1)

  -- a refusal of any kind leaves the buffer as it was
  pub host_kept : (r.number ≡ 0 → ⊥) → (after ≡ before) × (r.length ≡ 0)
  host_kept n = let g = gave_none host_formed _ _ before F.gives (λ z. n (number_is ∙ z)) in (g.0, ap (λ (x : Filled). x.length) g.1)

  -- ---- with room

  module _ (room : 255 ≤ length before) where
    said_is : said ≡ host_rules P text
    unfolding call_rows host_rules
    said_is = passed_over 1 (ltb (length before) 255) 0 (rows P text) (le-ltb (length before) 255 room)

    pub host_says : (r.number ≡ (host_rules P text).number) × (r.place ≡ (host_rules P text).place)
    host_says = (number_is ∙ ap (λ (a : Answer). a.number) said_is, ap (λ (x : Filled). x.place) F.gives.result ∙ ap (λ (a : Answer). a.place) said_is)

    pub host_granted : Laws P → (r.number ≡ 0) ↔ HostGranted P text
    host_granted L = let g = number_granted P L text in (λ z. g.0 (sym host_says.0 ∙ z), λ G. host_says.0 ∙ g.1 G)

-- at the edition in force
pub host_today : {text before after : List ℕ} {r : Filled} → HostForms today text before after r → 255 ≤ length before
    → (r.number ≡ 0) ↔ HostGranted today text
host_today F room = host_granted today F room today_laws

-- ---- a text with 2D in place of each 2212 is answered alike

module _ (P : Permits) (t : List ℕ) where
  minus_host_rows : rows P (with_hyphens t) ≡ rows P t
  unfolding rows host_text_rows
  minus_host_rows = rw (minus_front P t, minus_form t)

  pub minus_host_judged : host_judged P (with_hyphens t) ≡ host_judged P t
  unfolding host_judged host_rules shown
  minus_host_judged = rw (minus_host_rows, minus_form t, minus_length t)

  pub minus_host_form : {before after : List ℕ} {r : Filled} → HostForms P (with_hyphens t) before after r → HostForms P t before after r
  unfolding call_rows
  minus_host_form F = record { gives = rw (minus_host_rows, minus_form t) at F.gives }
