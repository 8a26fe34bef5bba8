-- A text is accepted as a host exactly where it has at most 256 code points, its normal form derives as a host, and its joined ASCII form has
-- at most 253 octets: the rows 2 to 10 and 17 say the first two (rules, proofs/Hosts), 14 never applies past them (Coded), and 19 is the last.
-- Assumes nothing.
use mathlib.Core.Path.{◌≡◌, ap, ◌∙◌}
use mathlib.Core.Bool.{true}
use mathlib.Core.List.{List}
use mathlib.Core.Logic.{◌↔◌}
use Prim.Native.Nat.{ℕ}
use lib.Dec.{ltb}
use borrow.Author.Tests.{ltb-false, le-ltb}
use Rattle.lists.specs.Tests.{all_of}
use Rattle.lists.specs.Rows.{Row, accepted, without, Clear}
use Rattle.lists.specs.Rows.{Answer}
use Rattle.lists.proofs.Laws.{all_append}
use Rattle.lists.proofs.Tables.{clear, refusing, accepted_clear, split_clear, join_clear, only, part_clear, whole_clear}
use Rattle.normal.specs.Normal.{normal_form}
use Rattle.rules.specs.Permits.{Permits, Laws}
use Rattle.rules.specs.Hosts.{host_text_rows}
use Rattle.rules.proofs.ByName.{host_refuses}
use Rattle.rules.proofs.Hosts.{clear_exactly}
use Rattle.hosts.specs.Hosts.{coded_rows, rows, host_rules, HostGranted}
use Rattle.hosts.proofs.Coded.{coded}

module _ (P : Permits) (text : List ℕ) where
  -- every row refuses
  pub all_refuse : refusing (rows P text) ≡ true
  unfolding rows coded_rows refusing all_of
  all_refuse = all_append (λ (r : Row). ltb 0 r.number) (host_text_rows P text) (coded_rows P (normal_form text)) ∙ rw (host_refuses P text)

  pub number_clear : (host_rules P text).number ≡ 0 → Clear (rows P text)
  unfolding host_rules
  number_clear e = accepted_clear (rows P text) all_refuse e

  -- number 0 alone says that it is accepted
  pub number_accepted : (host_rules P text).number ≡ 0 → host_rules P text ≡ accepted
  unfolding host_rules
  number_accepted e = clear (rows P text) (number_clear e)

module _ (P : Permits) (L : Laws P) (text : List ℕ) where
  -- 14 and 19 are taken apart by their numbers
  clear_granted : Clear (rows P text) → HostGranted P text
  unfolding rows coded_rows only
  clear_granted c =
      let k = split_clear (host_text_rows P text) (coded_rows P (normal_form text)) c in
      let h = (clear_exactly P L text).0 k.0 in
      record { few = h.0; derived = h.1; total = ltb-false _ _ (part_clear 19 (coded_rows P (normal_form text)) k.1).1.0 }

  granted_clear : HostGranted P text → Clear (rows P text)
  unfolding rows coded_rows without only
  granted_clear G =
      let c = (clear_exactly P L text).1 (G.few, G.derived) in
      join_clear (host_text_rows P text) (coded_rows P (normal_form text)) c
      (whole_clear 19 (coded_rows P (normal_form text)) (coded P L.stretch text c, tt) (le-ltb _ _ G.total, tt))

  pub accepted_exactly : (host_rules P text ≡ accepted) ↔ HostGranted P text
  unfolding host_rules
  accepted_exactly = (λ e. clear_granted (number_clear P text (ap (λ (a : Answer). a.number) e)), λ G. clear (rows P text) (granted_clear G))

  -- the same by the number alone
  pub number_granted : ((host_rules P text).number ≡ 0) ↔ HostGranted P text
  number_granted = (λ e. accepted_exactly.0 (number_accepted P text e), λ G. ap (λ (a : Answer). a.number) (accepted_exactly.1 G))
