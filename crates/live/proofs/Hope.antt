-- What the live check says of hope after any code points is what `hopeful` says of them: the argument over any rules (Typing), at `hopeful`.
-- So it says yes exactly where some continuation of what was typed is accepted by the nightly rules.
-- Assumes nothing.
use mathlib.Core.Path.{◌≡◌, refl, sym, ap, ◌∙◌}
use mathlib.Core.Bool.{true, false}
use mathlib.Core.List.{List, ◌++◌}
use mathlib.Core.Logic.{◌↔◌}
use Prim.Native.Nat.{ℕ}
use lib.Dec.{ltb}
use lib.ListN.{take}
use Rattle.lists.specs.Tests.{pick, within}
use Rattle.lists.proofs.Laws.{by_test}
use Rattle.rules.specs.Permits.{Permits, ShortMiddles}
use Rattle.rules.specs.Editions.{is_edition, edition_of, today}
use Rattle.rules.specs.Hopeful.{MayBecome, hopeful, HopeLaws}
use Rattle.rules.proofs.Hopeless.{past_hope}
use Rattle.rules.proofs.Hopeful.{hopeful_exactly, accepted_hopeful, hopeless_stays}
use Rattle.rules.proofs.Editions.{edition_hope_laws}
use Rattle.rules.proofs.InForce.{unknown_hopeless}
use Rattle.live.specs.Live.{fresh, typed, looked_by, looked, hoped}
use Rattle.live.specs.declared.Live.{Live}
use Rattle.live.proofs.Typing.{edition_kept, live_is}
use Rattle.live.proofs.Nightly.{same_number}

module _ (E : ℕ → Permits) (e : ℕ) where
  -- past 256 there is no hope where the prefecture labels are short
  pub hope_is : ShortMiddles (E e) → (cs : List ℕ) → hoped E (typed (fresh e) cs) ≡ hopeful (E e) cs
  unfolding hoped
  hope_is short cs =
      ap (λ (k : ℕ). looked_by (hopeful (E k)) false (typed (fresh e) cs)) (edition_kept e cs)
      ∙ live_is (hopeful (E e)) false (past_hope (E e) short) e cs

  module _ (H : HopeLaws (E e)) where
    hope_here : (cs : List ℕ) → hoped E (typed (fresh e) cs) ≡ hopeful (E e) cs
    hope_here = hope_is H.laws.middle_short

    pub hope_exactly : (cs : List ℕ) → (hoped E (typed (fresh e) cs) ≡ true) ↔ MayBecome (E e) cs
    hope_exactly cs = let h = hopeful_exactly (E e) H cs in (λ q. h.0 (sym (hope_here cs) ∙ q), λ c. hope_here cs ∙ h.1 c)

    -- what is shown as accepted has hope
    pub accepted_hope : (cs : List ℕ) → (looked E (typed (fresh e) cs)).number ≡ 0 → hoped E (typed (fresh e) cs) ≡ true
    accepted_hope cs q = hope_here cs ∙ accepted_hopeful (E e) H cs (sym (same_number E e cs) ∙ q)

    -- once there is no hope, nothing that is typed brings it back
    pub hope_gone : (cs ds : List ℕ) → hoped E (typed (fresh e) cs) ≡ false → hoped E (typed (fresh e) (cs ++ ds)) ≡ false
    hope_gone cs ds q = hope_here (cs ++ ds) ∙ hopeless_stays (E e) H cs ds (sym (hope_here cs) ∙ q)

-- by a number that is no edition there is none, in any state
pub no_hope : (l : Live) → is_edition l.edition ≡ false → hoped edition_of l ≡ false
unfolding hoped looked_by
no_hope l unknown = by_test (λ b. pick b false (hopeful (edition_of l.edition) (take l.count l.text)) ≡ false) (ltb 256 l.count)
    (λ q. refl) (λ q. unknown_hopeless l.edition unknown _)

-- within each edition; at the edition in force
pub hope_edition : (e : ℕ) → is_edition e ≡ true → (cs : List ℕ) → (hoped edition_of (typed (fresh e) cs) ≡ true) ↔ MayBecome (edition_of e) cs
hope_edition e there_is = hope_exactly edition_of e (edition_hope_laws e there_is)

pub hope_today : (cs : List ℕ) → (hoped edition_of (typed (fresh 4) cs) ≡ true) ↔ MayBecome today cs
unfolding within
hope_today = hope_edition 4 refl
