-- Past 256 code points there is no hope, by any edition and by a number that is none.
-- Assumes nothing.
use mathlib.Core.Path.{◌≡◌, refl}
use mathlib.Core.Bool.{false}
use mathlib.Core.List.{List}
use Prim.Native.Nat.{ℕ, ◌<◌}
use lib.ListN.{length}
use Rattle.lists.proofs.Laws.{by_test}
use Rattle.rules.specs.Editions.{is_edition, edition_of}
use Rattle.rules.specs.Hopeful.{hopeful}
use Rattle.rules.proofs.Hopeless.{past_hope}
use Rattle.rules.proofs.Editions.{edition_hope_laws}
use Rattle.rules.proofs.InForce.{unknown_hopeless}

pub past_hopeless : (e : ℕ) (t : List ℕ) → 256 < length t → hopeful (edition_of e) t ≡ false
past_hopeless e t long = by_test (λ b. is_edition e ≡ b → hopeful (edition_of e) t ≡ false) (is_edition e)
    (λ p q. past_hope (edition_of e) (edition_hope_laws e q).laws.middle_short t long) (λ p q. unknown_hopeless e q t) refl
