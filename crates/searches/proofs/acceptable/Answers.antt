-- `acceptable` meets its contract: where the walk without a table stops at what could be no kanji every walk does; else the walk goes on from
-- there by the bits of the kanji, with which the edition is itself.
-- Assumes nothing.
use mathlib.Core.Path.{◌≡◌, refl, sym, ◌∙◌}
use mathlib.Core.Bool.{false}
use Prim.Native.Nat.{◌+◌}
use Rattle.characters.specs.KanjiBits.{kanji_bits}
use Rattle.rules.specs.Permits.{Permits}
use Rattle.rules.specs.Editions.{today}
use Rattle.rules.proofs.Editions.{today_laws, lending}
use Rattle.searches.specs.Searches.{searched}
use Rattle.searches.proofs.Tableless.{anyway, goes_on, comes_to_end}
use Rattle.searches.proofs.Searching.{said, lent_there, unread_so, stopped}
use Rattle.searches.proofs.Stops.{stopped_at}
use Rattle.searches.proofs.acceptable.Goals as goal
use Rattle.searches.proofs.acceptable.Goals.{in-Some+else-not-may_be_kanji, in_default, in-Some-stop, in-None}

pub returns-then-not-is_read : goal.returns-then-not-is_read
returns-then-not-is_read c = unread_so today _ today_laws.there_is (sym c.is_read.ensures ∙ c.if-not-is_read.true)

pub returns-then-not-may_be_kanji : goal.returns-then-not-may_be_kanji
returns-then-not-may_be_kanji c =
    let text = c.args.text.now in
    let r = sym c.is_read.ensures ∙ c.if-not-is_read.false in
    let h = stopped_at _ _ (sym c.in-Some.is ∙ c.first_stop-stop.ensures) in
    lending (λ (P : Permits). said false (c.in-Some.at + 1) ≡ searched P text) 4 {table = kanji_bits} refl
    (stopped _ text (lent_there kanji_bits) r (anyway kanji_bits text h.0 h.1 (sym c.may_be_kanji.ensures ∙ c.if-not-may_be_kanji.true)) h.1)

pub answered-requires : goal.answered-requires
answered-requires c =
    let table = c.kanji_table-kanji.result.now in
    let text = c.args.text.now in
    let e : c.match-stop.stop ≡ c.first_stop-stop.result =
    elim c.match-stop.branch [ in-Some+else-not-may_be_kanji w ↦ w.stop-is ∙ sym w.in-Some.is | in_default w ↦ w.stop-is ] in
    record {
      there_is = lent_there table;
      read = sym c.is_read.ensures ∙ c.if-not-is_read.false;
      place = elim c.match-stop-2.branch [
        | in-Some-stop w ↦ rw w.stop-is (goes_on table text (sym w.in-Some-stop.is ∙ e ∙ c.first_stop-stop.ensures) w.first_stop-stop-in-Some-stop.ensures)
        | in-None w ↦ rw w.stop-is (comes_to_end table text (sym w.in-None.is ∙ e ∙ c.first_stop-stop.ensures))
      ];
    }

pub returns : goal.returns
returns c = lending (λ (P : Permits). c.answered.result ≡ searched P c.args.text.now) 4 c.kanji_table-kanji.ensures c.answered.ensures
