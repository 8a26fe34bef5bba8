-- `decode` meets its contract: each return is one of the answers, by the room, the length, and whether a label is found.
-- Assumes nothing.
use mathlib.Core.Path.{◌≡◌, refl, sym, ap, ◌∙◌}
use mathlib.Core.List.{map}
use native.Mathlib.Omega.{arith}
use Rattle.lists.specs.Front.{written}
use Rattle.punycode.specs.Calls.{lower}
use Rattle.punycode.specs.Decoding.{found}
use Rattle.punycode.proofs.Answers.{decodes_small, decodes_long, decodes_left, decodes_taken}
use Rattle.punycode.proofs.Rungs.{lowered}
use Rattle.punycode.proofs.decode.Goals as goal

pub returns-then-out-lt-ROOM : goal.returns-then-out-lt-ROOM
returns-then-out-lt-ROOM c = rw c.at.ensures (decodes_small c.args.octets.now _ _ c.if-out-lt-ROOM.true refl)

pub returns-then-octets-gt-ROOM : goal.returns-then-octets-gt-ROOM
returns-then-octets-gt-ROOM c = rw c.at-then-octets-gt-ROOM.ensures (decodes_long c.args.octets.now _ _ c.if-out-lt-ROOM.false c.if-octets-gt-ROOM.true refl)

pub returns-in_default : goal.returns-in_default
returns-in_default c =
    let octets = c.args.octets.now in
    let low : c.make_ascii_lowercase.new.self ≡ map lower octets = c.make_ascii_lowercase.ensures.after ∙ rw c.copy_from_slice.ensures.after (lowered octets) in
    rw c.at-in_default.ensures (decodes_left octets _ _ c.if-out-lt-ROOM.false (ap found (sym low) ∙ c.in_default.ensures.1) refl)

pub returns : goal.returns
returns c =
    let octets = c.args.octets.now in
    let low : c.make_ascii_lowercase.new.self ≡ map lower octets = c.make_ascii_lowercase.ensures.after ∙ rw c.copy_from_slice.ensures.after (lowered octets) in
    let l = c.in-Some in
    decodes_taken octets _ _ c.if-out-lt-ROOM.false l.label _ (ap found (sym low) ∙ l.ensures.1) (omega arith) refl
    (unfold written in rw c.copy_from_slice-2.ensures.after refl)
