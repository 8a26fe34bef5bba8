-- `feed_all` meets its contract: what is left after each turn is still to be fed, and the answers so far are handed out.
-- Assumes nothing.
use Rattle.std.proofs.Common.{◌≡◌, ◌≤◌, length}
use Rattle.characters.specs.KanjiBits.{kanji_bits}
use Rattle.desk.proofs.Pieces.{Kept}
use Rattle.desk.proofs.feed_all.Given as goal

abbrev pub invariant-loop-rest : goal.invariant-loop-rest
invariant-loop-rest g l = record {
  table : l.kanji ≡ kanji_bits;
  short : length l.piece ≤ 65536;
  kept : Kept l.piece l.rest l.initial.out l.out l.initial.line l.line l.count;
}

abbrev pub decreases-loop-rest : goal.decreases-loop-rest
decreases-loop-rest g l = length l.rest
