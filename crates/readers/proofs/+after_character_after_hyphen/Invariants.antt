-- The two rules of the second reader meet their contracts: each hands the rest of the label on, and the rest is shorter.
-- Assumes nothing.
use lib.ListN.{length}
use Rattle.readers.proofs.+after_character_after_hyphen.Given as goal

abbrev pub decreases-after_character : goal.decreases-after_character
decreases-after_character l = length l.label.now

abbrev pub decreases-after_hyphen : goal.decreases-after_hyphen
decreases-after_hyphen l = length l.label.now
