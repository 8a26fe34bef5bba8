-- `put_kinds` meets its contract: four letters at most, each put where the last one ended; where the place has not moved there is none.
-- Assumes nothing.
use native.Mathlib.Omega.{arith}
use Rattle.lists.proofs.Pieces.{then}
use Rattle.characters.specs.Characters.{kind_letter}
use Rattle.answer.specs.Answer.{kind_letters}
use Rattle.answer.proofs.Pieces.{each_length, letters_put, hyphen_put}
use Rattle.answer.proofs.put_kinds.Goals as goal

pub put_found-b-requires : goal.put_found-b-requires
unfolding kind_letter
put_found-b-requires c = let ks = c.args.kinds in omega (arith, each_length ks)

pub put_found-c-requires : goal.put_found-c-requires
unfolding kind_letter
put_found-c-requires c = let ks = c.args.kinds in omega (arith, each_length ks)

pub put_found-d-requires : goal.put_found-d-requires
unfolding kind_letter
put_found-d-requires c = let ks = c.args.kinds in omega (arith, each_length ks)

pub returns-then-d-n : goal.returns-then-d-n
unfolding kind_letters kind_letter
returns-then-d-n c =
    hyphen_put c.args.kinds
    (then (then (then c.put_found-a.ensures c.put_found-b.ensures) c.put_found-c.ensures) c.put_found-d.ensures)
    c.if-d-n.true c.put_byte.ensures

pub returns-else-d-n : goal.returns-else-d-n
unfolding kind_letters kind_letter
returns-else-d-n c =
    letters_put c.args.kinds
    (then (then (then c.put_found-a.ensures c.put_found-b.ensures) c.put_found-c.ensures) c.put_found-d.ensures)
    c.if-d-n.false
