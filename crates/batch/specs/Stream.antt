-- The batch by pieces that know nothing of lines: the line that is carried from piece to piece, what a piece writes,
-- how much of it is used where room is short, and what the end of the input writes. That this is the batch is in
-- proofs/AnyPieces.
use Rattle.std.specs.Prelude.{List, [], ◌∷◌, ◌++◌, ℕ, suc, ◌+◌, ◌-◌, eqb, leb, ltb, length, take, set, replicate}
use Rattle.lists.specs.Tests.{pick}
use Rattle.lines.specs.Lines.{lf}
use Rattle.answer.specs.Answers.{most}
use Rattle.batch.specs.declared.stream.Line.{Line}

-- no byte yet
unfoldable pub fresh : Line
fresh = record { held = replicate 1024 0; n = 0 }

-- one byte more; 1,025 says that there were more than 1,024
unfoldable pub pushed : Line → ℕ → Line
pushed l b =
    pick (ltb l.n 1024)
    (record { held = set l.held l.n b; n = l.n + 1 })
    (record { held = l.held; n = 1025 })

-- these bytes more, with no LF among them
unfoldable pub pushed_all : Line → List ℕ → Line
pushed_all l [] = l
pushed_all l (b ∷ s) = pushed_all (pushed l b) s

-- the line that is carried on after a piece
unfoldable pub after : Line → List ℕ → Line
after l [] = l
after l (b ∷ s) = pick (lf b) (after fresh s) (after (pushed l b) s)

-- for any answer to a line of up to 1,024 bytes, and the one of every longer line
module _ (answer : List ℕ → List ℕ) (bad : List ℕ) where
  -- the answer to the carried line, at its end
  unfoldable pub closed : Line → List ℕ
  closed l = pick (leb l.n 1024) (answer (take l.n l.held)) bad

  -- what a piece writes
  unfoldable pub wrote : Line → List ℕ → List ℕ
  wrote l [] = []
  wrote l (b ∷ s) = pick (lf b) (closed l ++ wrote fresh s) (wrote (pushed l b) s)

  -- what the end of the input writes: a last line without LF counts
  unfoldable pub ended : Line → List ℕ
  ended l = pick (eqb l.n 0) [] (closed l)

  -- all that a run over some pieces writes
  unfoldable pub run : Line → List (List ℕ) → List ℕ
  run l [] = ended l
  run l (c ∷ cs) = wrote l c ++ run (after l c) cs

  -- how much of a piece is used where the buffer has this much room: a line is ended only where the longest answer
  -- fits, so a piece is used up to its end, or up to its start or a place right after an LF where less than that is
  -- left
  unfoldable pub used_from : Line → List ℕ → ℕ → ℕ
  used_from l [] room = 0
  used_from l (b ∷ s) room =
      pick (lf b)
      (pick (leb most (room - length (closed l))) (suc (used_from fresh s (room - length (closed l)))) 1)
      (suc (used_from (pushed l b) s room))

  unfoldable pub used : Line → List ℕ → ℕ → ℕ
  used l s room = pick (leb most room) (used_from l s room) 0
