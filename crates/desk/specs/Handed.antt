-- How many bytes of answers the program counts as handed to standard output, by the rules of the edition in force. What
-- these bytes are stands in the contracts of `batch`; that they are written, no contract can say (docs/STATES.md).
use Rattle.std.specs.Prelude.{List, ◌≡◌, ℕ, length}
use Rattle.rules.specs.Editions.{today}
use Rattle.answer.specs.Answer.{answer_to, bad_answer}
use Rattle.batch.specs.Stream.{after, wrote, ended}
use Rattle.batch.specs.declared.stream.Line.{Line}
use Rattle.desk.specs.declared.Carried.{Carried}

-- a piece that is fed to its end, after the line l: the line that is carried on, and the answers of the lines that end
-- in it
pub record FedAll (l : Line) (piece : List ℕ) (r : Carried) : Type 0 where
  pub next : r.line ≡ after l piece
  pub handed : r.count ≡ length (wrote (answer_to today) bad_answer l piece)

-- the end of the input, with the line l carried: its answer, where it has a byte
pub record EndTold (l : Line) (r : Carried) : Type 0 where
  pub line : r.line ≡ l
  pub handed : r.count ≡ length (ended (answer_to today) bad_answer l)
