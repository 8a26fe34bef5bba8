-- The batch: document 01, 'The batch'. What is written for an input, for any answer to a line.
use Rattle.std.specs.Prelude.{List, [], ◌∷◌, ◌++◌, ℕ}
use Rattle.lines.specs.Lines.{lines}

-- the answers of its lines, one after the other
unfoldable pub answers : (List ℕ → List ℕ) → List (List ℕ) → List ℕ
answers answer [] = []
answers answer (l ∷ ls) = answer l ++ answers answer ls

unfoldable pub batch : (List ℕ → List ℕ) → List ℕ → List ℕ
batch answer s = answers answer (lines s)
