-- The lines of an input: document 01, 'The batch'. Bytes are numbers below 256.
use Rattle.std.specs.Prelude.{Bool, List, [], ◌∷◌, ◌++◌, ℕ, eqb}
use Rattle.lists.specs.Tests.{pick}

unfoldable pub lf : ℕ → Bool
lf b = eqb b 0x0A

-- the lines of an input, of which the line at hand has p already: LF ends a line, a last line without LF counts, empty
-- input has no line
unfoldable pub lines_from : List ℕ → List ℕ → List (List ℕ)
lines_from [] [] = []
lines_from (a ∷ p) [] = (a ∷ p) ∷ []
lines_from p (b ∷ s) = pick (lf b) (p ∷ lines_from [] s) (lines_from (p ++ b ∷ []) s)

unfoldable pub lines : List ℕ → List (List ℕ)
lines s = lines_from [] s
