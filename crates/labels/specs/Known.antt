-- 7 to 10 and 17 (document 01, 'Numbers a call may answer'; document 02, K3) of a label that is taken for Japanese or
-- not, as the caller says.
-- Where it is what it is taken for they are the rows of the table (proofs/OfLabel: `rows_are`).
use Rattle.std.specs.Prelude.{Bool, ◌&&◌, List, [], ◌∷◌, ℕ}
use Rattle.lists.specs.Rows.{Row, row}
use Rattle.rules.specs.Permits.{Permits}
use Rattle.rules.specs.Rules.{hyphen_edge, short_as, long_as, pretends_as, bare_dot}
use Rattle.rules.specs.declared.Asks.{Asks}

unfoldable pub known_rows : Permits → Bool → Asks → List ℕ → ℕ → List Row
known_rows P japanese A l at =
    row 7 (hyphen_edge l) at ∷
    row 8 (short_as japanese A.least l) at ∷
    row 9 (long_as japanese l) at ∷
    row 17 (pretends_as japanese A l) at ∷
    row 10 (japanese && bare_dot P l) at ∷
    []
