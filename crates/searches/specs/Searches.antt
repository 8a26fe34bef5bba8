-- Yes or no for the search box, and how many code points are read: document 02, K9. Both are said from what the rules
-- say of the text, over any edition; the calls ask the one in force.
use Rattle.std.specs.Prelude.{◌||◌, List, ℕ, ◌+◌, eqb, length}
use Rattle.lists.specs.Tests.{pick}
use Rattle.rules.specs.Permits.{Permits}
use Rattle.rules.specs.Rules.{rules}
use Rattle.rules.specs.Verdicts.{Verdict}
use Rattle.searches.specs.declared.Searched.{Searched}

-- how many are read of a text of n code points: 0 where the length alone refuses, with 4 its place and one more, else
-- all
unfoldable pub read_by : Verdict → ℕ → ℕ
read_by v n = pick (eqb v.number 2 || eqb v.number 3) 0 (pick (eqb v.number 4) (v.place + 1) n)

-- what is answered where the rules say v; yes exactly with 0
unfoldable pub searched_by : Verdict → ℕ → Searched
searched_by v n = record { yes = eqb v.number 0; read = read_by v n }

unfoldable pub searched : Permits → List ℕ → Searched
searched P text = searched_by (rules P text) (length text)
