-- What the functions below the calls answer.
use Rattle.std.specs.Prelude.{true, Option, Some, None, List, [], ◌∷◌, ◌≡◌, ℕ, suc, eqb, ltb, length, get_or}
use Rattle.lists.specs.Tests.{pick, within, any_of, index_of}
use Rattle.characters.specs.Replace.{replace}
use Rattle.characters.specs.Compose.{composed}
use Rattle.normal.specs.Normal.{normal_form, places}
use Rattle.rules.specs.Permits.{Permits}
use Rattle.rules.specs.Rules.{unfit}

-- where the reading stops: at the place of refusal 4, or, where no character is unfit, at the end
unfoldable pub stops_at : Permits → List ℕ → ℕ
stops_at P text =
    let form = normal_form text in
    pick (any_of (unfit P) form) (get_or (places text) (index_of (unfit P) form) 0) (length text)

-- the walk from index i on, where these are left: it stops at what is unfit and joins nothing; `last` stands before
unfoldable pub stop_from : Permits → ℕ → ℕ → List ℕ → ℕ
stop_from P last i [] = i
stop_from P last i (c ∷ cs) =
    let x = replace c in
    let one = composed last x in
    pick (eqb one 0) (pick (unfit P x) i (stop_from P x (suc i) cs)) (stop_from P one (suc i) cs)

-- the index of a stop in a text of n code points, or none where it is past them
abbrev pub inside : ℕ → ℕ → Option ℕ
inside n stop = pick (ltb stop n) (Some stop) None

-- a text that is not refused for its length alone by an edition that there is, and where its reading stops
pub record Stops (P : Permits) (text : List ℕ) (stop : Option ℕ) : Type 0 where
  pub there_is : P.known ≡ true
  pub read : within 1 256 (length text) ≡ true
  pub place : stop ≡ inside (length text) (stops_at P text)
