-- The live check: document 01, 'The live check', with the editions of document 02, K12. A state, what a step makes of it,
-- what a look shows, and whether what was typed may yet become a name, of any state.
use Rattle.std.specs.Prelude.{Bool, false, List, [], ◌∷◌, ◌≡◌, ℕ, ◌+◌, ltb, take, set, replicate}
use Rattle.lists.specs.Tests.{pick}
use Rattle.names.specs.Calls.{judged}
use Rattle.names.specs.Calls.{Judged}
use Rattle.rules.specs.Permits.{Permits}
use Rattle.rules.specs.Places.{no_places}
use Rattle.rules.specs.Hopeful.{hopeful}
use Rattle.rules.specs.Verdicts.{Verdict}
use Rattle.rules.specs.Verdicts.{None}
use Rattle.live.specs.declared.Live.{Live}

-- it has read nothing, and is given its edition, any number (document 02, K12)
unfoldable pub fresh : ℕ → Live
fresh edition = record { edition = edition; text = replicate 256 0; count = 0 }

-- a state with another edition
abbrev pub given : ℕ → Live → Live
given edition l = record { edition = edition; text = l.text; count = l.count }

-- one code point more; 257 stands for more than 256, however many; the edition is kept
unfoldable pub stepped : Live → ℕ → Live
stepped l c =
    pick (ltb l.count 256)
    (record { edition = l.edition; text = set l.text l.count c; count = l.count + 1 })
    (record { edition = l.edition; text = l.text; count = 257 })

-- what steps make of a state
unfoldable pub typed : Live → List ℕ → Live
typed l [] = l
typed l (c ∷ cs) = typed (stepped l c) cs

-- what a look shows, for any rules that say something of a text, and say `over` of every text past 256
unfoldable pub looked_by : {A : Type 0} → (List ℕ → A) → A → Live → A
looked_by says over l = pick (ltb 256 l.count) over (says (take l.count l.text))

-- at the rules of a name: past 256 it shows 3 at place 256, or 25 at place 0 where there is no such edition (document
-- 02, K12); no label (K7) and an empty text
unfoldable pub no_text : ℕ → ℕ → Judged
no_text number place =
    record { number = number; place = place; class = None; labels = no_places; form = replicate 256 0; length = 0 }

unfoldable pub too_long : Bool → Judged
too_long known = pick known (no_text 3 256) (no_text 25 0)

-- by the edition of the state, out of all editions
unfoldable pub looked : (ℕ → Permits) → Live → Judged
looked editions l = let P = editions l.edition in looked_by (judged P) (too_long P.known) l

-- a look shows a refusal: its number and place, no class and no label
pub record Refused (n p : ℕ) (j : Judged) : Type 0 where
  pub number : j.number ≡ n
  pub place : j.place ≡ p
  pub class : j.class ≡ None
  pub labels : j.labels ≡ no_places

-- a look, and what a nightly call says: the same number, place and class
pub record Agrees (j : Judged) (v : Verdict) : Type 0 where
  pub number : j.number ≡ v.number
  pub place : j.place ≡ v.place
  pub class : j.class ≡ v.class

-- whether what was typed may yet become a name of the edition; past 256 it may not
unfoldable pub hoped : (ℕ → Permits) → Live → Bool
hoped editions l = looked_by (hopeful (editions l.edition)) false l
