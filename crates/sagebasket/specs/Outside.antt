-- What the calls of the outside answer, in numbers, and what they leave in the memory that is lent to them. A number is
-- told as it stands in documents 01 and 02; the rest of an answer is put into numbers here. What the calls below
-- promise is theirs, and is not said again.
use Rattle.std.specs.Prelude.{Bool, true, false, List, [], ◌∷◌, ◌++◌, ◌≡◌, ℕ, ◌+◌, take, get_or, replicate}
use Rattle.lists.specs.Tests.{pick}
use Rattle.rules.specs.Kinds.{no_kinds}
use Rattle.rules.specs.Places.{first_three, no_places}
use Rattle.rules.specs.Verdicts.{Class}
use Rattle.rules.specs.Verdicts.{None, General, Prefecture}
use Rattle.rules.specs.declared.Kinds.{Kinds}
use Rattle.rules.specs.declared.LabelPlaces.{LabelPlaces}
use Rattle.names.specs.Calls.{AsciiForm}
use Rattle.names.specs.Calls.{Checked}
use Rattle.names.specs.Calls.{Judged}
use Rattle.refusals.specs.Refusals.{Filled}
use Rattle.hosts.specs.Hosts.{HostJudged}
use Rattle.searches.specs.declared.Searched.{Searched}
use Rattle.wishes.specs.Wishes.{Wished}
use Rattle.live.specs.Live.{looked_by}
use Rattle.live.specs.declared.Live.{Live}
use Rattle.utf8.specs.Utf8.{decoded}

-- ---- an answer in numbers

-- yes or no
unfoldable pub flag : Bool → ℕ
flag b = pick b 1 0

unfoldable pub class_number : Class → ℕ
class_number None = 0
class_number General = 1
class_number Prefecture = 2

-- the kinds that are found, one bit for each
unfoldable pub kinds_number : Kinds → ℕ
kinds_number ks = pick ks.hiragana 1 0 + pick ks.katakana 2 0 + pick ks.kanji 4 0 + pick ks.sign 8 0

-- twelve numbers: number, place, class, kinds, length; the count of labels, three starts, three lengths
unfoldable pub numbers : ℕ → ℕ → Class → Kinds → ℕ → LabelPlaces → List ℕ
numbers number place class kinds length labels =
    number ∷ place ∷ class_number class ∷ kinds_number kinds ∷ length ∷ labels.count ∷
    (first_three labels.starts ++ first_three labels.lengths)

-- without class, kinds and labels
unfoldable pub unnamed : ℕ → ℕ → ℕ → List ℕ
unnamed number place length = numbers number place None no_kinds length no_places

-- the answers of the calls below; what a call does not tell is 0
unfoldable pub of_checked : Checked → List ℕ
of_checked r = numbers r.number r.place r.class no_kinds r.length r.labels

unfoldable pub of_ascii_form : AsciiForm → List ℕ
of_ascii_form r = numbers r.number r.place r.class r.kinds r.length no_places

unfoldable pub of_judged : Judged → List ℕ
of_judged r = numbers r.number r.place r.class no_kinds r.length r.labels

unfoldable pub of_host_form : Filled → List ℕ
of_host_form r = unnamed r.number r.place r.length

unfoldable pub of_host_judged : HostJudged → List ℕ
of_host_judged r = unnamed r.number r.place r.length

unfoldable pub of_encoded : Filled → List ℕ
of_encoded r = unnamed r.number r.place r.length

unfoldable pub of_decoded : Filled → List ℕ
of_decoded r = unnamed r.number r.place r.length

-- ---- what a call tells

-- a result that meets what the call below promises stands in the lent answer, in numbers, and its number is returned
pub record Tells {R : Type 0} (inNumbers : R → List ℕ) (Meets : R → Type 0) (answer : List ℕ) (n : ℕ) : Type 0 where
  pub result : R
  pub meets : Meets result
  pub told : answer ≡ inNumbers result
  pub number : n ≡ get_or answer 0 0

-- a call on a text in UTF-8: what it says of the code points; 16 where the octets are not UTF-8, and the buffer is left
pub data OfUtf8 (octets : List ℕ) (Says : List ℕ → Type 0) (before after answer : List ℕ) (n : ℕ) : Type 0 where
  read : (decoded octets).ok ≡ true → Says (decoded octets).codes → OfUtf8 octets Says before after answer n
  left : (decoded octets).ok ≡ false → answer ≡ unnamed 16 0 0 → n ≡ 16 → after ≡ before →
      OfUtf8 octets Says before after answer n

-- yes or no is returned, and the count stands where one number is lent
pub record Counts (s : Searched) (read n : ℕ) : Type 0 where
  pub said : n ≡ flag s.yes
  pub count : read ≡ s.read

-- first and second wish, in six numbers: which won, number and place of both checks, and how long the part is
unfoldable pub of_wished : Wished → ℕ → List ℕ
of_wished w part =
    w.won ∷ w.first.number ∷ w.first.place ∷ w.second.number ∷ w.second.place ∷ part ∷ []

-- these stand in the lent answer, and which wish won is returned
pub record Wins (w : Wished) (part : ℕ) (answer : List ℕ) (n : ℕ) : Type 0 where
  pub told : answer ≡ of_wished w part
  pub won : n ≡ w.won

-- ---- the live check

-- the state that 258 numbers hold: the text, how many code points, the edition
unfoldable pub held : List ℕ → Live
held s = record { edition = get_or s 257 0; text = take 256 s; count = get_or s 256 0 }

-- the text that a state holds; past 256, of which the rules say one thing whatever it is, 257 zeros stand for it
unfoldable pub held_text : Live → List ℕ
held_text l = looked_by (λ (text : List ℕ). text) (replicate 257 0) l

-- a look shows these numbers and this text, and returns the number
pub record Shows (xs text form answer : List ℕ) (n : ℕ) : Type 0 where
  pub shown : form ≡ text
  pub told : answer ≡ xs
  pub number : n ≡ get_or answer 0 0
