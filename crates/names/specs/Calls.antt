-- What the calls on a name answer, and what they leave in the buffer that is lent to them: document 01, 'Numbers a
-- call may answer'.
use Rattle.std.specs.Prelude.{Result, Ok, Err, false, List, [], ◌∷◌, ◌++◌, ◌≡◌, ℕ, eqb, ltb, length, get_or}
use Rattle.lists.specs.Tests.{pick, any_of}
use Rattle.lists.specs.Rows.{Row, row, Gives}
use Rattle.lists.specs.Rows.{Answer}
use Rattle.normal.specs.Normal.{normal_form}
use Rattle.rules.specs.Labels.{labels}
use Rattle.rules.specs.Permits.{Permits}
use Rattle.rules.specs.Kinds.{kinds_in, no_kinds}
use Rattle.rules.specs.Places.{places_said, no_places}
use Rattle.rules.specs.declared.LabelPlaces.{LabelPlaces}
use Rattle.rules.specs.Verdicts.{Class, None, class_told}
use Rattle.refusals.specs.Refusals.{number_of}
use Rattle.refusals.specs.declared.Refused.{Refused}
use Rattle.names.specs.declared.AsciiName.{AsciiName}
use Rattle.names.specs.declared.Accepted.{Accepted}
use Rattle.names.specs.declared.Formed.{Formed}
use Rattle.fronts.specs.declared.Judgement.{Judgement}
use Rattle.rules.specs.Rules.{text_rows, verdict, rules}
use Rattle.rules.specs.declared.Kinds.{Kinds}
use Rattle.rules.specs.Verdicts.{Verdict}
use Rattle.fronts.specs.Fronts.{shown, padded}
use Rattle.ascii.specs.Ascii.{ascii_form, uncoded}

-- ---- the judge: what the rules say of a text, with where its labels stand and its normal form

pub record Judged : Type 0 where
  pub number : ℕ
  pub place : ℕ
  pub class : Class
  pub labels : LabelPlaces
  pub form : List ℕ
  pub length : ℕ

abbrev pub shown_told : Result Accepted Refused → List ℕ → ℕ → Judged
shown_told (Ok a) form n =
    record { number = 0; place = 0; class = class_told a.class; labels = a.labels; form = form; length = n }
shown_told (Err e) form n =
    record { number = number_of e.why; place = e.place; class = None; labels = no_places; form = form; length = n }

abbrev pub judge_told : Judgement Accepted → Judged
judge_told j = shown_told j.said j.form j.length

unfoldable pub judged : Permits → List ℕ → Judged
judged P text =
    let v = rules P text in
    record {
      number = v.number;
      place = v.place;
      class = v.class;
      labels = places_said (labels (normal_form text)) v.number;
      form = padded (shown text);
      length = length (shown text);
    }

-- ---- what a call that writes answers, from its rows and what it would write

-- `make` makes the call's struct of what is said and of the length of what is written
pub record Answers {R : Type 0} (make : Verdict → ℕ → R) (rows : List Row) (text xs before after : List ℕ) (r : R)
    : Type 0 where
  pub gives : Gives (λ (a : Answer) (n : ℕ). make (verdict a (labels (normal_form text))) n) rows xs before after r

-- ---- the check: 1 for a buffer under 256, then the rules; with 0 it says where the labels stand (document 02, K7) and
-- writes the normal form

pub record Checked : Type 0 where
  pub number : ℕ
  pub place : ℕ
  pub class : Class
  pub labels : LabelPlaces
  pub length : ℕ

abbrev pub check_told : Result Formed Refused → Checked
check_told (Ok f) = record { number = 0; place = 0; class = class_told f.class; labels = f.labels; length = f.length }
check_told (Err e) = record { number = number_of e.why; place = e.place; class = None; labels = no_places; length = 0 }

unfoldable pub check_rows : Permits → List ℕ → ℕ → List Row
check_rows P text room = row 1 (ltb room 256) 0 ∷ text_rows P text

abbrev pub checked : List (List ℕ) → Verdict → ℕ → Checked
checked ls v n =
    let stands = places_said ls v.number in
    record { number = v.number; place = v.place; class = v.class; labels = stands; length = n }

-- number, place and class of such an answer
abbrev pub check_said : Checked → Verdict
check_said r = record { number = r.number; place = r.place; class = r.class }

abbrev pub Checks : Permits → List ℕ → List ℕ → List ℕ → Checked → Type 0
Checks P text before after r =
    let form = normal_form text in
    Answers (checked (labels form)) (check_rows P text (length before)) text form before after r

-- ---- the whole ASCII form: 1 for a buffer under 192, the rules, then 14, which never comes of an accepted name
-- (proofs/Coded); with 0 it writes the form

pub record AsciiForm : Type 0 where
  pub number : ℕ
  pub place : ℕ
  pub class : Class
  pub kinds : Kinds
  pub length : ℕ

abbrev pub ascii_told : Result AsciiName Refused → AsciiForm
ascii_told (Ok f) = record { number = 0; place = 0; class = class_told f.class; kinds = f.kinds; length = f.length }
ascii_told (Err e) = record { number = number_of e.why; place = e.place; class = None; kinds = no_kinds; length = 0 }

unfoldable pub ascii_rows : Permits → List ℕ → ℕ → List Row
ascii_rows P text room =
    row 1 (ltb room 192) 0 ∷
    (text_rows P text ++
    row 14 (any_of (uncoded P) (labels (normal_form text))) 0 ∷
    [])

-- with 0 the kinds found in the leftmost of the labels, and none otherwise (document 02, K6)
unfoldable pub kinds_said : Permits → List (List ℕ) → ℕ → Kinds
kinds_said P ls number = pick (eqb number 0) (kinds_in P (get_or ls 0 [])) no_kinds

abbrev pub ascii_formed : Permits → List (List ℕ) → Verdict → ℕ → AsciiForm
ascii_formed P ls v n =
    let kinds = kinds_said P ls v.number in
    record { number = v.number; place = v.place; class = v.class; kinds = kinds; length = n }

-- number, place and class of an answer of this call
abbrev pub ascii_said : AsciiForm → Verdict
ascii_said r = record { number = r.number; place = r.place; class = r.class }

abbrev pub AsciiForms : Permits → List ℕ → List ℕ → List ℕ → AsciiForm → Type 0
AsciiForms P text before after r =
    let form = normal_form text in
    Answers (ascii_formed P (labels form)) (ascii_rows P text (length before)) text (ascii_form P form) before after r

-- the ASCII form of an accepted text is given (document 02, K4): 14 does not apply either
abbrev pub Coded : Permits → List ℕ → Type 0
Coded P text = any_of (uncoded P) (labels (normal_form text)) ≡ false

pub record FormGiven (P : Permits) (text : List ℕ) : Type 0 where
  pub accepted : (rules P text).number ≡ 0
  pub coded : Coded P text
