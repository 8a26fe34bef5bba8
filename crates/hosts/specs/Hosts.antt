-- A nameserver's host name: what the rules say of a text with 14 and 19, which need the coder, and what the calls answer
-- and leave in the buffer that is lent to them: document 02, K10.
use Rattle.std.specs.Prelude.{List, [], ◌∷◌, ◌++◌, ℕ, ◌≤◌, ltb, length}
use Rattle.lists.specs.Tests.{any_of, index_of}
use Rattle.lists.specs.Rows.{Row, row, first, Gives}
use Rattle.lists.specs.Rows.{Answer}
use Rattle.normal.specs.Normal.{normal_form}
use Rattle.rules.specs.Labels.{labels}
use Rattle.rules.specs.Permits.{Permits}
use Rattle.rules.specs.Hosts.{host_text_rows, host}
use Rattle.fronts.specs.Fronts.{shown, padded}
use Rattle.refusals.specs.Refusals.{told}
use Rattle.fronts.specs.declared.Judgement.{Judgement}
use Rattle.ascii.specs.Ascii.{ascii_form, uncoded}
use Rattle.refusals.specs.Refusals.{Filled}

-- ---- the rules

-- 19: a joined ASCII form of n octets has more than 253
abbrev pub total_row : ℕ → Row
total_row n = row 19 (ltb 253 n) 0

-- 14 for the first label that the coder refuses, its index as place (of a host it never does: proofs/Coded); then 19
-- for the total
unfoldable pub coded_rows : Permits → List ℕ → List Row
coded_rows P form =
    row 14 (any_of (uncoded P) (labels form)) (index_of (uncoded P) (labels form)) ∷
    total_row (length (ascii_form P form)) ∷
    []

-- 2 to 19, of an application text
unfoldable pub rows : Permits → List ℕ → List Row
rows P text = host_text_rows P text ++ coded_rows P (normal_form text)

-- ONE set of rules: what is said of a text as a host, given room
unfoldable pub host_rules : Permits → List ℕ → Answer
host_rules P text = first (rows P text)

-- what a text must be to be accepted as a host: at most 256 code points, whose normal form is three host labels or more
-- joined by periods, and whose joined ASCII form has at most 253 octets
pub record HostGranted (P : Permits) (text : List ℕ) : Type 0 where
  pub few : length text ≤ 256
  pub derived : host P (normal_form text)
  pub total : length (ascii_form P (normal_form text)) ≤ 253

-- ---- the judge: what the rules say of a text, with its normal form

pub record HostJudged : Type 0 where
  pub number : ℕ
  pub place : ℕ
  pub form : List ℕ
  pub length : ℕ

abbrev pub host_told : Judgement (Unit {0}) → HostJudged
host_told j = record { number = (told j.said).number; place = (told j.said).place; form = j.form; length = j.length }

unfoldable pub host_judged : Permits → List ℕ → HostJudged
host_judged P text = record {
  number = (host_rules P text).number;
  place = (host_rules P text).place;
  form = padded (shown text);
  length = length (shown text);
}

-- ---- the ASCII form: 1 for a buffer under 255, then the rules; with 0 it writes the joined form

unfoldable pub call_rows : Permits → List ℕ → ℕ → List Row
call_rows P text room = row 1 (ltb room 255) 0 ∷ rows P text

abbrev pub host_formed : Answer → ℕ → Filled
host_formed a n = record { number = a.number; place = a.place; length = n }

pub record HostForms (P : Permits) (text before after : List ℕ) (r : Filled) : Type 0 where
  pub gives : Gives host_formed (call_rows P text (length before)) (ascii_form P (normal_form text)) before after r
