-- What the functions below the calls answer: the rules of a text with its normal form, and what they ask of a form.
use Rattle.std.specs.Prelude.{Bool, true, false, Option, Some, None, List, ◌≡◌, ℕ, ◌+◌, ◌≤◌, ltb, length}
use Rattle.lists.specs.Tests.{pick, any_of, all_of, index_of}
use Rattle.lists.specs.Front.{written}
use Rattle.rules.specs.Labels.{labels}
use Rattle.rules.specs.Permits.{Permits}
use Rattle.fronts.specs.Fronts.{shown}
use Rattle.ascii.specs.Ascii.{ascii_label, ascii_form, uncoded, writable}
use Rattle.hosts.specs.Hosts.{host_rules}
use Rattle.refusals.specs.Refusals.{told}
use Rattle.hosts.specs.declared.judges.Ruled as one

-- what the rules say of a text, and how long its normal form is
pub record Ruled : Type 0 where
  pub number : ℕ
  pub place : ℕ
  pub length : ℕ

abbrev pub ruled_told : one.Ruled → Ruled
ruled_told r = record { number = (told r.said).number; place = (told r.said).place; length = r.length }

-- the normal form stands at the buffer's start
pub record Judges (P : Permits) (text before after : List ℕ) (r : Ruled) : Type 0 where
  pub result : r ≡ record {
    number = (host_rules P text).number;
    place = (host_rules P text).place;
    length = length (shown text);
  }
  pub buffer : after ≡ written (shown text) before

-- the index of the first label of which a test holds
unfoldable pub first_label : (List ℕ → Bool) → List (List ℕ) → Option ℕ
first_label f ls = pick (ltb (index_of f ls) (length ls)) (Some (index_of f ls)) None

-- how many octets the ASCII form of a label has, if the coder takes it
unfoldable pub octets : Permits → List ℕ → Option ℕ
octets P l = pick (uncoded P l) None (Some (length (ascii_label P l)))

-- the ASCII form of a label can be put from `at` on: it has at most 63 octets, the coder takes it, and there is room
pub record Ready (P : Permits) (l : List ℕ) (at room : ℕ) : Type 0 where
  pub fit : writable P l ≡ true
  pub coded : uncoded P l ≡ false
  pub fits : at + length (ascii_label P l) ≤ room

-- the same of every label of a form, joined
pub record AllReady (P : Permits) (form : List ℕ) (room : ℕ) : Type 0 where
  pub fit : all_of (writable P) (labels form) ≡ true
  pub coded : any_of (uncoded P) (labels form) ≡ false
  pub fits : length (ascii_form P form) ≤ room
