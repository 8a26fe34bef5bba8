-- What the functions below the calls answer: the rules of a text with its normal form, the labels of a form, the parts
-- of an ASCII form, the usual name.
use Rattle.std.specs.Prelude.{Bool, true, false, ◌&&◌, List, ◌∷◌, ◌++◌, ◌⊎◌, ◌≡◌, Option, Some, ℕ, ◌-◌, ◌*◌, ◌≤◌, length, drop}
use Rattle.std.specs.Option.{is_some}
use Rattle.lists.specs.Tests.{within, all_of, same}
use Rattle.lists.specs.Front.{written, Puts}
use Rattle.rules.specs.Labels.{labels}
use Rattle.rules.specs.Permits.{Permits, label_char}
use Rattle.rules.specs.Kinds.{kinds_in, no_kinds}
use Rattle.rules.specs.Places.{no_places}
use Rattle.rules.specs.Rules.{jp, rules}
use Rattle.rules.specs.Verdicts.{None}
use Rattle.rules.specs.declared.Kinds.{Kinds}
use Rattle.fronts.specs.Fronts.{shown, Fronted, Fronts}
use Rattle.ascii.specs.Ascii.{writable}
use Rattle.names.specs.Calls.{AsciiForm}
use Rattle.names.specs.Calls.{Checked}
use Rattle.rules.specs.Verdicts.{Class, Verdict, verdict_told}
use Rattle.names.specs.declared.judges.Ruled as one

-- what is said by what the front of a text told, and by the form that it left in a buffer with room, is what the rules
-- say of the text
abbrev pub Says : Permits → List ℕ → Fronted → Verdict → Type 0
Says P form front v =
    (text before : List ℕ) → 256 ≤ length before → Fronts P text before form front → v ≡ rules P text

-- what the rules say of a text, and how long its normal form is
pub record Ruled : Type 0 where
  pub number : ℕ
  pub place : ℕ
  pub class : Class
  pub length : ℕ

abbrev pub ruled_told : one.Ruled → Ruled
ruled_told r =
    let v = verdict_told r.said in
    record { number = v.number; place = v.place; class = v.class; length = r.length }

-- the normal form stands at the buffer's start
pub record Judges (P : Permits) (text before after : List ℕ) (r : Ruled) : Type 0 where
  pub result : r ≡ record {
    number = (rules P text).number;
    place = (rules P text).place;
    class = (rules P text).class;
    length = length (shown text);
  }
  pub buffer : after ≡ written (shown text) before

-- the check's answer of a refusal
abbrev pub refused_check : ℕ → ℕ → Checked
refused_check n p = record { number = n; place = p; class = None; labels = no_places; length = 0 }

-- ---- the labels of a form

abbrev pub TwoOrThree : List ℕ → Type 0
TwoOrThree form = (length (labels form) ≡ 2) ⊎ (length (labels form) ≡ 3)

-- ---- the parts of an ASCII form

-- the answer of a refusal
abbrev pub refused_form : ℕ → ℕ → AsciiForm
refused_form n p = record { number = n; place = p; class = None; kinds = no_kinds; length = 0 }

-- each label of a form is writable, and there is room for 64 octets of each
pub record Writable (P : Permits) (form : List ℕ) (room : ℕ) : Type 0 where
  pub fit : all_of (writable P) (labels form) ≡ true
  pub few : 64 * length (labels form) ≤ room

-- where the coder takes it, a piece is put from `at` on, and the place past it is told; where it does not, what stands
-- there is not said
pub record PutsWhere (taken : Bool) (piece before after : List ℕ) (at : ℕ) (r : Option ℕ) : Type 0 where
  pub coded : is_some r ≡ taken
  pub put : (n : ℕ) → r ≡ Some n → Puts piece before after at n

-- the same of one label: where the coder refuses it, all is as it was
pub record PutsOrKeeps (taken : Bool) (piece before after : List ℕ) (at : ℕ) (r : Option ℕ) : Type 0 where
  pub puts : PutsWhere taken piece before after at r
  pub kept : is_some r ≡ false → after ≡ before

-- ---- the usual name: a label that holds only what a label may, and ".jp"

-- one to which ".jp" can be put, and the kinds that are found in it, by an edition that there is
pub record UsualLabel (P : Permits) (label : List ℕ) (kinds : Kinds) : Type 0 where
  pub there_is : P.known ≡ true
  pub fit : all_of (label_char P) label ≡ true
  pub found : kinds ≡ kinds_in P label
  pub some : 1 ≤ length label
  pub few : length label ≤ 253

abbrev pub dot_jp : List ℕ
dot_jp = 0x2E ∷ jp

unfoldable pub ends_in_jp : List ℕ → Bool
ends_in_jp text = within 4 256 (length text) && same (drop (length text - 3) text) dot_jp

-- a text that ends so, and what stands before ".jp"
pub record EndsInJp (text label : List ℕ) : Type 0 where
  pub ending : ends_in_jp text ≡ true
  pub parts : label ++ dot_jp ≡ text
