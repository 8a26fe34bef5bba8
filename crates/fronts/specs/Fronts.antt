-- The normal form of a text and its first unfit character: what 2 to 4 of document 01, 'Numbers a call may answer', ask
-- about; and the normal form as it is shown, with a refusal too: document 01, 'The live check'.
use Rattle.std.specs.Prelude.{true, false, Option, Some, None, Result, Ok, Err, Bool, ◌&&◌, List, [], ◌++◌, ◌≡◌, ℕ, ◌-◌, eqb, ltb, length, get_or, replicate}
use Rattle.lists.specs.Tests.{pick, any_of, index_of}
use Rattle.lists.specs.Front.{written}
use Rattle.normal.specs.Normal.{normal_form, places}
use Rattle.normal.specs.Calls.{answer, writes}
use Rattle.rules.specs.Permits.{Permits}
use Rattle.refusals.specs.Refusals.{number_of}
use Rattle.refusals.specs.declared.Refused.{Refused}
use Rattle.fronts.specs.declared.Front.{Front}
use Rattle.rules.specs.Rules.{unfit}

-- ---- what is shown

-- the normal form of up to 256 code points; beyond that no text
unfoldable pub shown : List ℕ → List ℕ
shown text = pick (ltb 256 (length text)) [] (normal_form text)

-- in an array of 256, with zeros past it
unfoldable pub padded : List ℕ → List ℕ
padded xs = xs ++ replicate (256 - length xs) 0

-- ---- what the call answers

-- where the normal form call accepts: is there an unfit character? Its place is that of refusal 4
unfoldable pub unfit_given : Permits → List ℕ → ℕ → Bool
unfit_given P text room = eqb (answer text room).number 0 && any_of (unfit P) (normal_form text)

-- number, place and length are those of the normal form call; where it writes the form, whether that holds an unfit
-- character, and the place of the first such one in the text
pub record Fronted : Type 0 where
  pub number : ℕ
  pub place : ℕ
  pub length : ℕ
  pub unfit : Bool
  pub at : ℕ

abbrev pub form_told : ℕ → Option ℕ → Fronted
form_told n None = record { number = 0; place = 0; length = n; unfit = false; at = 0 }
form_told n (Some p) = record { number = 0; place = 0; length = n; unfit = true; at = p }

abbrev pub front_told : Result Front Refused → Fronted
front_told (Ok f) = form_told f.length f.unfit
front_told (Err e) = record { number = number_of e.why; place = e.place; length = 0; unfit = false; at = 0 }

unfoldable pub fronted : Permits → List ℕ → ℕ → Fronted
fronted P text room = record {
  number = (answer text room).number;
  place = (answer text room).place;
  length = length (writes text room);
  unfit = unfit_given P text room;
  at = pick (unfit_given P text room) (get_or (places text) (index_of (unfit P) (normal_form text)) 0) 0;
}

pub record Fronts (P : Permits) (text before after : List ℕ) (r : Fronted) : Type 0 where
  pub result : r ≡ fronted P text (length before)
  pub buffer : after ≡ written (writes text (length before)) before
