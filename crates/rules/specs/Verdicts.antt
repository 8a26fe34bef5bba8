-- What is said of a text as a name: number, place and class (document 01, 'Numbers a call may answer'), and what a result
-- says of it.
use Rattle.std.specs.Prelude.{ℕ, Result, Ok, Err}
use Rattle.refusals.specs.Refusals.{number_of}
use Rattle.refusals.specs.declared.Refused.{Refused}
use Rattle.rules.specs.declared.Class as one

-- class is general-use or prefecture with 0, and none otherwise
pub data Class : Type 0 where
  None : Class
  General : Class
  Prefecture : Class

pub record Verdict : Type 0 where
  pub number : ℕ
  pub place : ℕ
  pub class : Class

abbrev pub class_told : one.Class → Class
class_told one.TheVariants.General = General
class_told one.TheVariants.Prefecture = Prefecture

abbrev pub verdict_told : Result one.Class Refused → Verdict
verdict_told (Ok k) = record { number = 0; place = 0; class = class_told k }
verdict_told (Err e) = record { number = number_of e.why; place = e.place; class = None }
