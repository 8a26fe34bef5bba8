-- The refusals by the numbers of documents 01 and 02, and what a result says in these numbers: each promise of a call that
-- may refuse is made by way of them.
use Rattle.std.specs.Prelude.{ℕ, Result, Ok, Err}
use Rattle.lists.specs.Rows.{Answer, accepted}
use Rattle.refusals.specs.declared.Refusal.{Refusal}
use Rattle.refusals.specs.declared.Refusal.TheVariants.{NoRoom, NoText, TooLong, Unfit, LabelCount, EmptyLabel, HyphenEdge, LabelTooShort, LabelTooLong, BareDot, NotJp, NotPrefecture, NotEncodable, Over63, NotEncoded, BadLine, Pretending, Over253, NoEdition}
use Rattle.refusals.specs.declared.Refused.{Refused}

-- document 01, 'Numbers a call may answer'; 17, 19 and 25 are document 02's (K3, K10, K12)
abbrev pub number_of : Refusal → ℕ
number_of NoRoom = 1
number_of NoText = 2
number_of TooLong = 3
number_of Unfit = 4
number_of LabelCount = 5
number_of EmptyLabel = 6
number_of HyphenEdge = 7
number_of LabelTooShort = 8
number_of LabelTooLong = 9
number_of BareDot = 10
number_of NotJp = 11
number_of NotPrefecture = 12
number_of NotEncodable = 13
number_of Over63 = 14
number_of NotEncoded = 15
number_of BadLine = 16
number_of Pretending = 17
number_of Over253 = 19
number_of NoEdition = 25

-- number and place of a refusal
abbrev pub refusal_told : Refused → Answer
refusal_told e = record { number = number_of e.why; place = e.place }

-- number and place of a result: 0 and 0 where it is accepted
abbrev pub told : {A : Type 0} → Result A Refused → Answer
told (Ok x) = accepted
told (Err e) = refusal_told e

-- what is told of a call that writes: number, place, and how much is written
pub record Filled : Type 0 where
  pub number : ℕ
  pub place : ℕ
  pub length : ℕ

-- a refusal writes nothing
abbrev pub filled : Result ℕ Refused → Filled
filled (Ok n) = record { number = 0; place = 0; length = n }
filled (Err e) = record { number = number_of e.why; place = e.place; length = 0 }
