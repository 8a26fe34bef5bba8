-- What the calls for a line answer, and what they leave in the buffer that is lent to them.
use Rattle.std.specs.Prelude.{Bool, true, false, not, Option, None, Some, ◌&&◌, ◌||◌, List, [], ◌∷◌, ◌++◌, ◌≡◌, ℕ, leb, length, take}
use Rattle.lists.specs.Tests.{pick, any_of, index_of}
use Rattle.lists.specs.Front.{Puts}
use Rattle.rules.specs.Permits.{Permits}
use Rattle.rules.specs.Verdicts.{Class}
use Rattle.rules.specs.declared.Kinds.{Kinds}
use Rattle.answer.specs.declared.AnsweredLine.{AnsweredLine}
use Rattle.utf8.specs.Utf8.{decoded}
use Rattle.lines.specs.Lines.{lf}
use Rattle.lines.specs.Fields.{good_id}
use Rattle.answer.specs.Answer.{decimal, letter, kind_field, bad_answer, good_answer}

-- no answer is longer
abbrev pub most : ℕ
most = 256

-- whether there was room for the longest answer, and how many bytes were written
pub record Wrote : Type 0 where
  pub done : Bool
  pub length : ℕ

abbrev pub wrote_told : Option ℕ → Wrote
wrote_told None = record { done = false; length = 0 }
wrote_told (Some n) = record { done = true; length = n }

-- with room for the longest answer xs is written, and nothing without
pub record Writes (xs before after : List ℕ) (r : Wrote) : Type 0 where
  pub done : r.done ≡ leb most (length before)
  pub text : Puts (pick (leb most (length before)) xs []) before after 0 r.length

-- whether a line was answered, where its LF is, and how many bytes were written
pub record Next : Type 0 where
  pub done : Bool
  pub end : ℕ
  pub length : ℕ

-- no line was answered
abbrev pub no_line : Next
no_line = record { done = false; end = 0; length = 0 }

abbrev pub next_told : Option AnsweredLine → Next
next_told None = no_line
next_told (Some line) = record { done = true; end = line.end; length = line.length }

-- with room for the longest answer the first line of s is answered, where it ends in s, and nothing is done otherwise
pub record AnswersFirst (answer : List ℕ → List ℕ) (s before after : List ℕ) (r : Next) : Type 0 where
  pub done : r.done ≡ leb most (length before) && any_of lf s
  pub end : r.end ≡ pick r.done (index_of lf s) 0
  pub text : Puts (pick r.done (answer (take (index_of lf s) s)) []) before after 0 r.length

-- ---- how the line is put together

-- id, number and place, a tab after each: how an answer line begins
unfoldable pub front_of : List ℕ → ℕ → ℕ → List ℕ
front_of id number place = id ++ (0x09 ∷ []) ++ decimal number ++ (0x09 ∷ []) ++ decimal place ++ (0x09 ∷ [])

-- what stands before the ASCII form of an accepted name, and after it
unfoldable pub before_form : List ℕ → Class → List ℕ
before_form id class = front_of id 0 0 ++ (letter class ∷ []) ++ (0x09 ∷ [])

unfoldable pub after_form : Kinds → List ℕ
after_form ks = (0x09 ∷ []) ++ kind_field ks ++ (0x0A ∷ [])

-- the answer to a line with these two fields
unfoldable pub fields_answer : Permits → List ℕ → List ℕ → List ℕ
fields_answer P id name =
    pick (not (good_id id) || not (decoded name).ok) bad_answer (good_answer P id (decoded name).codes)
