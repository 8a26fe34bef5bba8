-- What is read as the name of a usual line, and what is said of its answer.
use Rattle.std.specs.Prelude.{◌≡◌, Bool, true, not, Option, None, Some, ◌&&◌, List, ◌++◌, ℕ, ◌≤◌, ◌<◌, min, eqb, leb, length, take, get_or}
use Rattle.lists.specs.Tests.{within, all_of, index_of}
use Rattle.lists.specs.Front.{Puts}
use Rattle.utf8.specs.Utf8.{scalar, encode, decoded}
use Rattle.lines.specs.Lines.{lf}
use Rattle.answer.specs.declared.AnsweredLine.{AnsweredLine}
use Rattle.answer.specs.declared.usual.Read.{Read}

-- of the first bytes of three, those that begin no overlong form and no surrogate
unfoldable pub leads_three : ℕ → Bool
leads_three b = not (eqb b 0xED) && within 0xE1 0xEF b

-- no control character
abbrev pub has_no_controls : List ℕ → Bool
has_no_controls l = all_of (leb 0x20) l

-- s begins with the encoding of a code point, which is no control character; what follows is shorter
pub record FirstCode (s : List ℕ) (code : ℕ) (rest : List ℕ) : Type 0 where
  pub bytes : s ≡ encode code ++ rest
  pub no_controls : has_no_controls (encode code) ≡ true
  pub scalar : scalar code ≡ true
  pub shorter : length rest < length s

-- a name of no control character stands in s up to an LF, and its code points at the start of out
pub record Reads (s out : List ℕ) (r : Read) : Type 0 where
  pub inside : r.end < min (length s) 64
  pub ends : get_or s r.end 0 ≡ 0x0A
  pub no_controls : has_no_controls (take r.end s) ≡ true
  pub few : r.count ≤ r.end
  pub text : decoded (take r.end s) ≡ record { codes = take r.count out; ok = true }

-- for any answer to a line
module _ (answer : List ℕ → List ℕ) (s before after : List ℕ) where
  -- the first line of s ends in s, and its answer stands at the buffer's start
  pub record Answered (r : AnsweredLine) : Type 0 where
    pub end : r.end ≡ index_of lf s
    pub inside : r.end < length s
    pub text : Puts (answer (take r.end s)) before after 0 r.length

  -- a line that is told of is answered, and otherwise nothing is written
  abbrev pub MayAnswer : Option AnsweredLine → Type 0
  MayAnswer None = after ≡ before
  MayAnswer (Some r) = Answered r
