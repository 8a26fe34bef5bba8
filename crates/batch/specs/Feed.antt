-- What the calls that feed a stream say, for any answer to a line: each decides all of its result and every entry of
-- the buffer.
use Rattle.std.specs.Prelude.{Bool, true, false, Option, Some, None, List, [], ◌++◌, ◌≡◌, ℕ, ◌-◌, ◌≤◌, leb, length, take, drop}
use Rattle.lists.specs.Tests.{pick, index_of}
use Rattle.lists.specs.Front.{Puts}
use Rattle.lines.specs.Lines.{lf}
use Rattle.answer.specs.Answers.{most}
use Rattle.batch.specs.declared.stream.Fed.{Fed}
use Rattle.batch.specs.declared.stream.Line.{Line}
use Rattle.batch.specs.declared.stream.Scanned.{Scanned}
use Rattle.batch.specs.Stream.{fresh, pushed_all, after, wrote, ended, used}

-- whether there was room, and how many bytes are written
pub record Finished : Type 0 where
  pub done : Bool
  pub wrote : ℕ

abbrev pub finish_told : Option ℕ → Finished
finish_told None = record { done = false; wrote = 0 }
finish_told (Some n) = record { done = true; wrote = n }

-- of a piece s whose lines up to `at` are answered, in o bytes: with room for a further answer the rest is carried on
unfoldable pub rest_of : List ℕ → ℕ → ℕ → ℕ → Fed
rest_of s at o room =
    pick (leb most room)
    (record { used = length s; wrote = o; line = pushed_all fresh (drop at s) })
    (record { used = at; wrote = o; line = fresh })

module _ (answer : List ℕ → List ℕ) (bad : List ℕ) where
  -- the lines that end in s are answered while there is room: up to `at`, the start of a line
  pub record Scans (s before after' : List ℕ) (r : Scanned) : Type 0 where
    pub inside : r.at ≤ length s
    pub text : Puts (wrote answer bad fresh (take r.at s)) before after' 0 r.length
    pub none_carried : after fresh (take r.at s) ≡ fresh
    pub all : used answer bad fresh s (length before) ≡ pick (leb most (length before - r.length)) (length s) r.at
    pub last : most ≤ length before - r.length → length (drop r.at s) ≤ index_of lf (drop r.at s)

  -- how much of the piece is used, what is written for it, and the line that is carried on
  pub record Feeds (l : Line) (s before after' : List ℕ) (r : Fed) : Type 0 where
    pub amount : r.used ≡ used answer bad l s (length before)
    pub text : Puts (wrote answer bad l (take r.used s)) before after' 0 r.wrote
    pub next : r.line ≡ after l (take r.used s)

  -- the end of the input: with room for the longest answer a last line without LF is answered, and nothing is done
  -- without
  pub record Finishes (l : Line) (before after' : List ℕ) (r : Finished) : Type 0 where
    pub done : r.done ≡ leb most (length before)
    pub text : Puts (pick (leb most (length before)) (ended answer bad l) []) before after' 0 r.wrote

  -- a sequence of calls that used the bytes i, wrote w and carry the line l on: each takes the line that the last one
  -- gave, any bytes and any buffer, and what it did not use comes again
  pub data Calls : List ℕ → List ℕ → Line → Type 0 where
    begin : Calls [] [] fresh
    call : {i w : List ℕ} {l : Line} {s before after' : List ℕ} {r : Fed}
        → Calls i w l → Feeds l s before after' r
        → Calls (i ++ take r.used s) (w ++ take r.wrote after') r.line
