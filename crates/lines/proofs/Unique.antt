-- A contract that is an equation decides the result: `decided` of lists/proofs/Unique is the theorem, here at the two calls on a line reader.
-- Assumes nothing.
use mathlib.Core.Path.{◌≡◌}
use mathlib.Core.List.{List}
use Prim.Native.Nat.{ℕ}
use denote.Ref.{Bor}
use Rattle.lists.proofs.Unique.{decided}
use Rattle.lines.specs.declared.LineReader.{LineReader}
use Rattle.lines.specs.declared.Taken.{Taken}
use Rattle.lines.specs.Fields.{reader_at, taken_by}

-- it is made, and a field is read from it
pub new_once : (line : Bor (List ℕ)) (r s : LineReader) → r ≡ reader_at line 0 → s ≡ reader_at line 0 → r ≡ s
new_once line r s = decided

pub field_once : (reader : LineReader) (r s : Taken) → r ≡ taken_by reader → s ≡ taken_by reader → r ≡ s
field_once reader r s = decided
