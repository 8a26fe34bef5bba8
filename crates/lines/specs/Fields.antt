-- The fields of a line: document 01, 'The batch'. What the line reader and its callers answer.
use Rattle.std.specs.Prelude.{Option, Some, None, Bool, not, ◌&&◌, ◌||◌, List, ℕ, suc, ◌+◌, eqb, ltb, length, take, drop}
use Rattle.std.specs.Borrow.{Bor}
use Rattle.lists.specs.Tests.{pick, within, all_of, any_of, index_of}
use Rattle.lines.specs.declared.LineReader.{LineReader}
use Rattle.lines.specs.declared.Stretch.{Stretch}
use Rattle.lines.specs.declared.Taken.{Taken}
use Rattle.lines.specs.declared.TwoFields.{TwoFields}

-- ---- the fields of a line: an id, one tab, a name

unfoldable pub tab : ℕ → Bool
tab b = eqb b 0x09

unfoldable pub id_of : List ℕ → List ℕ
id_of line = take (index_of tab line) line

unfoldable pub name_of : List ℕ → List ℕ
name_of line = drop (suc (index_of tab line)) line

unfoldable pub one_tab : List ℕ → Bool
one_tab line = any_of tab line && not (any_of tab (name_of line))

-- ASCII letters, digits or hyphens
unfoldable pub id_byte : ℕ → Bool
id_byte b = within 0x41 0x5A b || (within 0x61 0x7A b || (within 0x30 0x39 b || eqb b 0x2D))

unfoldable pub good_id : List ℕ → Bool
good_id id = within 1 32 (length id) && all_of id_byte id

-- ---- what the calls answer

-- the stretch from `at` up to a tab or the end; reading goes on past the tab, or at the end
abbrev pub field_at : List ℕ → ℕ → Stretch
field_at line at =
    let end = at + index_of tab (drop at line) in
    record { start = at; end = end; next = pick (ltb end (length line)) (end + 1) end }

-- the reader of a line, at a place
abbrev pub reader_at : Bor (List ℕ) → ℕ → LineReader
reader_at line at = record { line = line; at = at }

-- the field at the reader's place, and the reader moved past it
abbrev pub taken_by : LineReader → Taken
taken_by r =
    let f = field_at r.line.now r.at in
    record { field = f; rest = reader_at r.line f.next }

-- the first field, and the one where reading goes on
abbrev pub fields_of : List ℕ → TwoFields
fields_of line =
    let id = field_at line 0 in
    record { id = id; name = field_at line id.next }

-- of a line with exactly one tab, where it is: the id is what stands before it, the name what stands past it
unfoldable pub parts_of : List ℕ → Option ℕ
parts_of line = pick (one_tab line) (Some (index_of tab line)) None
