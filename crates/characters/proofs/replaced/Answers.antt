-- `replaced` meets its contract: from 3003 to FF0C each code point stays, and any other goes by its class.
-- Assumes nothing.
use mathlib.Core.Logic.{⊎_elim}
use native.Mathlib.Omega.{arith}
use Rattle.characters.specs.Replace.{half_kana}
use Rattle.characters.proofs.Classes.{found, found_lies}
use Rattle.characters.proofs.replaced.Goals as goal

pub overflow_sub-result : goal.overflow_sub-result
overflow_sub-result c = (found_lies _ c.class_of.ensures c.in-HalfKana.is).0

pub bounds-c : goal.bounds-c
bounds-c c = omega (arith, found_lies _ c.class_of.ensures c.in-HalfKana.is)

pub returns-in-Letter : goal.returns-in-Letter
returns-in-Letter c = found _ c.class_of.ensures c.in-Letter.is

pub returns-in-Digit : goal.returns-in-Digit
returns-in-Digit c = found _ c.class_of.ensures c.in-Digit.is

pub returns-in-Hyphen : goal.returns-in-Hyphen
returns-in-Hyphen c = found _ c.class_of.ensures c.in-Hyphen.is

pub returns-in-Separator : goal.returns-in-Separator
returns-in-Separator c = found _ c.class_of.ensures c.in-Separator.is

pub returns-in-HalfKana : goal.returns-in-HalfKana
unfolding half_kana
returns-in-HalfKana c = found _ c.class_of.ensures c.in-HalfKana.is

pub returns-in-Mark : goal.returns-in-Mark
returns-in-Mark c = ⊎_elim (found _ c.class_of.ensures) (found _ c.class_of.ensures) c.in-Mark.is
