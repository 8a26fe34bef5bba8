-- `any_part` meets its contract: the parts that are left decide, at each turn.
-- Assumes nothing.
use Rattle.std.proofs.Common.{◌≡◌, ℕ, List, Bool, true, length}
use Rattle.std.specs.Fn.{FnReturnsAt}
use Rattle.std.specs.Slice.Iter.{windows_size, windows_rest}
use Rattle.lists.specs.Tests.{any_of}
use Rattle.endings.specs.Parts.{Computes, parts, starts_rise}
use Rattle.endings.proofs.middles.any_part.Given as goal

abbrev pub invariant-loop-cut : goal.invariant-loop-cut
invariant-loop-cut g l =
    let rest = windows_rest l.cut-iterator in
    record {
      two : windows_size l.cut-iterator ≡ 2;
      order : starts_rise (length l.table) rest ≡ true;
      told : (f : List ℕ → Bool) → Computes (FnReturnsAt g.F.Fn l.test) f → any_of f (parts l.table l.starts) ≡ any_of f (parts l.table rest);
    }
