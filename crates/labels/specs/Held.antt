-- What a label holds: whether a label may hold all of its characters, and, where it may, which kinds of Japanese ones
-- are found (document 02, K6). That none are told where it may not is our choice.
use Rattle.std.specs.Prelude.{Bool, true, false, List, ℕ, Option, Some, None}
use Rattle.lists.specs.Tests.{pick, all_of}
use Rattle.rules.specs.Permits.{Permits, label_char}
use Rattle.rules.specs.Kinds.{kinds_in, no_kinds}
use Rattle.rules.specs.declared.Kinds.{Kinds}

pub record Held : Type 0 where
  pub fit : Bool
  pub kinds : Kinds

unfoldable pub held_in : Permits → List ℕ → Held
held_in P label =
    let fit = all_of (label_char P) label in
    record { fit = fit; kinds = pick fit (kinds_in P label) no_kinds }

-- of a label that may not
abbrev pub unfit_held : Held
unfit_held = record { fit = false; kinds = no_kinds }

abbrev pub held_told : Option Kinds → Held
held_told (Some kinds) = record { fit = true; kinds = kinds }
held_told None = unfit_held
