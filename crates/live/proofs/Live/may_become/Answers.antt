-- `may_become` meets its contract: the table of kanji is lent, and lent the bits of its own kanji the edition is itself.
-- Assumes nothing.
use mathlib.Core.Path.{◌≡◌}
use Prim.Native.Nat.{ℕ}
use Rattle.rules.specs.Permits.{Permits}
use Rattle.rules.proofs.Editions.{lending_all}
use Rattle.live.specs.Live.{hoped}
use Rattle.live.proofs.Live.may_become.Goals as goal

pub returns : goal.returns
returns c = lending_all (λ (E : ℕ → Permits). c.may_become_with.result ≡ hoped E c.args.self) c.kanji_table-kanji.ensures c.may_become_with.ensures
