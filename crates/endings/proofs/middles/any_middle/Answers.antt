-- `any_middle` meets its contract: the table of characters, cut where each label of the edition starts, is the list of its labels, by
-- computation for none, 47 and 94.
-- Assumes nothing.
use Rattle.rules.specs.Prefectures.{latin_prefectures, japanese_prefectures, prefectures}
use Rattle.endings.specs.Parts.{parts, starts_rise}
use Rattle.endings.proofs.Middle.{by_starts}
use Rattle.endings.proofs.middles.any_middle.Goals as goal

pub any_part-requires-clause-rise : goal.any_part-requires-clause-rise
unfolding starts_rise
any_part-requires-clause-rise g c = by_starts _ c.starts_in.ensures.number (λ z m. rw z) (λ z m. rw z) (λ z m. rw z)

pub returns : goal.returns
unfolding latin_prefectures japanese_prefectures prefectures parts
returns g c f k =
    by_starts _ c.starts_in.ensures.number
    (λ z m. rw m (rw z at (c.any_part.ensures f k)))
    (λ z m. rw m (rw z at (c.any_part.ensures f k)))
    (λ z m. rw m (rw z at (c.any_part.ensures f k)))
