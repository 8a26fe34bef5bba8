-- `label_places` meets its contract: the labels start past the periods, and end at them.
-- Assumes nothing.
use Rattle.labelled.specs.declared.Cut.TheVariants.{Two, Three}
use Rattle.labelled.proofs.Cutting.{ends_at}
use Rattle.names.proofs.Cutting.{two_stand, three_stand, cut_there}
use Rattle.names.proofs.places.label_places.Goals as goal

pub returns-in-Two : goal.returns-in-Two
returns-in-Two c = two_stand _ _ (ends_at c.args.form.now (Two c.in-Two.a) c.in-Two.ensures)

pub returns-in-Three : goal.returns-in-Three
returns-in-Three c = three_stand _ _ _ (ends_at c.args.form.now (Three c.in-Three.a c.in-Three.b) c.in-Three.ensures)

pub unreachable-requires : goal.unreachable-requires
unreachable-requires c = cut_there _ _ (ends_at _ _ c.label_ends.ensures) c.requires c.in-One.is
