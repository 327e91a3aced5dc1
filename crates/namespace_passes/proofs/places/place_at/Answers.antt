use Rattle.region_labels.specs.Modules.{labels_in}
use Rattle.namespace_passes.proofs.Seats.{one-at}
use Rattle.namespace_passes.proofs.places.place_at.Goals as goal

pub place_of-requires-clause-one : goal.place_of-requires-clause-one
place_of-requires-clause-one c = one-at (labels_in c.args.modules.now) c.args.region.now c.args.uuid.now c.args.position c.requires.whole c.requires.position
