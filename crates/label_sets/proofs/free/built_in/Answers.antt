use Rattle.std.proofs.Common.{map, ap, ◌∙◌}
use Rattle.std.specs.Vec.{with_items}
use Rattle.label_sets.specs.Room.{without_spare}
use Rattle.label_sets.proofs.Rooms.{still-free-spare, written-same}
use Rattle.label_sets.proofs.free.built_in.Goals as goal

pub returns-clause-free : goal.returns-clause-free
returns-clause-free c =
    let built = c.in_ok-free.free in
    let free = c.reserve_extents.new.free in
    still-free-spare c.args.modules.now c.args.regions.now (with_items built free).items built.items
    (written-same without_spare built free (c.reserve_extents.ensures.same ∙ ap (map without_spare) c.deref_mut.ensures.value)) c.in_ok-free.ensures
