use Rattle.std.proofs.Common.{inl, inr, Ok, Err, refl, sym, subst, length}
use Rattle.std.specs.List.{AllZip}
use Rattle.region_labels.specs.Changes.{dimm_at}
use Rattle.region_labels.specs.Modules.{labels_in}
use Rattle.region_labels.specs.Rooms.{KeepsRegion, room_after_free}
use Rattle.region_labels.proofs.ChangedModules.{dimm_at-same}
use Rattle.module_flips.specs.Flips.{without_slots_at}
use Rattle.module_flips.specs.Stops.{IsOneOf}
use Rattle.module_flips.proofs.Freed.{changed, either-left, labels-freed, stood}
use Rattle.module_flips.proofs.OnePass.{flip-pass, kept-labels}
use Rattle.module_flips.proofs.Together.{same-regions}
use Rattle.module_flips.proofs.flips.free_at.Goals as goal

pub follow_free-requires : goal.follow_free-requires
follow_free-requires g c =
    let ms = c.args.modules.now in
    let here = c.index-modules-seat.result in
    stood ms c.args.seat c.requires.within c.requires.once here c.free_in.new.loaded c.index-modules-seat.is c.free_in.ensures.dimm c.args.slots.now c.args.lost.now (c.requires.free here) c.in-Ok.ensures.freed c.args.regions.now c.requires.over

pub returns-in-Ok-clause-labels : goal.returns-in-Ok-clause-labels
returns-in-Ok-clause-labels g c =
    let ms = c.args.modules.now in
    let here = c.index-modules-seat.result in
    labels-freed ms c.args.seat c.requires.within c.requires.once here c.free_in.new.loaded c.index-modules-seat.is c.free_in.ensures.dimm c.args.slots.now c.args.lost.now (c.requires.free here) c.in-Ok.ensures.freed

pub returns-in-Ok-clause-regions : goal.returns-in-Ok-clause-regions
returns-in-Ok-clause-regions g c =
    let ms = c.args.modules.now in
    let here = c.index-modules-seat.result in
    subst (λ d. AllZip (KeepsRegion (room_after_free d (length c.args.lost.now))) c.args.regions.now c.follow_free.new.regions)
    (dimm_at-same ms _ c.args.seat (changed ms c.args.seat c.requires.within c.requires.once here c.free_in.new.loaded c.index-modules-seat.is c.free_in.ensures.dimm)) c.follow_free.ensures.kept

-- the flip as a pass
pub returns-in-Ok-clause-pass : goal.returns-in-Ok-clause-pass
returns-in-Ok-clause-pass g c =
    let ms = c.args.modules.now in
    let here = c.index-modules-seat.result in
    let q = c.requires in
    let did = c.free_in.ensures in
    let freed = c.in-Ok.ensures.freed in
    flip-pass ms c.args.seat q.within q.once here c.free_in.new.loaded c.index-modules-seat.is did.dimm g.R.Shown c.args.rig.now c.free_in.new.rig c.args.regions.now c.follow_free.new.regions
    (IsOneOf (labels_in ms) (without_slots_at (dimm_at ms c.args.seat) c.args.slots.now (labels_in ms))) (Ok tt) did.size (same-regions _ c.args.regions.now c.follow_free.new.regions c.follow_free.ensures.kept)
    (inr (labels-freed ms c.args.seat q.within q.once here c.free_in.new.loaded c.index-modules-seat.is did.dimm c.args.slots.now c.args.lost.now (q.free here) freed))
    did.writes_only c.in-Ok.ensures.cause tt did.reads c.in-Ok.ensures.stands
    (λ told all. either-left ms c.args.seat q.within q.once here c.free_in.new.loaded c.index-modules-seat.is did.dimm c.args.slots.now c.args.lost.now (q.free here) g.R.Shown c.args.rig.now c.free_in.new.rig all (did.any_moment told))

pub returns-in-Err-clause-pass : goal.returns-in-Err-clause-pass
returns-in-Err-clause-pass g c =
    let ms = c.args.modules.now in
    let here = c.index-modules-seat.result in
    let q = c.requires in
    let did = c.free_in.ensures in
    flip-pass ms c.args.seat q.within q.once here c.free_in.new.loaded c.index-modules-seat.is did.dimm g.R.Shown c.args.rig.now c.free_in.new.rig c.args.regions.now c.args.regions.now
    (IsOneOf (labels_in ms) (without_slots_at (dimm_at ms c.args.seat) c.args.slots.now (labels_in ms))) (Err c.in-Err.failed) did.size refl
    (inl (kept-labels ms c.args.seat q.within q.once here c.free_in.new.loaded c.index-modules-seat.is did.dimm c.in-Err.ensures.kept))
    did.writes_only c.in-Err.ensures.cause c.in-Err.ensures.names did.reads (λ told stored. tt)
    (λ told all. either-left ms c.args.seat q.within q.once here c.free_in.new.loaded c.index-modules-seat.is did.dimm c.args.slots.now c.args.lost.now (q.free here) g.R.Shown c.args.rig.now c.free_in.new.rig all (did.any_moment told))
