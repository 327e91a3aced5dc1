use Rattle.std.proofs.Common.{◌≡◌, ◌<◌, length, arith}
use Rattle.std.proofs.lemmas.List.{get_or_read}
use Rattle.region_labels.proofs.Standing.{seated-found}
use Rattle.region_labels.proofs.positions.loaded_at.Goals as goal

pub returns : goal.returns
returns c =
    let kept = c.args.kept.now in
    let over = c.requires.over in
    let len : length kept.seats.items ≡ length kept.region.members = over.seats.each in
    let lt : c.args.position < length kept.seats.items = omega (arith, c.requires.position) in
    seated-found c.args.modules.now kept.region kept.seats.items over.once over.seats c.args.position c.requires.position _ c.index-modules-seat.result
    (get_or_read kept.seats.items c.args.position _ lt c.index-seat.ensures 0) c.index-modules-seat.is
