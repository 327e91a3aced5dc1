use Rattle.std.proofs.Common.{◌≡◌, ◌<◌, length, arith}
use Rattle.std.proofs.lemmas.List.{get_or_read}
use Rattle.region_labels.proofs.Seated.{seated-module}
use Rattle.region_labels.proofs.region.RegionLabels.module_at.Goals as goal

pub returns-clause-stands : goal.returns-clause-stands
returns-clause-stands c =
    let kept = c.args.self.now in
    let over = c.requires.over in
    let len : length kept.seats.items ≡ length kept.region.members = over.seats.each in
    let lt : c.args.position < length kept.seats.items = omega (arith, c.requires.position) in
    seated-module c.args.modules.now kept.region kept.seats.items over.once over.seats c.args.position c.requires.position _ c.index-modules-seat.result
    (get_or_read kept.seats.items c.args.position _ lt c.index-seat.ensures 0) c.index-modules-seat.is
