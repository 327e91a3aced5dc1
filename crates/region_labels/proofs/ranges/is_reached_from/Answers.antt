use Rattle.std.proofs.Common.{false, ap, sym, ◌∙◌, arith}
use Rattle.std.specs.Option.{option_map_or}
use Rattle.region_labels.specs.Fates.{platform_of}
use Rattle.region_labels.specs.Modules.{labels_in, module_in}
use Rattle.region_labels.specs.LoneRanges.{holds_part}
use Rattle.region_labels.proofs.Passing.{some-pass}
use Rattle.region_labels.proofs.ranges.is_reached_from.Goals as goal

pub returns-then-holds_part : goal.returns-then-holds_part
returns-then-holds_part c =
    let test = holds_part (platform_of c.args.regions.now) (labels_in c.args.modules.now) c.args.loaded.now.dimm c.args.base c.args.range.now in
    some-pass test (module_in c.args.loaded.now) c.loop-slot.slot (omega (arith, c.slots-slot-end.ensures, c.loop-slot-test.true))
    (ap (λ o. option_map_or test o false) (sym c.label.ensures) ∙ sym c.holds_part.ensures ∙ c.if-holds_part.true)
