use Rattle.std.proofs.Common.{false, sym, true, ◌∙◌}
use Rattle.region_labels.specs.Fates.{platform_of}
use Rattle.region_labels.specs.Modules.{labels_in}
use Rattle.region_labels.proofs.Reached.{told-range}
use Rattle.region_labels.proofs.ranges.lone_range.Goals as goal

pub returns-then-is_reached : goal.returns-then-is_reached
returns-then-is_reached c =
    told-range (platform_of c.args.regions.now) (labels_in c.args.modules.now) c.args.kept.now.region c.args.uuid.now c.in_ok-space.space true
    (sym c.namespace.ensures ∙ c.in_ok-space.was) (sym c.if-is_reached.true ∙ c.is_reached.ensures)

pub returns-else-is_reached : goal.returns-else-is_reached
returns-else-is_reached c =
    told-range (platform_of c.args.regions.now) (labels_in c.args.modules.now) c.args.kept.now.region c.args.uuid.now c.in_ok-space.space false
    (sym c.namespace.ensures ∙ c.in_ok-space.was) (sym c.if-is_reached.false ∙ c.is_reached.ensures)
