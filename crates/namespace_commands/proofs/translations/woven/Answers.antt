use Rattle.std.proofs.Common.{◌≡◌, Some, None, ◌==◌, sym}
use Rattle.region_map.specs.declared.platform.Region.{Region}
use Rattle.region_map.specs.Platforms.{region_at}
use Rattle.region_map.proofs.Disjoint.{usable_region}
use Rattle.label_table.proofs.ListTests.{find-some}
use Rattle.namespace_commands.proofs.translations.woven.Goals as goal

pub check-requires : goal.check-requires
check-requires c =
    let platform = c.args.platform.now in
    let region = c.in-Some.region.now in
    let found : region_at platform c.args.index ≡ Some region = sym c.in-Some.ensures in
    let usable : region.rule ≡ None = c.in_default-rule.is in
    usable_region platform region c.requires (find-some (λ (r : Region). r.index == c.args.index) platform.regions region found).0 usable
