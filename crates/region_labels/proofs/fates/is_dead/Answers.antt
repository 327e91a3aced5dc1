use Rattle.std.proofs.Common.{ap, ◌∙◌}
use Rattle.std.specs.Option.{option_map}
use Rattle.label_table.specs.Belonging.{belongs}
use Rattle.region_labels.specs.declared.region.RegionLabels.{RegionLabels}
use Rattle.region_labels.specs.Fates.{platform_of, region_in}
use Rattle.region_labels.specs.Modules.{labels_in}
use Rattle.region_labels.specs.Regions.{IsOver}
use Rattle.region_labels.proofs.Regioned.{dead-in, dead-none, found-has, region-found}
use Rattle.region_labels.proofs.fates.is_dead.Goals as goal

pub is_dead-requires : goal.is_dead-requires
is_dead-requires c = found-has (IsOver c.args.modules.now) c.args.regions.now (λ (k : RegionLabels). belongs k.region c.args.handle c.args.label.now) c.in-Some.kept.now c.requires c.in-Some.ensures

pub returns-in-Some : goal.returns-in-Some
returns-in-Some c =
    let found = ap (option_map region_in) c.in-Some.ensures ∙ region-found c.args.regions.now c.args.handle c.args.label.now in
    c.is_dead.ensures ∙ dead-in (platform_of c.args.regions.now) (labels_in c.args.modules.now) c.args.handle c.args.label.now c.in-Some.kept.now.region found

pub returns-in-None : goal.returns-in-None
returns-in-None c =
    let found = ap (option_map region_in) c.in-None.ensures ∙ region-found c.args.regions.now c.args.handle c.args.label.now in
    dead-none (platform_of c.args.regions.now) (labels_in c.args.modules.now) c.args.handle c.args.label.now found
