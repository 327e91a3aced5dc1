use Rattle.std.proofs.Common.{ap, ◌∙◌}
use Rattle.std.specs.Option.{option_map}
use Rattle.region_labels.specs.Fates.{region_in}
use Rattle.region_labels.specs.Held.{region_index}
use Rattle.region_labels.proofs.Regioned.{region-found}
use Rattle.region_labels.proofs.held.index_of_region.Goals as goal

pub returns-in-Some : goal.returns-in-Some
returns-in-Some c = ap (λ o. region_index (option_map region_in o)) c.in-Some.ensures ∙ ap region_index (region-found c.args.regions.now c.args.handle c.args.label.now)

pub returns-in-None : goal.returns-in-None
returns-in-None c = ap (λ o. region_index (option_map region_in o)) c.in-None.ensures ∙ ap region_index (region-found c.args.regions.now c.args.handle c.args.label.now)
