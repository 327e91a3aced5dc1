use Rattle.std.proofs.Common.{◌≡◌, sym, subst, ◌∙◌}
use Rattle.region_map.specs.declared.platform.Region.{Region}
use Rattle.label_table.specs.Statuses.{RegionReady, status}
use Rattle.label_table.proofs.ListTests.{some_is}
use Rattle.label_sets.specs.Sets.{labels_in}
use Rattle.namespace_commands.proofs.KeyedRefusals.{fitting-keyed, none-keyed, region-in, unhealed-keyed, unhealed-told}
use Rattle.namespace_commands.proofs.Unread.{ready-region}
use Rattle.namespace_commands.proofs.key_refusals.chosen_space.Goals as goal

pub returns-in-Some-clause-refused : goal.returns-in-Some-clause-refused
returns-in-Some-clause-refused c = λ more.
    let P = c.args.platform.now in
    let sets = c.args.sets.now in
    let view = ready-region P (labels_in sets) c.args.index (sym c.in-Ok-None.ensures ∙ c.in-Ok-None.field-0-is) in
    unhealed-keyed P (labels_in sets) c.args.index c.args.key.now view.region view.found view.ready more c.in-Some.refusal
    (sym (unhealed-told P sets c.requires c.args.index c.unhealed.result c.unhealed.ensures view.region view.found) ∙ c.in-Some.is)

pub returns-in-Ok-clause-chosen : goal.returns-in-Ok-clause-chosen
returns-in-Ok-clause-chosen c =
    let P = c.args.platform.now in
    let sets = c.args.sets.now in
    let L = labels_in sets in
    let index = c.args.index in
    let key = c.args.key.now in
    let view = ready-region P (labels_in sets) c.args.index (sym c.in-Ok-None.ensures ∙ c.in-Ok-None.field-0-is) in
    let space = c.in-Ok.space in
    record {
      unrefused = λ more. none-keyed P L index key view.region view.found view.ready more
          (sym (unhealed-told P sets c.requires index c.unhealed.result c.unhealed.ensures view.region view.found) ∙ c.in-None.is)
          space (c.in-Ok.ensures.only view.region (region-in P sets c.requires index view.region view.found));
      chosen = λ r known. record {
        ready = subst (λ (q : Region). status L q ≡ RegionReady) (some_is (sym view.found ∙ known)) view.ready;
        healable = sym (unhealed-told P sets c.requires index c.unhealed.result c.unhealed.ensures r known) ∙ c.in-None.is;
        fits = c.in-Ok.ensures.only r (region-in P sets c.requires index r known);
      };
    }

pub returns-in-Err-only_space-clause-refused : goal.returns-in-Err-only_space-clause-refused
returns-in-Err-only_space-clause-refused c = λ more.
    let P = c.args.platform.now in
    let sets = c.args.sets.now in
    let index = c.args.index in
    let view = ready-region P (labels_in sets) c.args.index (sym c.in-Ok-None.ensures ∙ c.in-Ok-None.field-0-is) in
    fitting-keyed P (labels_in sets) index c.args.key.now view.region view.found view.ready more c.in-Err-only_space.refusal
    (sym (unhealed-told P sets c.requires index c.unhealed.result c.unhealed.ensures view.region view.found) ∙ c.in-None.is)
    (c.in-Err-only_space.ensures.refused view.region (region-in P sets c.requires index view.region view.found))
