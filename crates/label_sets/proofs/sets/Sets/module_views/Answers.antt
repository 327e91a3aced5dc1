use Rattle.std.proofs.Common.{◌≡◌, ◌<◌, List, length, get_or, ap, subst, ◌∙◌}
use Rattle.region_map.proofs.Zips.{zip_more}
use Rattle.region_labels.specs.declared.modules.LoadedModule.{LoadedModule}
use Rattle.label_sets.specs.Sets.{StoredSets, labels_in, platform_in}
use Rattle.label_sets.specs.Views.{IsModuleView}
use Rattle.label_sets.proofs.sets.Sets.module_views.Goals as goal

pub loop-loaded-preserved : goal.loop-loaded-preserved
loop-loaded-preserved c =
    let sets = c.args.self.now in
    let Shows = IsModuleView (platform_in sets) (labels_in sets) in
    let i = c.loop-loaded.loaded-index in
    let loaded = c.loaded-item.result in
    let modules_are : c.deref-loaded-items.result.now ≡ sets.modules = c.deref-loaded-items.ensures.value ∙ ap (λ (s : StoredSets). s.modules) c.self.view_is in
    let lt : i < length sets.modules = subst (λ (ms : List LoadedModule). i < length ms) modules_are c.loop-loaded-test.true in
    let is : loaded ≡ get_or sets.modules i loaded = c.loaded-item.is ∙ ap (λ (ms : List LoadedModule). get_or ms i loaded) modules_are in
    rw c.in_ok-push.ensures.ok
    (zip_more Shows sets.modules c.loop-loaded.views i loaded _ lt c.loop-loaded.invariant (subst (λ (x : LoadedModule). Shows x c.in_ok-view_of.field-0) is c.in_ok-view_of.ensures))
