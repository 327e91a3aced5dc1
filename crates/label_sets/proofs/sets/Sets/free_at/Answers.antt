use Rattle.std.proofs.Common.{◌≡◌, List, sym, ap, ◌∙◌}
use Rattle.label_table.specs.Namespaces.{namespaces}
use Rattle.region_labels.specs.declared.modules.LoadedModule.{LoadedModule}
use Rattle.region_labels.specs.Modules as modules
use Rattle.label_sets.specs.Kept.{IsFree}
use Rattle.label_sets.specs.Sets.{StoredSets}
use Rattle.label_sets.proofs.FreeRoom.{element, known-free}
use Rattle.label_sets.proofs.Viewed.{free-shown, no_region, place-inside, region-there}
use Rattle.label_sets.proofs.sets.Sets.free_at.Goals as goal

pub returns-in-Some : goal.returns-in-Some
returns-in-Some c =
    let inside = c.self.inside in
    let sets = c.args.self.now in
    let lt = place-inside inside sets c.self.view_is c.args.place c.requires.place in
    let kept = element inside.regions.items c.args.place lt in
    let free = c.in-Some.free.now in
    let is : IsFree inside.modules.items inside.regions.items kept.0 free = known-free inside.modules.items inside.regions.items inside.free c.args.place kept.0 free c.self.invariant.free lt kept.1 (sym c.in-Some.ensures) in
    free-shown inside sets c.self.view_is c.args.place kept.0 kept.1 lt free.extents is.extents c.listed_free.result c.args.status c.listed_free.ensures

pub free_extents-requires-clause-spaces : goal.free_extents-requires-clause-spaces
free_extents-requires-clause-spaces c =
    let inside = c.self.inside in
    let sets = c.args.self.now in
    let lt = place-inside inside sets c.self.view_is c.args.place c.requires.place in
    let kept = c.index-kept.result.now in
    let modules_are : sets.modules ≡ c.deref.result.now = sym (c.deref.ensures.value ∙ ap (λ (s : StoredSets). s.modules) c.self.view_is) in
    c.requires.spaces no_region ∙ ap (namespaces (modules.labels_in sets.modules)) (region-there inside sets c.self.view_is c.args.place kept c.index-kept.ensures lt no_region)
    ∙ ap (λ (ms : List LoadedModule). namespaces (modules.labels_in ms) kept.region) modules_are
