use Rattle.std.proofs.Common.{◌≡◌, List, map, refl, sym, ap, subst, ◌∙◌}
use Rattle.label_table.specs.Namespaces.{namespaces}
use Rattle.label_table.specs.Statuses.{status}
use Rattle.region_labels.specs.declared.modules.LoadedModule.{LoadedModule}
use Rattle.region_labels.specs.Marks.{listed_in}
use Rattle.region_labels.specs.Modules as modules
use Rattle.region_labels.specs.Statuses.{shown_status, space_in}
use Rattle.region_labels.proofs.Sorted.{unlisted}
use Rattle.region_map.specs.declared.platform.Region.{Region}
use Rattle.region_labels.specs.Fates.{platform_of}
use Rattle.label_sets.specs.Sets.{StoredSets, labels_in, platform_in}
use Rattle.label_sets.specs.Views.{ShowsFree}
use Rattle.label_sets.proofs.Viewed.{place-inside, region-there, region-viewed}
use Rattle.label_sets.proofs.sets.Sets.view_at.Goals as goal

pub status-status-requires-clause-spaces : goal.status-status-requires-clause-spaces
status-status-requires-clause-spaces c =
    let r = c.index-kept.result.now.region in
    let L = modules.labels_in c.deref.result.now in
    let same = c.deref.ensures.value ∙ sym c.deref-2.ensures.value in
    ap (map space_in) (c.deref-3.ensures.value ∙ c.in_ok-spaces.ensures) ∙ unlisted L r (namespaces L r) ∙ (λ i. namespaces (modules.labels_in (same i)) r)

pub free_at-requires-clause-spaces : goal.free_at-requires-clause-spaces
free_at-requires-clause-spaces c = λ d.
    let sets = c.args.self.now in
    let kept = c.index-kept.result.now in
    let L = modules.labels_in c.deref.result.now in
    let lt = place-inside c.self.inside sets c.self.view_is c.args.place c.requires in
    let modules_are : c.deref.result.now ≡ sets.modules = c.deref.ensures.value ∙ ap (λ (s : StoredSets). s.modules) c.self.view_is in
    ap (map space_in) (c.deref-4.ensures.value ∙ c.in_ok-spaces.ensures) ∙ unlisted L kept.region (namespaces L kept.region)
    ∙ ap (λ (ms : List LoadedModule). namespaces (modules.labels_in ms) kept.region) modules_are
    ∙ ap (namespaces (modules.labels_in sets.modules)) (sym (region-there c.self.inside sets c.self.view_is c.args.place kept c.index-kept.ensures lt d))

pub returns : goal.returns
returns c = λ d.
    let inside = c.self.inside in
    let sets = c.args.self.now in
    let kept = c.index-kept.result.now in
    let r = kept.region in
    let P = platform_of inside.regions.items in
    let L = modules.labels_in inside.modules.items in
    let lt = place-inside inside sets c.self.view_is c.args.place c.requires in
    let status_is = c.status-status.ensures ∙ (λ i. shown_status (status (modules.labels_in (c.deref-2.ensures.value i)) r)) in
    let free_are : ShowsFree P L r (status L r) c.in_ok-free.free =
    subst (λ (s : StoredSets). ShowsFree (platform_in s) (labels_in s) r (status L r) c.in_ok-free.free) (sym c.self.view_is)
    (subst (λ (q : Region). ShowsFree (platform_in sets) (labels_in sets) q (status L r) c.in_ok-free.free) (region-there inside sets c.self.view_is c.args.place kept c.index-kept.ensures lt d)
    (c.in_ok-free.ensures d (status L r) status_is)) in
    region-viewed inside sets c.self.view_is c.args.place kept c.index-kept.ensures lt _ (record {
      index_is = refl;
      spa_is = refl;
      length_is = refl;
      ways_is = c.len.ensures;
      cookie_is = refl;
      status_is = status_is;
      namespaces_are = c.from_vec.ensures ∙ c.in_ok-spaces.ensures ∙ (λ i. map (listed_in (modules.labels_in (c.deref.ensures.value i)) r) (namespaces (modules.labels_in (c.deref.ensures.value i)) r));
      free_are = free_are;
    }) d
