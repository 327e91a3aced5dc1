use Rattle.std.proofs.Common.{Option, sym, ap, ◌∙◌}
use Rattle.std.specs.Option.{option_and_then}
use Rattle.region_map.specs.declared.platform.Region.{Region}
use Rattle.region_labels.specs.Marks.{namespace_at}
use Rattle.region_labels.specs.Modules as modules
use Rattle.label_sets.specs.Sets.{StoredSets, labels_in}
use Rattle.label_sets.proofs.sets.Sets.namespace.Goals as goal

pub returns : goal.returns
returns c =
    let sets = c.args.self.now in
    let modules_are = c.deref.ensures.value ∙ ap (λ (s : StoredSets). s.modules) c.self.view_is in
    c.namespace.ensures ∙ ap (λ ms. namespace_at (modules.labels_in ms) c.in-Some.kept.now.region c.args.uuid.now) modules_are
    ∙ ap (λ (found : Option Region). option_and_then (λ r. namespace_at (labels_in sets) r c.args.uuid.now) found) (sym c.in-Some.ensures.found)
