use Rattle.std.proofs.Common.{sym, ap, subst, ◌∙◌}
use Rattle.label_codec.specs.ModuleLabels.{Module}
use Rattle.label_table.specs.Belonging.{member_at}
use Rattle.label_table.specs.Plain.{IsOnly}
use Rattle.uuid_index.specs.declared.index.Found.TheVariants.{Nowhere, Once, Repeated}
use Rattle.region_labels.specs.Modules.{labels_in}
use Rattle.region_labels.proofs.Found.{not-once_many, not-once_none, only-live}
use Rattle.region_labels.proofs.Seated.{found-here}
use Rattle.region_labels.proofs.region.RegionLabels.only_label.Goals as goal

pub returns-in-Nowhere : goal.returns-in-Nowhere
returns-in-Nowhere c =
    let kept = c.args.self.now in
    let L = labels_in c.args.modules.now in
    not-once_none c.args.uuid.now (L (member_at kept.region c.args.position).handle)
    (found-here c.args.uuid.now kept.region L kept.index.entries c.args.position Nowhere c.in-Nowhere.ensures.labels c.requires.over.index c.requires.position)

pub returns-in-Repeated : goal.returns-in-Repeated
returns-in-Repeated c =
    let kept = c.args.self.now in
    let L = labels_in c.args.modules.now in
    not-once_many c.args.uuid.now (L (member_at kept.region c.args.position).handle)
    (found-here c.args.uuid.now kept.region L kept.index.entries c.args.position Repeated c.in-Repeated.ensures.labels c.requires.over.index c.requires.position)

pub returns-in-Once : goal.returns-in-Once
returns-in-Once c =
    let kept = c.args.self.now in
    let L = labels_in c.args.modules.now in
    let slot = c.in-Once.slot in
    let M : Module = L (member_at kept.region c.args.position).handle in
    let found = found-here c.args.uuid.now kept.region L kept.index.entries c.args.position (Once slot) c.in-Once.ensures.labels c.requires.over.index c.requires.position in
    let shown = c.label.ensures ∙ ap (λ (N : Module). N.at slot) c.module_at.ensures.stands ∙ found.1.is in
    subst (λ o. IsOnly c.args.uuid.now M o) (sym shown) (only-live c.args.uuid.now M slot found.0 found.1)
