use Rattle.std.proofs.Common.{sym}
use Rattle.label_table.specs.Belonging.{member_at}
use Rattle.uuid_index.specs.declared.index.Found.TheVariants.{Nowhere, Once, Repeated}
use Rattle.region_labels.proofs.Found.{above-many, above-none, above-one}
use Rattle.region_labels.proofs.Seated.{found-here}
use Rattle.region_labels.proofs.region.RegionLabels.is_repeated.Goals as goal

pub returns-in-Nowhere : goal.returns-in-Nowhere
returns-in-Nowhere c = λ L index.
    let kept = c.args.self.now in
    sym (above-none c.args.uuid.now (L (member_at kept.region c.args.position).handle) (found-here c.args.uuid.now kept.region L kept.index.entries c.args.position Nowhere c.in-Nowhere.ensures.labels index c.requires))

pub returns-in-Once : goal.returns-in-Once
returns-in-Once c = λ L index.
    let kept = c.args.self.now in
    sym (above-one c.args.uuid.now (L (member_at kept.region c.args.position).handle) (found-here c.args.uuid.now kept.region L kept.index.entries c.args.position (Once c.in-Once.slot) c.in-Once.ensures.labels index c.requires).0)

pub returns-in-Repeated : goal.returns-in-Repeated
returns-in-Repeated c = λ L index.
    let kept = c.args.self.now in
    sym (above-many c.args.uuid.now (L (member_at kept.region c.args.position).handle) (found-here c.args.uuid.now kept.region L kept.index.entries c.args.position Repeated c.in-Repeated.ensures.labels index c.requires))
