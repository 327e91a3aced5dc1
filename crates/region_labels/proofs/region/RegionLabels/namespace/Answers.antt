use Rattle.std.proofs.Common.{◌<◌, length, Some, sym, ap, ◌∙◌, arith}
use Rattle.region_labels.specs.Modules.{labels_in}
use Rattle.region_labels.proofs.Marked.{is-namespace, leading-is}
use Rattle.region_labels.proofs.region.RegionLabels.namespace.Goals as goal

pub returns : goal.returns
returns c =
    let r = c.args.self.now.region in
    let L = labels_in c.args.modules.now in
    let u = c.args.uuid.now in
    let l = c.in-Some.leading.now in
    let some : 0 < length r.members = omega (arith, c.len.ensures, c.if-len-eq0.false) in
    let ready = sym c.all_ready.ensures ∙ c.if-not-all_ready.false in
    let of = sym c.is_of_namespace.ensures ∙ c.if-not-is_of_namespace.false in
    ap Some c.namespace.ensures ∙ is-namespace L r u l c.in-Some-marks.marks ready (leading-is L r u l some c.in-Some.ensures) c.in-Some-marks.ensures of
