use Rattle.std.proofs.Common.{◌<◌, ap, subst, sym, ◌∙◌}
use Rattle.std.proofs.lemmas.Option.{IfSome_then}
use Rattle.region_map.specs.declared.platform.Region.{Region}
use Rattle.label_table.specs.Division.{is_common_free}
use Rattle.label_table.specs.Tables.{State}
use Rattle.region_labels.specs.Fates.{platform_of}
use Rattle.region_labels.specs.Modules.{labels_in}
use Rattle.namespace_passes.specs.Staged.{new_space}
use Rattle.label_sets.proofs.FreeAfter.{known-gained, known-kept}
use Rattle.label_sets.proofs.FreeRoom.{element}
use Rattle.label_sets.proofs.staging.stage_in.Goals as goal

pub take-requires-clause-within : goal.take-requires-clause-within
take-requires-clause-within g c =
    let stage = c.requires.stage in
    IfSome_then c.args.free.now stage.all_free (λ spaces all. subst (λ n. c.args.place < n) (sym all.each) stage.within)

pub take-requires-clause-free : goal.take-requires-clause-free
take-requires-clause-free g c =
    let stage = c.requires.stage in
    IfSome_then c.args.free.now stage.all_free (λ spaces all e o from below.
    let d = (element c.args.regions.now c.args.place stage.within).0 in
    let kept = all.is c.args.place d e stage.within in
    kept.extents.free_in o
    ∙ ap (λ (r : Region). is_common_free (platform_of c.args.regions.now) (labels_in c.args.modules.now) r o) (stage.is d)
    ∙ stage.is_open o from below)

pub returns-in-Ok-clause-free : goal.returns-in-Ok-clause-free
returns-in-Ok-clause-free g c =
    let stage = c.requires.stage in
    let together = c.stage_labels.ensures.together in
    known-gained c.args.modules.now c.args.regions.now stage.can.together.disjoint c.stage_labels.new.modules c.stage_labels.new.regions together.same_regions
    c.args.free.now c.take.new.self stage.all_free c.args.place c.args.region.now (new_space c.args.space.now) stage.within stage.is stage.ordered c.in-Ok.ensures.staged.gains c.take.ensures

pub returns-in-Err-clause-free : goal.returns-in-Err-clause-free
returns-in-Err-clause-free g c =
    let stage = c.requires.stage in
    let together = c.stage_labels.ensures.together in
    known-kept c.args.modules.now c.args.regions.now stage.can.together.disjoint c.stage_labels.new.modules c.stage_labels.new.regions together.same_regions
    c.args.free.now stage.all_free (ap (λ (s : State). s.table) c.in-Err.ensures.failed)
