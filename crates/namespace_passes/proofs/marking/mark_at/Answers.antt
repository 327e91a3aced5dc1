use Rattle.std.proofs.Common.{refl, sym, subst}
use Rattle.region_labels.specs.Fates.{platform_of}
use Rattle.region_labels.specs.Modules.{labels_in}
use Rattle.region_labels.specs.Regions.{handles}
use Rattle.module_flips.specs.Passes.{kept_of}
use Rattle.module_flips.proofs.Passes.{no-pass}
use Rattle.namespace_passes.specs.Passes.{HasTableOf}
use Rattle.namespace_passes.proofs.HealFlips.{flip-pass, flip-still, no_module, on_ok, replaced-there}
use Rattle.namespace_passes.proofs.Passing.{still-kept}
use Rattle.namespace_passes.specs.Marking.{IsMarkedAt}
use Rattle.namespace_passes.proofs.MarkFlips.{kept-turn, mark-turn}
use Rattle.namespace_passes.proofs.marking.mark_at.Goals as goal

pub returns-then-is_updating-clause-marked : goal.returns-then-is_updating-clause-marked
returns-then-is_updating-clause-marked g c =
    kept-turn c.args.modules.now c.args.regions.now c.args.region.now c.args.uuid.now c.args.position c.requires.within c.requires.can c.place_at-own.result c.place_at-own.ensures (sym c.if-is_updating.ensures)

pub returns-then-is_updating-clause-pass : goal.returns-then-is_updating-clause-pass
returns-then-is_updating-clause-pass g c = no-pass (handles c.args.region.now) (HasTableOf c.args.modules.now c.args.regions.now) (kept_of c.args.modules.now c.args.regions.now) c.args.rig.now tt refl

pub returns-then-is_updating-clause-still : goal.returns-then-is_updating-clause-still
returns-then-is_updating-clause-still g c = still-kept c.args.modules.now c.args.regions.now c.args.modules.now c.args.regions.now c.requires.can.together refl refl

pub put_at-requires-clause-replaces : goal.put_at-requires-clause-replaces
put_at-requires-clause-replaces g c =
    replaced-there c.args.modules.now c.args.regions.now c.args.region.now c.args.uuid.now c.args.position c.requires.within c.requires.can c.place_at-own.result c.place_at-own.ensures

pub returns-clause-marked : goal.returns-clause-marked
returns-clause-marked g c =
    on_ok c.put_at.result (λ same. subst (λ labels. IsMarkedAt (platform_of c.args.regions.now) c.args.region.now c.args.uuid.now c.args.position (labels_in c.args.modules.now) labels) (sym same)
    (mark-turn c.args.modules.now c.args.regions.now c.args.region.now c.args.uuid.now c.args.position c.requires.within c.requires.can c.place_at-own.result c.place_at-own.ensures
    c.marked_label-marked.result c.put_at.ensures.slot_within c.put_at.ensures.slot_free c.marked_label-marked.ensures no_module))
    (c.put_at.ensures.labels no_module)

pub returns-clause-still : goal.returns-clause-still
returns-clause-still g c =
    let did = c.put_at.ensures in
    flip-still c.args.modules.now c.args.regions.now c.args.region.now c.args.uuid.now c.args.position c.requires.within c.requires.can c.place_at-own.result c.place_at-own.ensures c.marked_label-marked.result did.slot_within did.slot_free
    c.put_at.result c.put_at.new.modules c.put_at.new.regions did.put did.together did.free_slots (did.regions no_module) did.kept did.kept_regions

pub returns-clause-pass : goal.returns-clause-pass
returns-clause-pass g c =
    let ms = c.args.modules.now in
    let rs = c.args.regions.now in
    let label = c.marked_label-marked.result in
    let did = c.put_at.ensures in
    let marked = mark-turn ms rs c.args.region.now c.args.uuid.now c.args.position c.requires.within c.requires.can c.place_at-own.result c.place_at-own.ensures label did.slot_within did.slot_free c.marked_label-marked.ensures no_module in
    flip-pass ms rs c.args.region.now c.args.uuid.now c.args.position c.requires.within c.requires.can c.place_at-own.result c.place_at-own.ensures label did.slot_within did.slot_free
    (HasTableOf ms rs) refl marked.same_table (did.pass no_module)
