use Rattle.std.proofs.Common.{sym, ap, subst, ◌∙◌}
use Rattle.region_labels.specs.declared.modules.ModuleArea.{ModuleArea}
use Rattle.module_flips.specs.Flips.{IsAreaOf, first_slot_in, standing_in, with_put}
use Rattle.module_flips.specs.Stored.{StoredAs}
use Rattle.module_flips.proofs.Put.{put-left}
use Rattle.module_flips.proofs.flips.put_in.Goals as goal

pub returns-in-Ok-clause-put : goal.returns-in-Ok-clause-put
returns-in-Ok-clause-put g c =
    c.in-Ok.ensures.put
    ∙ ap (λ (a : ModuleArea). with_put (first_slot_in (record { dimm = c.args.loaded.now.dimm; area = a })) c.args.label.now c.args.replaces (standing_in (record { dimm = c.args.loaded.now.dimm; area = a }))) (sym c.in-Ready.is)

pub returns-in-Ok-clause-any_moment : goal.returns-in-Ok-clause-any_moment
returns-in-Ok-clause-any_moment g c = λ told stands.
    let loaded = c.args.loaded.now in
    let areas = g.R.Shown.areas c.args.rig.now in
    put-left g.R.Shown c.args.rig.now c.put.new.rig loaded.dimm loaded.area c.in-Ready.area c.args.label.now c.args.replaces c.in-Ready.is (subst (IsAreaOf loaded.dimm) c.in-Ready.is c.requires.own)
    (c.in-Ok.ensures.any_moment told (subst (StoredAs areas loaded.dimm) c.in-Ready.is stands).1)

pub returns-in-Err-clause-any_moment : goal.returns-in-Err-clause-any_moment
returns-in-Err-clause-any_moment g c = λ told stands.
    let loaded = c.args.loaded.now in
    let areas = g.R.Shown.areas c.args.rig.now in
    put-left g.R.Shown c.args.rig.now c.put.new.rig loaded.dimm loaded.area c.in-Ready.area c.args.label.now c.args.replaces c.in-Ready.is (subst (IsAreaOf loaded.dimm) c.in-Ready.is c.requires.own)
    (c.in-Err.ensures.any_moment told (subst (StoredAs areas loaded.dimm) c.in-Ready.is stands).1)
