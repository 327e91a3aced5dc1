use Rattle.std.proofs.Common.{sym, ap, subst, ◌∙◌}
use Rattle.region_labels.specs.declared.modules.ModuleArea.{ModuleArea}
use Rattle.module_flips.specs.Flips.{IsAreaOf, standing_in, with_free}
use Rattle.module_flips.specs.Stored.{StoredAs}
use Rattle.module_flips.proofs.Flipped.{free-left}
use Rattle.module_flips.proofs.flips.free_in.Goals as goal

pub returns-in-Ok-clause-freed : goal.returns-in-Ok-clause-freed
returns-in-Ok-clause-freed g c =
    c.in-Ok.ensures.freed ∙ ap (λ (a : ModuleArea). with_free c.args.slots.now (standing_in (record { dimm = c.args.loaded.now.dimm; area = a }))) (sym c.in-Ready.is)

pub returns-in-Ok-clause-any_moment : goal.returns-in-Ok-clause-any_moment
returns-in-Ok-clause-any_moment g c = λ told stands.
    let loaded = c.args.loaded.now in
    let areas = g.R.Shown.areas c.args.rig.now in
    free-left g.R.Shown c.args.rig.now c.free.new.rig loaded.dimm loaded.area c.in-Ready.area c.args.slots.now c.in-Ready.is (subst (IsAreaOf loaded.dimm) c.in-Ready.is c.requires.own)
    (c.in-Ok.ensures.any_moment told (subst (StoredAs areas loaded.dimm) c.in-Ready.is stands).1)

pub returns-in-Err-clause-any_moment : goal.returns-in-Err-clause-any_moment
returns-in-Err-clause-any_moment g c = λ told stands.
    let loaded = c.args.loaded.now in
    let areas = g.R.Shown.areas c.args.rig.now in
    free-left g.R.Shown c.args.rig.now c.free.new.rig loaded.dimm loaded.area c.in-Ready.area c.args.slots.now c.in-Ready.is (subst (IsAreaOf loaded.dimm) c.in-Ready.is c.requires.own)
    (c.in-Err.ensures.any_moment told (subst (StoredAs areas loaded.dimm) c.in-Ready.is stands).1)
