use Rattle.std.proofs.Common.{[], ◌∷◌, sym, ◌∙◌}
use Rattle.view_types.specs.declared.reply.Reply.TheVariants.{Released}
use Rattle.module_flips.proofs.Turned.{only-one}
use Rattle.module_flips.specs.Releases.{IsBeforeOrReleased}
use Rattle.label_sets.specs.Sets.{labels_in, platform_in, state_in}
use Rattle.table_steps.specs.Release.{Releases}
use Rattle.namespace_commands.proofs.Passes.{done-change, failed-change, memory-change, refused-change}
use Rattle.namespace_commands.proofs.ReleaseEnds.{can-release, known-there, release-fits, releases, releases-refused}
use Rattle.namespace_commands.proofs.releasing.release_held.Goals as goal

pub returns-in-Ok-Some-clause-change : goal.returns-in-Ok-Some-clause-change
returns-in-Ok-Some-clause-change g c =
    let P = c.args.platform.now in
    let sets = c.args.sets.now in
    let u = c.args.uuid.now in
    refused-change g.R.Shown (c.args.dimm ∷ []) P (Releases P (labels_in sets) c.args.dimm u) sets c.args.rig.now c.in-Ok-Some.refusal
    (releases-refused P sets c.requires.state.regions c.args.dimm u c.in-Ok-Some.refusal (sym c.in-Ok-Some.ensures ∙ c.in-Ok-Some.field-0-is))

pub returns-in-Err-clause-change : goal.returns-in-Err-clause-change
returns-in-Err-clause-change g c =
    let P = c.args.platform.now in
    let sets = c.args.sets.now in
    memory-change g.R.Shown (c.args.dimm ∷ []) P (Releases P (labels_in sets) c.args.dimm c.args.uuid.now) sets c.args.rig.now

pub release-requires-clause-platform : goal.release-requires-clause-platform
release-requires-clause-platform g c = sym c.requires.state.regions

pub release-requires-clause-release : goal.release-requires-clause-release
release-requires-clause-release g c =
    can-release c.args.platform.now c.args.sets.now c.requires.state.regions c.args.dimm c.args.uuid.now (sym c.in-Ok-None.ensures ∙ c.in-Ok-None.field-0-is) c.requires.sound

pub returns-in-Ok-clause-change : goal.returns-in-Ok-clause-change
returns-in-Ok-clause-change g c =
    let P = c.args.platform.now in
    let sets = c.args.sets.now in
    let now = c.release.new.self in
    let u = c.args.uuid.now in
    let dimm = c.args.dimm in
    let same = c.requires.state.regions in
    let none = sym c.in-Ok-None.ensures ∙ c.in-Ok-None.field-0-is in
    let F = IsBeforeOrReleased (platform_in sets) dimm u (labels_in sets) in
    done-change g.R.Shown (dimm ∷ []) P (Releases P (labels_in sets) dimm u) sets c.args.rig.now c.release.new.rig F now (release-fits P sets same dimm u none) c.in-Ok.count (Released c.in-Ok.count)
    c.in-Ok.ensures.pass
    (λ fact. tt) (releases P sets same dimm u none c.in-Ok.count (state_in now) c.in-Ok.ensures.count c.in-Ok.ensures.released)

pub returns-in-Err-release-clause-change : goal.returns-in-Err-release-clause-change
returns-in-Err-release-clause-change g c =
    let P = c.args.platform.now in
    let sets = c.args.sets.now in
    let now = c.release.new.self in
    let u = c.args.uuid.now in
    let dimm = c.args.dimm in
    let same = c.requires.state.regions in
    let none = sym c.in-Ok-None.ensures ∙ c.in-Ok-None.field-0-is in
    let F = IsBeforeOrReleased (platform_in sets) dimm u (labels_in sets) in
    failed-change g.R.Shown (dimm ∷ []) P (Releases P (labels_in sets) dimm u) sets c.args.rig.now c.release.new.rig F now (release-fits P sets same dimm u none) c.in-Err-release.failed
    c.in-Err-release.ensures.pass

pub returns-in-Err-release-clause-among : goal.returns-in-Err-release-clause-among
returns-in-Err-release-clause-among g c =
    known-there c.args.platform.now c.args.sets.now c.requires.state.regions c.args.dimm c.args.uuid.now (sym c.in-Ok-None.ensures ∙ c.in-Ok-None.field-0-is) c.requires.sound c.in-Err-release.failed.dimm (only-one c.args.dimm c.in-Err-release.failed.dimm c.in-Err-release.ensures.pass.cause.known)
