use Rattle.std.proofs.Common.{◌≡◌, List, Some, sym, ap, ◌∙◌}
use Rattle.region_map.specs.declared.platform.Region.{Region}
use Rattle.region_map.specs.Platforms.{region_at}
use Rattle.region_labels.specs.Fates.{with_regions}
use Rattle.namespace_passes.proofs.HealFlips.{on_ok}
use Rattle.module_flips.proofs.Passes.{pass-as, pass-on, sized-on}
use Rattle.label_sets.specs.Healing.{CanHealIn}
use Rattle.label_sets.specs.Sets.{platform_in}
use Rattle.label_sets.specs.Staging.{CanStageIn}
use Rattle.label_sets.proofs.Platforms.{regions-disjoint}
use Rattle.label_sets.proofs.Stageable.{region-listed}
use Rattle.namespace_commands.proofs.AcceptedCreates.{of-found}
use Rattle.namespace_commands.proofs.PutSpaces.{can-heal, heal-fits, put-is, stage-fits, stages}
use Rattle.namespace_commands.proofs.creation.put_namespace.Goals as goal

pub stage_all-requires-clause-stage : goal.stage_all-requires-clause-stage
stage_all-requires-clause-stage g c =
    let sets = c.args.sets.now in
    let r = c.args.region.now in
    let found : region_at (platform_in sets) r.index ≡ Some r = ap (λ (rs : List Region). region_at (with_regions rs) r.index) (sym c.requires.platform) ∙ c.requires.known in
    of-found sets r.index r (CanStageIn sets c.args.space.now) found (stages sets r c.args.space.now c.requires.put)

pub clear_all-requires-clause-heal : goal.clear_all-requires-clause-heal
clear_all-requires-clause-heal g c =
    let sets = c.args.sets.now in
    let mid = c.stage_all.new.self in
    let s = c.args.space.now in
    let r = c.args.region.now in
    let did = c.in-Ok.ensures in
    let found : region_at (platform_in sets) r.index ≡ Some r = ap (λ (rs : List Region). region_at (with_regions rs) r.index) (sym c.requires.platform) ∙ c.requires.known in
    let there : region_at (platform_in mid) r.index ≡ Some r = ap (λ (rs : List Region). region_at (with_regions rs) r.index) (did.pass r found).regions ∙ found in
    of-found mid r.index r (CanHealIn mid s.uuid) there
    (can-heal sets r s mid (did.pass r found).regions (did.staged r found) (regions-disjoint c.args.platform.now sets.regions c.requires.sound (sym c.requires.platform)) (region-listed (platform_in sets) r.index r found) c.requires.put (did.pass r found).dimms (did.slots r found))

pub clear_all-requires-clause-sized : goal.clear_all-requires-clause-sized
clear_all-requires-clause-sized g c =
    let sets = c.args.sets.now in
    let r = c.args.region.now in
    let found : region_at (platform_in sets) r.index ≡ Some r = ap (λ (rs : List Region). region_at (with_regions rs) r.index) (sym c.requires.platform) ∙ c.requires.known in
    sized-on (c.in-Ok.ensures.pass r found) c.requires.sized

pub returns-in-Ok-clause-put : goal.returns-in-Ok-clause-put
returns-in-Ok-clause-put g c =
    let sets = c.args.sets.now in
    let mid = c.stage_all.new.self in
    let s = c.args.space.now in
    let r = c.args.region.now in
    let did = c.in-Ok.ensures in
    let found : region_at (platform_in sets) r.index ≡ Some r = ap (λ (rs : List Region). region_at (with_regions rs) r.index) (sym c.requires.platform) ∙ c.requires.known in
    let there : region_at (platform_in mid) r.index ≡ Some r = ap (λ (rs : List Region). region_at (with_regions rs) r.index) (did.pass r found).regions ∙ found in
    on_ok c.clear_all.result (put-is sets r s mid (did.pass r found).regions (did.staged r found) c.clear_all.new.self) (c.clear_all.ensures.healed r there)

pub returns-in-Ok-clause-pass : goal.returns-in-Ok-clause-pass
returns-in-Ok-clause-pass g c =
    let sets = c.args.sets.now in
    let mid = c.stage_all.new.self in
    let s = c.args.space.now in
    let r = c.args.region.now in
    let did = c.in-Ok.ensures in
    let found : region_at (platform_in sets) r.index ≡ Some r = ap (λ (rs : List Region). region_at (with_regions rs) r.index) (sym c.requires.platform) ∙ c.requires.known in
    let there : region_at (platform_in mid) r.index ≡ Some r = ap (λ (rs : List Region). region_at (with_regions rs) r.index) (did.pass r found).regions ∙ found in
    pass-on (pass-as (stage-fits sets r s) (did.pass r found)) (heal-fits sets r s mid (did.pass r found).regions (did.staged r found)) (c.clear_all.ensures.pass r there)

pub returns-in-Err-clause-pass : goal.returns-in-Err-clause-pass
returns-in-Err-clause-pass g c =
    let sets = c.args.sets.now in
    let r = c.args.region.now in
    let found : region_at (platform_in sets) r.index ≡ Some r = ap (λ (rs : List Region). region_at (with_regions rs) r.index) (sym c.requires.platform) ∙ c.requires.known in
    pass-as (stage-fits sets r c.args.space.now) (c.in-Err.ensures.pass r found)
