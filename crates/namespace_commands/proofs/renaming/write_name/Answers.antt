use Rattle.std.proofs.Common.{◌≡◌, List, Some, sym, ap, ◌∙◌}
use Rattle.region_map.specs.declared.platform.Region.{Region}
use Rattle.region_map.specs.Platforms.{region_at}
use Rattle.region_labels.specs.Fates.{with_regions}
use Rattle.namespace_passes.proofs.HealFlips.{on_ok}
use Rattle.module_flips.proofs.Passes.{pass-as, pass-on, sized-on}
use Rattle.label_sets.specs.Healing.{CanHealIn}
use Rattle.label_sets.specs.Sets.{platform_in}
use Rattle.namespace_commands.proofs.AcceptedCreates.{of-found}
use Rattle.namespace_commands.proofs.ChangePasses.{healed-fits, named-is, renamed-fits}
use Rattle.namespace_commands.proofs.renaming.write_name.Goals as goal

pub change_first-requires-clause-rename : goal.change_first-requires-clause-rename
change_first-requires-clause-rename g c =
    let sets = c.args.sets.now in
    let r = c.args.region.now in
    let found : region_at (platform_in sets) r.index ≡ Some r = ap (λ (rs : List Region). region_at (with_regions rs) r.index) (sym c.requires.platform) ∙ c.requires.known in
    of-found sets r.index r (CanHealIn sets c.args.uuid.now) found c.requires.heal

pub clear_all-requires-clause-heal : goal.clear_all-requires-clause-heal
clear_all-requires-clause-heal g c =
    let sets = c.args.sets.now in
    let mid = c.change_first.new.self in
    let r = c.args.region.now in
    let did = c.in-Ok.ensures in
    let found : region_at (platform_in sets) r.index ≡ Some r = ap (λ (rs : List Region). region_at (with_regions rs) r.index) (sym c.requires.platform) ∙ c.requires.known in
    let there : region_at (platform_in mid) r.index ≡ Some r = ap (λ (rs : List Region). region_at (with_regions rs) r.index) (did.pass r found).regions ∙ found in
    of-found mid r.index r (CanHealIn mid c.args.uuid.now) there (did.renamed r found).can_heal

pub clear_all-requires-clause-sized : goal.clear_all-requires-clause-sized
clear_all-requires-clause-sized g c =
    let sets = c.args.sets.now in
    let r = c.args.region.now in
    let found : region_at (platform_in sets) r.index ≡ Some r = ap (λ (rs : List Region). region_at (with_regions rs) r.index) (sym c.requires.platform) ∙ c.requires.known in
    sized-on (c.in-Ok.ensures.pass r found) c.requires.sized

pub returns-in-Ok-clause-named : goal.returns-in-Ok-clause-named
returns-in-Ok-clause-named g c =
    let sets = c.args.sets.now in
    let mid = c.change_first.new.self in
    let r = c.args.region.now in
    let u = c.args.uuid.now in
    let did = c.in-Ok.ensures in
    let found : region_at (platform_in sets) r.index ≡ Some r = ap (λ (rs : List Region). region_at (with_regions rs) r.index) (sym c.requires.platform) ∙ c.requires.known in
    let there : region_at (platform_in mid) r.index ≡ Some r = ap (λ (rs : List Region). region_at (with_regions rs) r.index) (did.pass r found).regions ∙ found in
    on_ok c.clear_all.result (named-is sets r u mid (did.pass r found).regions c.args.name.now (did.renamed r found) c.clear_all.new.self) (c.clear_all.ensures.healed r there)

pub returns-in-Ok-clause-pass : goal.returns-in-Ok-clause-pass
returns-in-Ok-clause-pass g c =
    let sets = c.args.sets.now in
    let mid = c.change_first.new.self in
    let r = c.args.region.now in
    let u = c.args.uuid.now in
    let name = c.args.name.now in
    let named = c.in-Ok.ensures in
    let found : region_at (platform_in sets) r.index ≡ Some r = ap (λ (rs : List Region). region_at (with_regions rs) r.index) (sym c.requires.platform) ∙ c.requires.known in
    let there : region_at (platform_in mid) r.index ≡ Some r = ap (λ (rs : List Region). region_at (with_regions rs) r.index) (named.pass r found).regions ∙ found in
    pass-on (pass-as (renamed-fits sets r u name) (named.pass r found)) (healed-fits sets r u mid (named.pass r found).regions name (named.renamed r found)) (c.clear_all.ensures.pass r there)

pub returns-in-Err-clause-pass : goal.returns-in-Err-clause-pass
returns-in-Err-clause-pass g c =
    let sets = c.args.sets.now in
    let r = c.args.region.now in
    let found : region_at (platform_in sets) r.index ≡ Some r = ap (λ (rs : List Region). region_at (with_regions rs) r.index) (sym c.requires.platform) ∙ c.requires.known in
    pass-as (renamed-fits sets r c.args.uuid.now c.args.name.now) (c.in-Err.ensures.pass r found)
