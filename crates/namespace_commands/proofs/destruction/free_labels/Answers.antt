use Rattle.std.proofs.Common.{◌≡◌, inl, List, Some, sym, ap, ◌∙◌}
use Rattle.region_map.specs.declared.platform.Region.{Region}
use Rattle.region_map.specs.Platforms.{region_at}
use Rattle.region_labels.specs.Fates.{with_regions}
use Rattle.namespace_passes.proofs.HealFlips.{on_ok}
use Rattle.module_flips.proofs.Passes.{pass-as, pass-on, sized-on}
use Rattle.label_sets.specs.Dropping.{CanDropIn}
use Rattle.label_sets.specs.Healing.{CanHealIn}
use Rattle.label_sets.specs.Sets.{platform_in}
use Rattle.namespace_commands.proofs.AcceptedCreates.{of-found}
use Rattle.namespace_commands.proofs.ChangePasses.{dropped-fits, dropped-state}
use Rattle.namespace_commands.proofs.destruction.free_labels.Goals as goal

pub mark_all-requires-clause-mark : goal.mark_all-requires-clause-mark
mark_all-requires-clause-mark g c =
    let sets = c.args.sets.now in
    let r = c.args.region.now in
    let found : region_at (platform_in sets) r.index ≡ Some r = ap (λ (rs : List Region). region_at (with_regions rs) r.index) (sym c.requires.platform) ∙ c.requires.known in
    of-found sets r.index r (CanHealIn sets c.args.uuid.now) found c.requires.heal

pub drop_all-requires-clause-drop : goal.drop_all-requires-clause-drop
drop_all-requires-clause-drop g c =
    let sets = c.args.sets.now in
    let mid = c.mark_all.new.self in
    let r = c.args.region.now in
    let did = c.in-Ok.ensures in
    let found : region_at (platform_in sets) r.index ≡ Some r = ap (λ (rs : List Region). region_at (with_regions rs) r.index) (sym c.requires.platform) ∙ c.requires.known in
    let there : region_at (platform_in mid) r.index ≡ Some r = ap (λ (rs : List Region). region_at (with_regions rs) r.index) (did.pass r found).regions ∙ found in
    of-found mid r.index r (CanDropIn mid c.args.uuid.now) there (did.marked r found).can_drop

pub drop_all-requires-clause-sized : goal.drop_all-requires-clause-sized
drop_all-requires-clause-sized g c =
    let sets = c.args.sets.now in
    let r = c.args.region.now in
    let found : region_at (platform_in sets) r.index ≡ Some r = ap (λ (rs : List Region). region_at (with_regions rs) r.index) (sym c.requires.platform) ∙ c.requires.known in
    sized-on (c.in-Ok.ensures.pass r found) c.requires.sized

pub returns-in-Ok-clause-gone : goal.returns-in-Ok-clause-gone
returns-in-Ok-clause-gone g c =
    let sets = c.args.sets.now in
    let mid = c.mark_all.new.self in
    let r = c.args.region.now in
    let u = c.args.uuid.now in
    let did = c.in-Ok.ensures in
    let found : region_at (platform_in sets) r.index ≡ Some r = ap (λ (rs : List Region). region_at (with_regions rs) r.index) (sym c.requires.platform) ∙ c.requires.known in
    let there : region_at (platform_in mid) r.index ≡ Some r = ap (λ (rs : List Region). region_at (with_regions rs) r.index) (did.pass r found).regions ∙ found in
    on_ok c.drop_all.result (λ gone. gone ∙ dropped-state sets r u mid (did.pass r found).regions (did.marked r found)) (c.drop_all.ensures.dropped r there)

pub returns-in-Ok-clause-pass : goal.returns-in-Ok-clause-pass
returns-in-Ok-clause-pass g c =
    let sets = c.args.sets.now in
    let mid = c.mark_all.new.self in
    let r = c.args.region.now in
    let u = c.args.uuid.now in
    let marks = c.in-Ok.ensures in
    let found : region_at (platform_in sets) r.index ≡ Some r = ap (λ (rs : List Region). region_at (with_regions rs) r.index) (sym c.requires.platform) ∙ c.requires.known in
    let there : region_at (platform_in mid) r.index ≡ Some r = ap (λ (rs : List Region). region_at (with_regions rs) r.index) (marks.pass r found).regions ∙ found in
    pass-on (pass-as (λ N kept. inl kept) (marks.pass r found)) (dropped-fits sets r u mid (marks.pass r found).regions (marks.marked r found)) (c.drop_all.ensures.pass r there)

pub returns-in-Err-clause-pass : goal.returns-in-Err-clause-pass
returns-in-Err-clause-pass g c =
    let sets = c.args.sets.now in
    let r = c.args.region.now in
    let found : region_at (platform_in sets) r.index ≡ Some r = ap (λ (rs : List Region). region_at (with_regions rs) r.index) (sym c.requires.platform) ∙ c.requires.known in
    pass-as (λ N kept. inl kept) (c.in-Err.ensures.pass r found)
