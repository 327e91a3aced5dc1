use Rattle.std.proofs.Common.{◌≡◌, ℕ, List, Some, Ok, Err, refl, sym, ap, subst, ◌∙◌}
use Rattle.std.specs.Option.{option_copied}
use Rattle.label_table.proofs.ListTests.{some_is}
use Rattle.module_flips.specs.Passes.{IsPass}
use Rattle.module_flips.proofs.Passes.{no-pass}
use Rattle.region_labels.specs.Fates.{with_regions}
use Rattle.region_labels.specs.Regions.{handles}
use Rattle.label_sets.specs.Sets.{IsTableOf, StoredSets, kept_in, platform_in}
use Rattle.region_map.specs.declared.platform.Platform.{Platform}
use Rattle.region_map.specs.declared.platform.Region.{Region}
use Rattle.region_map.specs.Platforms.{region_at}
use Rattle.recovery.proofs.Pending.{found-own}
use Rattle.recovery.proofs.region.recover.Goals as goal

pub returns-in-Some-clause-pass : goal.returns-in-Some-clause-pass
returns-in-Some-clause-pass g c = λ found there. no-pass (handles found) (IsTableOf c.args.sets.now) (kept_in c.args.sets.now) c.args.rig.now tt refl

pub recover_members-requires-clause-found : goal.recover_members-requires-clause-found
recover_members-requires-clause-found g c =
    let r = c.in-Some-region.found.now in
    let there : region_at c.args.platform.now c.args.region ≡ Some r = sym c.region.ensures ∙ ap option_copied c.in-Some-region.is in
    found-own c.args.platform.now c.args.sets.now c.requires.platform c.args.region r there

-- the region that was found is the one
named : (P : Platform) (sets : StoredSets) → P.regions ≡ sets.regions → (index : ℕ) (r found : Region) → region_at P index ≡ Some r → region_at (platform_in sets) index ≡ Some found → r ≡ found
named P sets same index r found there is = some_is (sym there ∙ ap (λ (rs : List Region). region_at (with_regions rs) index) same ∙ is)

pub returns-in-Ok-clause-pass : goal.returns-in-Ok-clause-pass
returns-in-Ok-clause-pass g c = λ found is.
    let sets = c.args.sets.now in
    let r = c.in-Some-region.found.now in
    subst (λ (q : Region). IsPass (handles q) (IsTableOf sets) g.R.Shown (kept_in sets) c.args.rig.now (kept_in c.recover_members.new.sets) c.recover_members.new.rig (Ok (tt {0})))
    (named c.args.platform.now sets c.requires.platform c.args.region r found (sym c.region.ensures ∙ ap option_copied c.in-Some-region.is) is) c.in-Ok.ensures.pass

pub returns-in-Err-clause-pass : goal.returns-in-Err-clause-pass
returns-in-Err-clause-pass g c = λ found is.
    let sets = c.args.sets.now in
    let r = c.in-Some-region.found.now in
    subst (λ (q : Region). IsPass {T = Unit {0}} (handles q) (IsTableOf sets) g.R.Shown (kept_in sets) c.args.rig.now (kept_in c.recover_members.new.sets) c.recover_members.new.rig (Err c.in-Err.failed))
    (named c.args.platform.now sets c.requires.platform c.args.region r found (sym c.region.ensures ∙ ap option_copied c.in-Some-region.is) is) c.in-Err.ensures.pass
