use Rattle.std.proofs.Common.{◌≡◌, List, Some, None, Result, Err, ℕ, sym, ap, subst, ◌∙◌}
use Rattle.region_map.specs.declared.platform.Region.{Region}
use Rattle.region_map.specs.Platforms.{region_at}
use Rattle.region_labels.specs.Fates.{with_regions}
use Rattle.label_table.specs.Statuses.{RegionReady, status}
use Rattle.rig_trait.specs.declared.shown.Shown.{Ghosts}
use Rattle.module_flips.specs.declared.flips.AreaFailed.{AreaFailed}
use Rattle.module_flips.specs.Passes.{IsPass}
use Rattle.label_sets.specs.Sets.{IsTableOf, StoredSets, kept_in, labels_in, platform_in}
use Rattle.recovery.specs.declared.region.RecoverFault.{RecoverFault}
use Rattle.recovery.specs.Recovery.{area_failed, unhealed_at, unhealed_by}
use Rattle.namespace_commands.proofs.AcceptedCreates.{of-found, unhealed-none}
use Rattle.namespace_commands.proofs.recovering.recover_ready.Goals as goal

pub recover-requires-clause-ready : goal.recover-requires-clause-ready
recover-requires-clause-ready g c =
    let sets = c.args.sets.now in
    let r = c.args.region.now in
    let found : region_at (platform_in sets) r.index ≡ Some r = ap (λ (rs : List Region). region_at (with_regions rs) r.index) (sym c.requires.platform) ∙ c.requires.known in
    of-found sets r.index r (λ (q : Region). status (labels_in sets) q ≡ RegionReady) found c.requires.ready

some-none : {A : Type 0} (x : ℕ) → Some x ≡ None → A
some-none x e = absurd cc

pub unreachable-requires : goal.unreachable-requires
unreachable-requires g c =
    let sets = c.args.sets.now in
    let r = c.args.region.now in
    let found : region_at (platform_in sets) r.index ≡ Some r = ap (λ (rs : List Region). region_at (with_regions rs) r.index) (sym c.requires.platform) ∙ c.requires.known in
    let none : unhealed_at sets r ≡ None = unhealed-none c.args.platform.now sets r (sym c.requires.platform) c.requires.healable in
    some-none c.in-Err-Unhealed.field-0-0 (sym (ap (unhealed_by {T = Unit {0}}) c.in-Err-Unhealed.is ∙ ap (λ (e : RecoverFault). unhealed_by {T = Unit {0}} (Err e)) c.in-Err-Unhealed.field-0-is) ∙ c.recover.ensures.unhealed r found ∙ none)

-- the same pass, told of its fault alone
told : {R : Type 0} {m : Ghosts R} {old new : R} {hs : List ℕ} (sets now : StoredSets) (result : Result Unit RecoverFault) (other : Result Unit AreaFailed) → area_failed result ≡ other
    → IsPass hs (IsTableOf sets) m (kept_in sets) old (kept_in now) new (area_failed result) → IsPass hs (IsTableOf sets) m (kept_in sets) old (kept_in now) new other
told {R} {m} {old} {new} {hs} sets now result other same pass = subst (λ (r : Result Unit AreaFailed). IsPass hs (IsTableOf sets) m (kept_in sets) old (kept_in now) new r) same pass

pub returns-in-Ok-clause-pass : goal.returns-in-Ok-clause-pass
returns-in-Ok-clause-pass g c =
    let sets = c.args.sets.now in
    let r = c.args.region.now in
    let found : region_at (platform_in sets) r.index ≡ Some r = ap (λ (rs : List Region). region_at (with_regions rs) r.index) (sym c.requires.platform) ∙ c.requires.known in
    c.in-Ok.ensures.pass r found

pub returns-in-Err-Failed-clause-pass : goal.returns-in-Err-Failed-clause-pass
returns-in-Err-Failed-clause-pass g c =
    let sets = c.args.sets.now in
    let r = c.args.region.now in
    let found : region_at (platform_in sets) r.index ≡ Some r = ap (λ (rs : List Region). region_at (with_regions rs) r.index) (sym c.requires.platform) ∙ c.requires.known in
    told sets c.recover.new.sets c.recover.result (Err (record { dimm = c.in-Err-Failed.dimm }))
    (ap (area_failed {T = Unit {0}}) c.in-Err-Failed.is ∙ ap (λ (e : RecoverFault). area_failed {T = Unit {0}} (Err e)) c.in-Err-Failed.field-0-is) (c.recover.ensures.pass r found)
