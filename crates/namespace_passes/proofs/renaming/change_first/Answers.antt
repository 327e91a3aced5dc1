use Rattle.std.proofs.Common.{◌≡◌, ◌<◌, ◌+◌, inl, inr, ℕ, List, Some, None, Result, length, refl, sym, subst}
use Rattle.std.specs.Prelude.{OnErr, OnOk, slice_index_or}
use Rattle.std.specs.List.{AllZip}
use Rattle.label_codec.specs.declared.label.Label.{Label}
use Rattle.region_map.specs.declared.platform.Region.{Region}
use Rattle.region_labels.specs.Changes.{dimm_at}
use Rattle.region_labels.specs.Rooms.{KeepsRegion, room_after_put}
use Rattle.region_labels.specs.SlotLabels.{replaced_label}
use Rattle.region_labels.specs.declared.modules.LoadedModule.{LoadedModule}
use Rattle.region_labels.specs.declared.region.RegionLabels.{RegionLabels}
use Rattle.region_labels.specs.Fates.{platform_of}
use Rattle.region_labels.specs.Modules.{labels_in, module_in}
use Rattle.module_flips.specs.Flips.{IsPutAt, first_slot_in}
use Rattle.module_flips.specs.Together.{StaysTogether, free_slots}
use Rattle.namespace_passes.specs.declared.places.LabelPlace.{LabelPlace}
use Rattle.namespace_passes.specs.Healing.{CanHeal, StandsAt}
use Rattle.namespace_passes.proofs.HealEnds.{some-members}
use Rattle.namespace_passes.proofs.HealFlips.{flip-pass, flip-still, no_module, on_ok, replaced-there}
use Rattle.namespace_passes.specs.Passes.{IsStill}
use Rattle.namespace_passes.specs.Renaming.{HasName, IsBeforeOrRenamed}
use Rattle.namespace_passes.proofs.MarkFlips.{rename-turn}
use Rattle.namespace_passes.proofs.renaming.change_first.Goals as goal

-- the region has a module at position 0
some : {ms : List LoadedModule} {rs : List RegionLabels} {region : Region} {u : List ℕ} → CanHeal ms rs region u → 0 < length region.members
some {ms} {rs} {region} {u} can = some-members region u (labels_in ms) can.whole

pub put_at-requires-clause-replaces : goal.put_at-requires-clause-replaces
put_at-requires-clause-replaces g c =
    replaced-there c.args.modules.now c.args.regions.now c.args.region.now c.args.uuid.now 0 (some c.requires.can) c.requires.can c.place_at-own.result c.place_at-own.ensures

-- Modules and regions go together as before.
still : {T E : Type 0} {ms now : List LoadedModule} {rs regions_now : List RegionLabels} {region : Region} {u : List ℕ} {place : LabelPlace} (result : Result T E) (label : Label) → CanHeal ms rs region u → StandsAt ms region u 0 place
    → ((d : LoadedModule) → first_slot_in (slice_index_or ms place.seat d) < (module_in (slice_index_or ms place.seat d)).slots)
    → ((d : LoadedModule) → (module_in (slice_index_or ms place.seat d)).at (first_slot_in (slice_index_or ms place.seat d)) ≡ None) → OnOk result (IsPutAt ms now place.seat label (Some place.slot))
    → OnOk result (StaysTogether ms rs now regions_now) → ((d : LoadedModule) → OnOk result (free_slots (slice_index_or now place.seat d) + 1 ≡ free_slots (slice_index_or ms place.seat d) + 1))
    → OnOk result (AllZip (KeepsRegion (room_after_put (dimm_at ms place.seat) (replaced_label (module_in (slice_index_or ms place.seat no_module)) (Some place.slot)))) rs regions_now)
    → OnErr result (now ≡ ms) → OnErr result (regions_now ≡ rs) → IsStill ms rs now regions_now
still {T} {E} {ms} {now} {rs} {regions_now} {region} {u} {place} result label can at within was_free put together free rooms kept kept_regions =
    flip-still ms rs region u 0 (some can) can place at label within was_free result now regions_now put together free rooms kept kept_regions

pub returns-clause-renamed : goal.returns-clause-renamed
returns-clause-renamed g c =
    let did = c.put_at.ensures in
    let stays = still c.put_at.result c.renamed_label-renamed.result c.requires.can c.place_at-own.ensures did.slot_within did.slot_free did.put did.together did.free_slots (did.regions no_module) did.kept did.kept_regions in
    on_ok c.put_at.result (λ same. record {
      has_name = subst (λ labels. HasName (platform_of c.args.regions.now) c.args.region.now c.args.uuid.now c.args.name.now (labels_in c.args.modules.now) labels) (sym same)
          (rename-turn c.args.modules.now c.args.regions.now c.args.region.now c.args.uuid.now 0 (some c.requires.can) c.requires.can c.place_at-own.result c.place_at-own.ensures
          c.renamed_label-renamed.result did.slot_within did.slot_free c.args.name.now c.renamed_label-renamed.ensures refl no_module);
      same_free = stays.same_free;
    })
    (did.labels no_module)

pub returns-clause-still : goal.returns-clause-still
returns-clause-still g c =
    let did = c.put_at.ensures in
    still c.put_at.result c.renamed_label-renamed.result c.requires.can c.place_at-own.ensures did.slot_within did.slot_free did.put did.together did.free_slots (did.regions no_module) did.kept did.kept_regions

pub returns-clause-pass : goal.returns-clause-pass
returns-clause-pass g c =
    let ms = c.args.modules.now in
    let rs = c.args.regions.now in
    let region = c.args.region.now in
    let u = c.args.uuid.now in
    let name = c.args.name.now in
    let label = c.renamed_label-renamed.result in
    let did = c.put_at.ensures in
    let has_name = rename-turn ms rs region u 0 (some c.requires.can) c.requires.can c.place_at-own.result c.place_at-own.ensures label did.slot_within did.slot_free name c.renamed_label-renamed.ensures refl no_module in
    flip-pass ms rs region u 0 (some c.requires.can) c.requires.can c.place_at-own.result c.place_at-own.ensures label did.slot_within did.slot_free
    (IsBeforeOrRenamed (platform_of rs) region u name (labels_in ms)) (inl refl) (inr has_name.state_is) (did.pass no_module)
