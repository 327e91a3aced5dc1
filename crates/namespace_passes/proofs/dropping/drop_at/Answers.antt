use Rattle.std.proofs.Common.{◌≡◌, ◌<◌, ℕ, List, [], ◌∷◌, length, Result, Ok, Err, sym, subst}
use Rattle.std.specs.Prelude.{OnErr, OnOk}
use Rattle.std.specs.List.{All, AllZip}
use Rattle.label_codec.specs.ModuleLabels.{Labels}
use Rattle.region_map.specs.declared.platform.Region.{Region}
use Rattle.region_labels.specs.Changes.{dimm_at}
use Rattle.region_labels.specs.Rooms.{KeepsRegion, room_after_free}
use Rattle.region_labels.specs.declared.modules.LoadedModule.{LoadedModule}
use Rattle.region_labels.specs.declared.region.RegionLabels.{RegionLabels}
use Rattle.region_labels.specs.Modules.{labels_in}
use Rattle.region_labels.specs.Regions.{IsOver}
use Rattle.module_flips.specs.Flips.{IsFreedAt}
use Rattle.module_flips.specs.Together.{IsTogether, StaysTogether}
use Rattle.namespace_passes.specs.declared.places.LabelPlace.{LabelPlace}
use Rattle.namespace_passes.specs.Healing.{StandsAt}
use Rattle.namespace_passes.proofs.HealFlips.{on_ok}
use Rattle.namespace_passes.proofs.Passing.{still-kept}
use Rattle.namespace_passes.specs.Dropping.{LosesLabel}
use Rattle.namespace_passes.proofs.DropFlips.{can-free, dimm-is, flip-pass, freed-together, gives, label-lost}
use Rattle.namespace_passes.proofs.dropping.drop_at.Goals as goal

pub free_at-requires-clause-free : goal.free_at-requires-clause-free
free_at-requires-clause-free g c =
    can-free c.args.modules.now c.args.regions.now c.args.region.now c.args.uuid.now c.args.position c.requires.within c.requires.together c.place_of-own.result c.place_of-own.ensures

pub returns-clause-lost : goal.returns-clause-lost
returns-clause-lost g c =
    on_ok c.free_at.result (λ same. subst (λ (labels : Labels). LosesLabel c.args.region.now c.args.uuid.now c.args.position (labels_in c.args.modules.now) labels) (sym same)
    (label-lost c.args.modules.now c.args.regions.now c.args.region.now c.args.uuid.now c.args.position c.requires.within c.requires.together c.place_of-own.result c.place_of-own.ensures))
    c.free_at.ensures.labels

pub returns-clause-gives : goal.returns-clause-gives
returns-clause-gives g c =
    on_ok c.free_at.result (gives c.args.modules.now c.args.regions.now c.args.region.now c.args.uuid.now c.args.position c.requires.within c.requires.together c.place_of-own.result c.place_of-own.ensures c.free_at.new.modules)
    c.free_at.ensures.freed

-- Modules and regions go together as before.
stays : {T E : Type 0} {ms now : List LoadedModule} {rs regions_now : List RegionLabels} {region : Region} {u : List ℕ} {position : ℕ} {place : LabelPlace} (room : RegionLabels → ℕ) (result : Result T E) → position < length region.members
    → IsTogether ms rs → StandsAt ms region u position place → OnOk result (IsFreedAt ms now place.seat (place.slot ∷ [])) → OnOk result (All (IsOver now) regions_now) → OnOk result (AllZip (KeepsRegion room) rs regions_now)
    → OnErr result (now ≡ ms) → OnErr result (regions_now ≡ rs) → StaysTogether ms rs now regions_now
stays {T} {E} {ms} {now} {rs} {regions_now} {region} {u} {position} {place} room (Ok value) lt together at freed over zip kept kept_regions =
    freed-together ms rs region u position lt together place at now freed room regions_now over zip
stays {T} {E} {ms} {now} {rs} {regions_now} {region} {u} {position} {place} room (Err failed) lt together at freed over zip kept kept_regions =
    (still-kept ms rs now regions_now together kept kept_regions).together

pub returns-clause-together : goal.returns-clause-together
returns-clause-together g c =
    let did = c.free_at.ensures in
    stays (room_after_free (dimm_at c.args.modules.now c.place_of-own.result.seat) 1) c.free_at.result c.requires.within c.requires.together c.place_of-own.ensures did.freed did.over did.regions did.kept did.kept_regions

pub returns-clause-pass : goal.returns-clause-pass
returns-clause-pass g c = flip-pass c.args.modules.now c.args.regions.now c.args.region.now c.args.uuid.now c.args.position c.requires.within c.requires.together c.place_of-own.result c.place_of-own.ensures c.free_at.ensures.pass

pub returns-clause-room : goal.returns-clause-room
returns-clause-room g c =
    subst (λ h. OnOk c.free_at.result (AllZip (KeepsRegion (room_after_free h 1)) c.args.regions.now c.free_at.new.regions))
    (dimm-is c.args.modules.now c.args.regions.now c.args.region.now c.args.uuid.now c.args.position c.requires.within c.requires.together c.place_of-own.result c.place_of-own.ensures)
    c.free_at.ensures.regions
