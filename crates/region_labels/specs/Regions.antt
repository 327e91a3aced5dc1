-- Regions over modules that are loaded.
use Rattle.std.specs.Prelude.{◌≡◌, ℕ, ◌<◌, Bool, false, true, List, Option, None, Some, if◌then◌else◌, length, map}
use Rattle.std.specs.Prelude.{slice_index, slice_index_or}
use Rattle.std.specs.List.{All, Contains}
use Rattle.label_codec.specs.declared.label.Label.{Label}
use Rattle.label_codec.specs.ModuleLabels.{Labels, number}
use Rattle.region_map.specs.declared.platform.Member.{Member}
use Rattle.region_map.specs.declared.platform.Region.{Region}
use Rattle.label_table.specs.Wholes.{has_one}
use Rattle.uuid_index.specs.Labels.{IsIndex}
use Rattle.region_labels.specs.declared.modules.LoadedModule.{LoadedModule}
use Rattle.region_labels.specs.declared.region.RegionLabels.{RegionLabels}
use Rattle.region_labels.specs.Modules.{EachOnce, dimm_of, labels_in}

-- the device handles of a region's modules, by position
abbrev pub handles : Region → List ℕ
handles region = map (λ (member : Member). member.handle) region.members

-- the modules of the members are among the modules
abbrev pub AreKnown : List LoadedModule → List Member → Type 0
AreKnown modules members = All (λ (member : Member). Contains (map dimm_of modules) member.handle) members

-- where the modules of members stand among the modules, by position
pub record AreSeatsOf (modules : List LoadedModule) (members : List Member) (seats : List ℕ) : Type 0 where
  pub each : length seats ≡ length members
  pub within : (position : ℕ) → position < length members → slice_index seats position < length modules
  pub is : (position : ℕ) (d : LoadedModule) (e : Member) → position < length members
      → (slice_index_or modules (slice_index seats position) d).dimm ≡ (slice_index_or members position e).handle

-- What is kept of a region goes with the modules.
pub record IsOver (modules : List LoadedModule) (kept : RegionLabels) : Type 0 where
  pub once : EachOnce modules
  pub seats : AreSeatsOf modules kept.region.members kept.seats.items
  pub index : IsIndex (handles kept.region) (labels_in modules) kept.index.entries

-- the module of a member has one label with the uuid, which agrees with the leading one, and it is this
pub record IsOneAgreeing (region : Region) (leading : Label) (own : Labels) (member : Member)
    (label : Label) : Type 0 where
  pub one : has_one region leading own member ≡ true
  pub passes : (test : Label → Bool) → number test (own member.handle) ≡ (if test label then 1 else 0)

abbrev pub IsAgreeing : Region → Label → Labels → Member → Option Label → Type 0
IsAgreeing region leading own member None = has_one region leading own member ≡ false
IsAgreeing region leading own member (Some label) = IsOneAgreeing region leading own member label
