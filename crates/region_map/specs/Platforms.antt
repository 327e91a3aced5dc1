-- The platform of a table: its regions, its modules and its line tables.
use Rattle.std.specs.Prelude.{◌≡◌, ◌↔◌, ℕ, ◌==◌, List, [], Option, Some, None, Contains, find}
use Rattle.std.specs.List.{AllZip, filter_map}
use Rattle.std.specs.List.Sorted.{IsStrictlyIncreasing}
use Rattle.view_types.specs.declared.rule.Rule.{Rule}
use Rattle.nfit_tables.specs.declared.pieces.Nfit.{Nfit}
use Rattle.nfit_tables.specs.declared.pieces.Piece.{Piece}
use Rattle.nfit_tables.specs.Proper.{IsProper, handle_of}
use Rattle.region_map.specs.declared.records.PersistentRange.{PersistentRange}
use Rattle.region_map.specs.declared.records.Part.{Part}
use Rattle.region_map.specs.declared.records.ControlFields.{ControlFields}
use Rattle.region_map.specs.declared.platform.Region.{Region}
use Rattle.region_map.specs.declared.platform.Platform.{Platform}
use Rattle.region_map.specs.Records.{IsAscending, all_control_fields, line_tables, member_of, parts_naming}
use Rattle.region_map.specs.Records.{persistent_ranges, region_parts}
use Rattle.region_map.specs.Cookies.{cookie12}
use Rattle.region_map.specs.Rules.{first_rule}

-- What a region holds: its members by ascending region offset and their cookie, or nothing where a rule applies.
pub record IsUsableWith (controls : List ControlFields) (parts : List Part) (region : Region) : Type 0 where
  pub members : IsAscending (λ m. m.region_offset) (filter_map (member_of controls) parts) region.members
  pub cookie : region.cookie ≡ cookie12 region.members

pub record IsUnusable (region : Region) : Type 0 where
  pub members : region.members ≡ []
  pub cookie : region.cookie ≡ 0

abbrev pub HoldsBy : List ControlFields → List Part → Region → Option Rule → Type 0
HoldsBy controls parts region None = IsUsableWith controls parts region
HoldsBy controls parts region (Some rule) = IsUnusable region

-- the region of a range, where these mappings name any region
pub record IsRegionOf (parts : List Part) (controls : List ControlFields) (range : PersistentRange)
    (region : Region) : Type 0 where
  pub index : region.index ≡ range.index
  pub spa : region.spa ≡ range.base
  pub len : region.length ≡ range.length
  pub rule : region.rule ≡ first_rule parts controls range (parts_naming range.index parts)
  pub holds : HoldsBy controls (parts_naming range.index parts) region region.rule

-- the regions of a table, by ascending index
pub record AreRegions (pieces : List Piece) (regions : List Region) : Type 0 where
  pub ranges : List PersistentRange
  pub order : IsAscending (λ r. r.index) (persistent_ranges pieces) ranges
  pub each : AllZip (IsRegionOf (region_parts pieces) (all_control_fields pieces)) ranges regions

-- the device handles of all mappings, ascending and each once
pub record AreModules (pieces : List Piece) (modules : List ℕ) : Type 0 where
  pub same : (handle : ℕ) → Contains modules handle ↔ Contains (filter_map handle_of pieces) handle
  pub order : IsStrictlyIncreasing modules

pub record IsPlatformOf (nfit : Nfit) (platform : Platform) : Type 0 where
  pub regions : AreRegions nfit.pieces platform.regions
  pub modules : AreModules nfit.pieces platform.modules
  pub tables : IsAscending (λ t. t.index) (line_tables nfit.pieces) platform.tables

-- A platform is sound where it is that of some proper table.
pub record IsSound (platform : Platform) : Type 0 where
  pub nfit : Nfit
  pub proper : IsProper nfit
  pub platform_of : IsPlatformOf nfit platform

-- the region with an index
abbrev pub region_at : Platform → ℕ → Option Region
region_at platform index = find (λ (region : Region). region.index == index) platform.regions
