-- Which labels belong to the interleave set of a region (UEFI 2.7, section 13.19).
use Rattle.std.specs.Prelude.{◌≡◌, ◌⊎◌, ℕ, ◌+◌, ◌-◌, ◌≤◌, ◌<◌, ◌==◌, nat_lt, nat_le, Bool, not, ◌&&◌, length, Option}
use Rattle.std.specs.Prelude.{Some, find, slice_index_or}
use Rattle.std.specs.List.{Contains}
use Rattle.std.specs.Str.{bytes_eq}
use Rattle.view_types.specs.Guids.{persistent_memory}
use Rattle.label_codec.specs.declared.label.Label.{Label}
use Rattle.label_codec.specs.Flags.{is_local}
use Rattle.region_map.specs.declared.platform.Member.{Member}
use Rattle.region_map.specs.declared.platform.Region.{Region}
use Rattle.region_map.specs.declared.platform.Platform.{Platform}
use Rattle.region_map.specs.Platforms.{region_at}

-- the label's type GUID is that of persistent memory
abbrev pub is_persistent : Label → Bool
is_persistent label = bytes_eq label.type_guid persistent_memory

-- what stands for a member at a position that the region hasn't
abbrev pub no_member : Member
no_member = record {
  handle = 0;
  dpa_base = 0;
  size = 0;
  region_offset = 0;
  interleave = 0;
  ways = 0;
  serial =
      0;
  vendor = 0;
  date = 0;
  location = 0;
}

-- the member at a position
abbrev pub member_at : Region → ℕ → Member
member_at region position = slice_index_or region.members position no_member

-- the label is that of a module at its own position, and names the region's interleave set
abbrev pub names_set : Region → ℕ → Label → Bool
names_set region handle label =
    (member_at region label.position).handle == handle
    && (label.cookie == region.cookie && label.nlabel == length region.members)

-- a range of persistent memory that modules share
abbrev pub is_shared_range : Label → Bool
is_shared_range label = is_persistent label && (not (is_local label) && nat_lt 0 label.raw_size)

-- the range lies in the member's part of its module
abbrev pub lies_within : Member → Label → Bool
lies_within member label =
    nat_le member.dpa_base label.dpa && nat_le (label.dpa + label.raw_size) (member.dpa_base + member.size)

-- a label of the module with a handle belongs to a region. A region that cannot be used has no members, and so no
-- labels.
abbrev pub belongs : Region → ℕ → Label → Bool
belongs region handle label = nat_lt label.position (length region.members)
    && (names_set region handle label
    && (is_shared_range label && lies_within (member_at region label.position) label))

-- how far into the member's part the label's range begins
abbrev pub offset_in : Region → Label → ℕ
offset_in region label = label.dpa - (member_at region label.position).dpa_base

-- the region that a label belongs to
abbrev pub region_of : Platform → ℕ → Label → Option Region
region_of platform handle label = find (λ region. belongs region handle label) platform.regions

-- What holds of the regions of a table: indexes stand once, a module has one position in a region, and no two regions
-- share a byte of a module.
pub record IsDisjoint (platform : Platform) : Type 0 where
  pub indexes : (region : Region) → Contains platform.regions region → region_at platform region.index ≡ Some region
  pub positions : (region : Region) (i j : ℕ) → Contains platform.regions region → i < length region.members
      → j < length region.members
      → (member_at region i).handle ≡ (member_at region j).handle → i ≡ j
  pub bytes : (region other : Region) (member part : Member) → Contains platform.regions region
      → Contains platform.regions other
      → Contains region.members member → Contains other.members part → member.handle ≡ part.handle
      → (other ≡ region)
      ⊎ ((member.dpa_base + member.size ≤ part.dpa_base) ⊎ (part.dpa_base + part.size ≤ member.dpa_base))
