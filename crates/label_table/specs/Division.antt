-- How the offsets of a region are divided: namespaces, held space and common free space.
use Rattle.std.specs.Prelude.{◌≡◌, ◌⊎◌, ℕ, ◌+◌, ◌*◌, ◌==◌, ◌≤◌, ◌<◌, nat_lt, Bool, true, false, not, ◌&&◌, List, []}
use Rattle.std.specs.Prelude.{◌∷◌, length, Some, count_by}
use Rattle.std.specs.List.{Contains, list_any}
use Rattle.view_types.specs.declared.extents.Extent.{Extent}
use Rattle.view_types.specs.Intervals.{AreMaximal, greatest_aligned, is_free, is_within}
use Rattle.label_codec.specs.declared.label.Label.{Label}
use Rattle.label_codec.specs.ModuleLabels.{Labels}
use Rattle.region_map.specs.declared.platform.Member.{Member}
use Rattle.region_map.specs.declared.platform.Region.{Region}
use Rattle.region_map.specs.declared.platform.Platform.{Platform}
use Rattle.label_table.specs.Fates.{held_count}
use Rattle.label_table.specs.Namespaces.{namespaces}
use Rattle.label_table.specs.Spaces.{Space, space}

abbrev pub size_among : List Member → ℕ
size_among [] = 0
size_among (member ∷ members) = member.size

-- the size of each member's part of the region in bytes: offsets are below it
abbrev pub part_size : Region → ℕ
part_size region = size_among region.members

-- a namespace has an offset
abbrev pub has_offset : ℕ → Space → Bool
has_offset offset space = is_within space.offset space.length offset

-- how many namespaces of the region have an offset
abbrev pub namespaces_over : Labels → Region → ℕ → ℕ
namespaces_over labels region offset = count_by (has_offset offset) (namespaces labels region)

-- a label's range has a device physical address
abbrev pub has_address : ℕ → Label → Bool
has_address dpa label = is_within label.dpa label.raw_size dpa

-- a held label of a member's module holds an offset
abbrev pub holds : Platform → Labels → ℕ → Member → Bool
holds platform labels offset member =
    nat_lt 0 (held_count platform labels member.handle (has_address (member.dpa_base + offset)))

abbrev pub is_held_at : Platform → Labels → Region → ℕ → Bool
is_held_at platform labels region offset = list_any (holds platform labels offset) region.members

-- an offset of the region that no namespace has and no label holds
abbrev pub is_common_free : Platform → Labels → Region → ℕ → Bool
is_common_free platform labels region offset = nat_lt offset (part_size region)
    && (namespaces_over labels region offset == 0 && not (is_held_at platform labels region offset))

-- the free extents of a region, in ascending order
abbrev pub AreFreeExtents : Platform → Labels → Region → List Extent → Type 0
AreFreeExtents platform labels region extents =
    AreMaximal (part_size region) (is_common_free platform labels region) extents

-- what namespaces are aligned to, in bytes of each member's part
abbrev pub alignment : ℕ
alignment = 2097152

-- the size of the greatest namespace that the free extents have room for
abbrev pub largest : Region → List Extent → ℕ
largest region extents = length region.members * greatest_aligned alignment extents

-- an offset is in one extent of a list, and in no other
pub record IsInOne (extents : List Extent) (offset : ℕ) : Type 0 where
  pub extent : Extent
  pub listed : Contains extents extent
  pub has : is_within extent.start extent.len offset ≡ true
  pub only : (other : Extent) → Contains extents other → is_within other.start other.len offset ≡ true → other ≡ extent

-- which part of its region an offset is in: in one namespace, or held, or free and in one of the extents
pub data Part (platform : Platform) (labels : Labels) (region : Region) (extents : List Extent)
    (offset : ℕ) : Type 0 where
  OfNamespace : namespaces_over labels region offset ≡ 1 → is_free extents offset ≡ false
      → Part platform labels region extents offset
  Held : namespaces_over labels region offset ≡ 0 → is_held_at platform labels region offset ≡ true
      → is_free extents offset ≡ false → Part platform labels region extents offset
  Free : namespaces_over labels region offset ≡ 0 → is_held_at platform labels region offset ≡ false
      → IsInOne extents offset → Part platform labels region extents offset

-- an offset that the namespace with a uuid has
pub record IsOwn (labels : Labels) (region : Region) (uuid : List ℕ) (offset : ℕ) : Type 0 where
  pub own : Space
  pub is : space labels region uuid ≡ Some own
  pub here : has_offset offset own ≡ true

-- each offset of a namespace's new range is its own, or no namespace has it
abbrev pub IsOpen : Labels → Region → Space → Type 0
IsOpen labels region new = (offset : ℕ) → new.offset ≤ offset → offset < new.offset + new.length
    → (namespaces_over labels region offset ≡ 0) ⊎ IsOwn labels region new.uuid offset
