-- The rules under which a region cannot be used. The members are the mappings that name the region, and `parts` are the
-- mappings that name any region.
use Rattle.std.specs.Prelude.{ℕ, ◌+◌, ◌*◌, ◌^◌, ◌==◌, ◌&&◌, ◌||◌, Bool, List, Option, Some, None, count_by}
use Rattle.std.specs.Prelude.{if◌then◌else◌, is_none, length, max, min, nat_lt, not}
use Rattle.std.specs.List.{list_any}
use Rattle.view_types.specs.declared.rule.Rule.{Rule}
use Rattle.view_types.specs.declared.rule.Rule.TheVariants.{NoMapping, TooManyWays, Empty, SizesDiffer, CapacityDiffers}
use Rattle.view_types.specs.declared.rule.Rule.TheVariants.{Overflow, ModuleTwice, OffsetTwice, NoControl, DpaOverlap}
use Rattle.region_map.specs.declared.records.PersistentRange.{PersistentRange}
use Rattle.region_map.specs.declared.records.Part.{Part}
use Rattle.region_map.specs.declared.records.ControlFields.{ControlFields}
use Rattle.region_map.specs.Records.{control_named}

-- no mapping names the range
abbrev pub no_mapping : List Part → Bool
no_mapping members = length members == 0

-- more than 16 mappings name it
abbrev pub too_many_ways : List Part → Bool
too_many_ways members = nat_lt 16 (length members)

-- the range's length is 0
abbrev pub empty_range : PersistentRange → Bool
empty_range range = range.length == 0

-- two members have different sizes
abbrev pub sizes_differ : List Part → Bool
sizes_differ members = list_any (λ a. list_any (λ b. not (b.size == a.size)) members) members

-- the number of members times the size of a member is not the range's length
abbrev pub capacity_differs : PersistentRange → List Part → Bool
capacity_differs range members = list_any (λ m. not (length members * m.size == range.length)) members

-- a base plus a length exceeds 2^63
abbrev pub exceeds : ℕ → ℕ → Bool
exceeds base len = nat_lt (2 ^ 63) (base + len)

-- base plus length of the range, or a member's module address base plus size, exceeds 2^63
abbrev pub sum_overflows : PersistentRange → List Part → Bool
sum_overflows range members = exceeds range.base range.length || list_any (λ m. exceeds m.base m.size) members

-- two members have one device handle
abbrev pub module_twice : List Part → Bool
module_twice members = list_any (λ a. nat_lt 1 (count_by (λ b. b.handle == a.handle) members)) members

-- two members have one region offset
abbrev pub offset_twice : List Part → Bool
offset_twice members = list_any (λ a. nat_lt 1 (count_by (λ b. b.offset == a.offset) members)) members

-- a member's control region index names no control region
abbrev pub no_control : List ControlFields → List Part → Bool
no_control controls members = list_any (λ m. is_none (control_named controls m)) members

-- two mappings have an address of one module in common
unfoldable pub meets : Part → Part → Bool
meets a b = (b.handle == a.handle) && nat_lt (max a.base b.base) (min (a.base + a.size) (b.base + b.size))

-- a member's module address range meets that of a mapping, on the same handle, of another region
abbrev pub dpa_overlap : List Part → List Part → Bool
dpa_overlap parts members = list_any (λ a. list_any (λ b. not (b.range == a.range) && meets a b) parts) members

-- the first rule that applies
abbrev pub first_rule : List Part → List ControlFields → PersistentRange → List Part → Option Rule
first_rule parts controls range members =
    if no_mapping members then Some NoMapping
    else if too_many_ways members then Some TooManyWays
    else if empty_range range then Some Empty
    else if sizes_differ members then Some SizesDiffer
    else if capacity_differs range members then Some CapacityDiffers
    else if sum_overflows range members then Some Overflow
    else if module_twice members then Some ModuleTwice
    else if offset_twice members then Some OffsetTwice
    else if no_control controls members then Some NoControl
    else if dpa_overlap parts members then Some DpaOverlap
    else None
