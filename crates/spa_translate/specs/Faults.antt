-- Why addresses of a region cannot be translated, and what they are translated by (ACPI 6.2, sections 5.2.25.3 and
-- 5.2.25.4).
use Rattle.std.specs.Prelude.{◌≡◌, ℕ, ◌+◌, ◌*◌, ◌/◌, ◌%◌, ◌==◌, ◌&&◌, ◌||◌, Bool, false, List, [], ◌∷◌, Option, Some}
use Rattle.std.specs.Prelude.{None, count_by, find, if◌then◌else◌, is_none, length, map, nat_lt, not, option_map}
use Rattle.std.specs.List.{filter_map, flat_map, list_any, range_with_len}
use Rattle.view_types.specs.declared.translation.TranslateFault.{TranslateFault}
use Rattle.view_types.specs.declared.translation.TranslateFault.TheVariants.{NoInterleave, TooManyLines, WaysDiffer}
use Rattle.view_types.specs.declared.translation.TranslateFault.TheVariants.{LinesDiffer, OffsetNotLine, Ragged}
use Rattle.view_types.specs.declared.translation.TranslateFault.TheVariants.{NotPartition}
use Rattle.region_map.specs.declared.platform.Member.{Member}
use Rattle.region_map.specs.declared.platform.LineTable.{LineTable}
use Rattle.region_map.specs.declared.platform.Region.{Region}
use Rattle.spa_translate.specs.declared.strand.Strand.{Strand}
use Rattle.spa_translate.specs.declared.faults.CheckFault.{CheckFault}
use Rattle.spa_translate.specs.declared.faults.CheckFault.TheVariants.{Fault, Memory}
use Rattle.spa_translate.specs.Woven.{Woven, linear_strand, strand_with}

-- one member, without an interleave structure
abbrev pub is_linear : List Member → Bool
is_linear members = (length members == 1) && list_any (λ m. m.interleave == 0) members

-- the interleave structure that a member names
abbrev pub table_named : List LineTable → Member → Option LineTable
table_named tables m = if m.interleave == 0 then None else find (λ table. table.index == m.interleave) tables

-- a member names no interleave structure
abbrev pub no_interleave : List LineTable → List Member → Bool
no_interleave tables members = list_any (λ m. is_none (table_named tables m)) members

-- the most lines that an interleave structure has where addresses are translated
abbrev pub most_lines : ℕ
most_lines = 4096

abbrev pub has_too_many : Option LineTable → Bool
has_too_many None = false
has_too_many (Some table) = nat_lt most_lines (length table.lines)

-- a structure that a member names has more of them
abbrev pub too_many_lines : List LineTable → List Member → Bool
too_many_lines tables members = list_any (λ m. has_too_many (table_named tables m)) members

-- a member tells another number of ways than there are members
abbrev pub ways_differ : List Member → Bool
ways_differ members = list_any (λ m. not (m.ways == length members)) members

-- the members' parts in the lines of the structures that they name
abbrev pub strands_of : List LineTable → List Member → List Strand
strands_of tables members = filter_map (λ m. option_map (strand_with m) (table_named tables m)) members

-- a part differs from another in the number or the size of its lines
abbrev pub is_other : List Strand → Strand → Bool
is_other strands a = list_any (λ b. not (length b.lines == length a.lines) || not (b.line_size == a.line_size)) strands

abbrev pub shapes_differ : List Strand → Bool
shapes_differ strands = list_any (λ a. is_other strands a) strands

-- a part has no lines, or they have no bytes
abbrev pub has_none : List Strand → Bool
has_none strands = list_any (λ a. (length a.lines == 0) || (a.line_size == 0)) strands

-- two members' structures differ in the number or the size of their lines, or one of these is 0
abbrev pub lines_differ : List Strand → Bool
lines_differ strands = shapes_differ strands || has_none strands

-- a region offset is no multiple of the line size
abbrev pub offset_not_line : List Strand → Bool
offset_not_line strands = list_any (λ a. not (a.offset % a.line_size == 0)) strands

-- the size of a part is no multiple of its lines
abbrev pub ragged : List Strand → Bool
ragged strands = list_any (λ a. not (a.size % (length a.lines * a.line_size) == 0)) strands

-- the lines of all parts in the first period, counted from the region's start
abbrev pub lines_of : Strand → List ℕ
lines_of strand = map (λ line. strand.offset / strand.line_size + line) strand.lines

abbrev pub all_lines : List Strand → List ℕ
all_lines strands = flat_map lines_of strands

-- how many lines the region has in a period, where each part has as many as the first
abbrev pub lines_each : List Strand → ℕ
lines_each [] = 0
lines_each (strand ∷ strands) = length strand.lines

abbrev pub period_lines : List Strand → ℕ
period_lines strands = length strands * lines_each strands

-- how often a line is one of a part
abbrev pub times : List ℕ → ℕ → ℕ
times lines line = count_by (λ x. x == line) lines

-- the first line of a period that is not exactly one of one part
abbrev pub first_not_once : List Strand → Option ℕ
first_not_once strands =
    find (λ line. not (times (all_lines strands) line == 1)) (range_with_len 0 (period_lines strands))

abbrev pub line_fault : List Strand → Option TranslateFault
line_fault strands = option_map (λ line. NotPartition line) (first_not_once strands)

abbrev pub first_fault_of_strands : List Strand → Option TranslateFault
first_fault_of_strands strands =
    if lines_differ strands then Some LinesDiffer
    else if offset_not_line strands then Some OffsetNotLine
    else if ragged strands then Some Ragged
    else line_fault strands

-- the first fault that applies
abbrev pub first_fault : List LineTable → List Member → Option TranslateFault
first_fault tables members =
    if is_linear members then None
    else if no_interleave tables members then Some NoInterleave
    else if too_many_lines tables members then Some TooManyLines
    else if ways_differ members then Some WaysDiffer
    else first_fault_of_strands (strands_of tables members)

-- the region with its members' parts
abbrev pub woven_of : List LineTable → Region → Woven
woven_of tables region = record {
  spa = region.spa;
  len = region.length;
  strands = if is_linear region.members then map linear_strand region.members else strands_of tables region.members;
}

-- what the answers that hold no weave say
abbrev pub IsRefused : Option TranslateFault → CheckFault → Type 0
IsRefused first (Fault fault) = first ≡ Some fault
IsRefused first Memory = Unit {0}
