-- A region as the parts that its members have in it, and the address of each byte of a part (ACPI 6.2, sections
-- 5.2.25.3 and 5.2.25.4).
use Rattle.std.specs.Prelude.{ℕ, ◌+◌, ◌*◌, ◌/◌, ◌%◌, List, [], ◌∷◌, length, slice_index}
use Rattle.region_map.specs.declared.platform.Member.{Member}
use Rattle.region_map.specs.declared.platform.LineTable.{LineTable}
use Rattle.spa_translate.specs.declared.strand.Strand.{Strand}

-- a range of addresses, and the members' parts by position
pub record Woven : Type 0 where
  pub spa : ℕ
  pub len : ℕ
  pub strands : List Strand

-- Where byte d of a part lies in a region of so many ways, from the range's base on. It is in line d div s of the part.
-- The part has m lines in each period of the region, so that line is number j of its period.
unfoldable pub offset_of : ℕ → Strand → ℕ → ℕ
offset_of ways strand d =
    let m : ℕ = length strand.lines in
    let s : ℕ = strand.line_size in
    let line : ℕ = d / s in
    let skip : ℕ = line / m in
    let j : ℕ = line % m in
    strand.offset + slice_index strand.lines j * s + skip * (ways * m * s) + d % s

abbrev pub address_of : Woven → Strand → ℕ → ℕ
address_of woven strand d = woven.spa + offset_of (length woven.strands) strand d

-- the part of a member in lines of a table
abbrev pub strand_with : Member → LineTable → Strand
strand_with member table = record {
  handle = member.handle;
  base = member.dpa_base;
  size = member.size;
  offset = member.region_offset;
  line_size = table.size;
  lines = table.lines;
}

-- The part of a region's only member, without an interleave structure: each byte is a line, and byte d lies at d. The
-- region offset does not matter.
abbrev pub linear_strand : Member → Strand
linear_strand member = record {
  handle = member.handle;
  base = member.dpa_base;
  size = member.size;
  offset = 0;
  line_size = 1;
  lines = 0 ∷ [];
}
