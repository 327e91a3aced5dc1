-- The cookies of interleave sets: Fletcher's checksum over an entry for each member, in the order of positions.
use Rattle.std.specs.Prelude.{ℕ, List, [], ◌∷◌, ◌++◌, replicate}
use Rattle.std.specs.List.{flat_map}
use Rattle.byteorder.specs.Endian.{little_bytes}
use Rattle.fletcher64.specs.Sums.{checksum_of}
use Rattle.region_map.specs.declared.platform.Member.{Member}

-- version 1.2, 48 bytes: Region Offset 0, Serial Number 8, Vendor 12, Manufacturing Date 14, Manufacturing Location 16,
-- zeros
unfoldable pub entry12 : Member → List ℕ
entry12 m = little_bytes 8 m.region_offset
    ++ little_bytes 4 m.serial
    ++ little_bytes 2 m.vendor
    ++ little_bytes 2 m.date
    ++ m.location ∷ []
    ++ replicate 31 0

-- version 1.1, 16 bytes: Region Offset 0, Serial Number 8, zeros
unfoldable pub entry11 : Member → List ℕ
entry11 m = little_bytes 8 m.region_offset ++ little_bytes 4 m.serial ++ replicate 4 0

abbrev pub cookie12 : List Member → ℕ
cookie12 members = checksum_of (flat_map entry12 members)

abbrev pub cookie11 : List Member → ℕ
cookie11 members = checksum_of (flat_map entry11 members)
