-- The info block of an arena, 4,096 bytes. It stands at 0 and, the same, at info_at. All numbers are little-endian.
--
--     offset  bytes  field
--          0     16  Sig              "BTT_ARENA_INFO" and two zero bytes
--         16     16  Uuid             any
--         32     16  ParentUuid       zero
--         48      4  Flags            0
--         52      2  Major            the version is Major.Minor, 2.0
--         54      2  Minor
--         56      4  ExternalLbaSize  the size of a sector
--         60      4  ExternalNLba     how many sectors there are
--         64      4  InternalLbaSize  the size of a block, as that of a sector
--         68      4  InternalNLba     how many blocks there are
--         72      4  NFree            how many of them are free
--         76      4  InfoSize         4,096
--         80      8  NextOff          0: there is one arena
--         88      8  DataOff          where the blocks begin
--         96      8  MapOff
--        104      8  FlogOff          where the lanes begin
--        112      8  InfoOff          where the second info block stands
--        120         unused           not looked at; written as zero
--      4,088      8  Checksum         of the 4,096 bytes, with this field as zero
use Rattle.std.specs.Prelude.{ℕ, ◌&&◌, Bool, List, [], ◌∷◌, ◌++◌, length, drop, codes, replicate, nat_eq}
use Rattle.std.specs.Prelude.{Option, Some, None, if◌then◌else◌}
use Rattle.std.specs.List.{starts_with}
use Rattle.byteorder.specs.Endian.{little_bytes}
use Rattle.byte_ranges.specs.Ranges.{range, with_fields}
use Rattle.fletcher64.specs.Sums.{has_checksum, with_checksum}
use Rattle.btt_arena.specs.declared.layout.Layout.{Layout}
use Rattle.btt_arena.specs.Layout.{is_size, layout_of}

abbrev pub info_bytes : ℕ
info_bytes = 4096

abbrev pub info_signature : List ℕ
info_signature = codes "BTT_ARENA_INFO" ++ 0 ∷ 0 ∷ []

-- the fields from ParentUuid to InfoOff
abbrev pub fields_text : Layout → List ℕ
fields_text a = replicate 16 0
    ++ little_bytes 4 0
    ++ little_bytes 2 2
    ++ little_bytes 2 0
    ++ little_bytes 4 a.sector
    ++ little_bytes 4 a.sectors
    ++ little_bytes 4 a.sector
    ++ little_bytes 4 a.blocks
    ++ little_bytes 4 256
    ++ little_bytes 4 4096
    ++ little_bytes 8 0
    ++ little_bytes 8 4096
    ++ little_bytes 8 a.map_at
    ++ little_bytes 8 a.log_at
    ++ little_bytes 8 a.info_at

-- a block is that of an arena with this layout: it is signed, it has its checksum, and its fields are these
unfoldable pub is_right : Layout → List ℕ → Bool
is_right a block = starts_with nat_eq block info_signature && starts_with nat_eq (drop 32 block) (fields_text a)
    && has_checksum block 4088

-- the layout that a block of a media of some size tells: that for sectors of 512 bytes or of 4,096, if one is right
abbrev pub told_layout : ℕ → List ℕ → Option Layout
told_layout size block = if is_right (layout_of size 512) block then Some (layout_of size 512)
    else if is_right (layout_of size 4096) block then Some (layout_of size 4096)
    else None

-- the first of two, where there is one, else the second
abbrev pub first_of_two : Option Layout → Option Layout → Option Layout
first_of_two (Some a) other = Some a
first_of_two None other = other

-- the info blocks of some bytes
abbrev pub first_info : List ℕ → List ℕ
first_info bytes = range bytes 0 info_bytes

abbrev pub second_info : ℕ → List ℕ → List ℕ
second_info size bytes = range bytes (layout_of size 512).info_at info_bytes

-- the arena in the bytes of a media of some size: that of the info block at 0, else that of the other
abbrev pub arena_at : ℕ → List ℕ → Option Layout
arena_at size bytes = if is_size size
    then first_of_two (told_layout size (first_info bytes)) (told_layout size (second_info size bytes))
    else None

-- the arena in some bytes
abbrev pub arena_in : List ℕ → Option Layout
arena_in bytes = arena_at (length bytes) bytes

-- an info block that is written
unfoldable pub info_text : Layout → List ℕ → List ℕ
info_text a uuid = with_checksum
    (with_fields (replicate info_bytes 0) ((0, info_signature) ∷ (16, uuid) ∷ (32, fields_text a) ∷ [])) 4088
