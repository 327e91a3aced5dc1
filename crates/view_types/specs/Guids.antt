-- The GUIDs of the standard (ACPI 6.2, section 5.2.25.2), as their bytes stand: the first three fields of the text are
-- little-endian.
use Rattle.std.specs.Prelude.{ℕ, List, [], ◌∷◌}

-- persistent memory: 66F0D379-B4F3-4074-AC43-0D3318B78CDB
abbrev pub persistent_memory : List ℕ
persistent_memory = 0x79 ∷ 0xd3 ∷ 0xf0 ∷ 0x66 ∷ 0xf3 ∷ 0xb4 ∷ 0x74 ∷ 0x40 ∷ 0xac ∷ 0x43 ∷ 0x0d ∷ 0x33 ∷ 0x18 ∷ 0xb7
    ∷ 0x8c ∷ 0xdb ∷ []
