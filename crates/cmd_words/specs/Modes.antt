-- How the bytes of a namespace are used: its mode, and the size of its sectors.
use Rattle.std.specs.Prelude.{ℕ, List, Option, Some, None, codes, if◌then◌else◌}
use Rattle.std.specs.Str.{bytes_eq}
use Rattle.view_types.specs.declared.mode.Mode.{Mode}
use Rattle.view_types.specs.declared.mode.Mode.TheVariants.{Raw, Sector, Fsdax, Devdax}

abbrev pub mode : List ℕ → Option Mode
mode text =
    if bytes_eq text (codes "raw") then Some Raw
    else if bytes_eq text (codes "sector") then Some Sector
    else if bytes_eq text (codes "fsdax") then Some Fsdax
    else if bytes_eq text (codes "devdax") then Some Devdax
    else None

-- the size of a sector in bytes
abbrev pub sector_size : List ℕ → Option ℕ
sector_size text =
    if bytes_eq text (codes "512") then Some 512
    else if bytes_eq text (codes "4096") then Some 4096
    else None
