-- How the bytes of namespaces are used.
use Rattle.std.specs.Prelude.{ℕ, List, [], ◌∷◌, replicate}
use Rattle.view_types.specs.declared.mode.Mode.{Mode}
use Rattle.view_types.specs.declared.mode.Mode.TheVariants.{Raw, Sector, Fsdax, Devdax}

-- The GUIDs of address abstractions (UEFI 2.7, section 13.19), as their bytes stand: the first three fields of the text
-- are little-endian.

-- none
abbrev pub no_abstraction : List ℕ
no_abstraction = replicate 16 0

-- block translation (BTT): 18633BFC-1735-4217-8AC9-17239282D3F8
abbrev pub block_translation : List ℕ
block_translation =
    0xfc ∷ 0x3b ∷ 0x63 ∷ 0x18 ∷ 0x35 ∷ 0x17 ∷ 0x17 ∷ 0x42
    ∷ 0x8a ∷ 0xc9 ∷ 0x17 ∷ 0x23 ∷ 0x92 ∷ 0x82 ∷ 0xd3 ∷ 0xf8 ∷ []

-- page frames (PFN): 266400BA-FB9F-4677-BCB0-968F11D0D225
abbrev pub page_frames : List ℕ
page_frames =
    0xba ∷ 0x00 ∷ 0x64 ∷ 0x26 ∷ 0x9f ∷ 0xfb ∷ 0x77 ∷ 0x46
    ∷ 0xbc ∷ 0xb0 ∷ 0x96 ∷ 0x8f ∷ 0x11 ∷ 0xd0 ∷ 0xd2 ∷ 0x25 ∷ []

-- direct access (DAX): 97A86D9C-3CDD-4EDA-986F-5068B4F80088
abbrev pub direct_access : List ℕ
direct_access =
    0x9c ∷ 0x6d ∷ 0xa8 ∷ 0x97 ∷ 0xdd ∷ 0x3c ∷ 0xda ∷ 0x4e
    ∷ 0x98 ∷ 0x6f ∷ 0x50 ∷ 0x68 ∷ 0xb4 ∷ 0xf8 ∷ 0x00 ∷ 0x88 ∷ []

-- the address abstraction of a mode
abbrev pub abstraction_of : Mode → List ℕ
abstraction_of Raw = no_abstraction
abstraction_of Sector = block_translation
abstraction_of Fsdax = page_frames
abstraction_of Devdax = direct_access
