-- Which addresses of a region belong to which addresses of its modules.
use Rattle.std.specs.Prelude.{◌≡◌, ◌≢◌, ℕ, ◌+◌, ◌-◌, ◌*◌, ◌%◌, ◌≤◌, ◌<◌, ◌==◌, Bool, true, Option, Some, None, Contains}
use Rattle.std.specs.Prelude.{length, slice_index_or, ◌&&◌, nat_le, nat_lt}
use Rattle.std.specs.List.{list_any}
use Rattle.view_types.specs.Intervals.{is_within}
use Rattle.spa_translate.specs.declared.strand.Strand.{Strand}
use Rattle.spa_translate.specs.Woven.{Woven, address_of}

-- a system physical address and the module address behind it: byte `d` of a member's part
pub record IsPair (woven : Woven) (spa dimm dpa : ℕ) : Type 0 where
  pub strand : Strand
  pub member : Contains woven.strands strand
  pub d : ℕ
  pub within : d < strand.size
  pub handle : dimm ≡ strand.handle
  pub at : dpa ≡ strand.base + d
  pub address : spa ≡ address_of woven strand d

-- an address of the region's range
pub record IsInRange (woven : Woven) (spa : ℕ) : Type 0 where
  pub from : woven.spa ≤ spa
  pub below : spa < woven.spa + woven.len

-- addresses of the range: some, from one on
abbrev pub has_range : Woven → ℕ → ℕ → Bool
has_range woven spa len = nat_lt 0 len && (nat_le woven.spa spa && nat_le (spa + len) (woven.spa + woven.len))

-- a module address of a member's part
pub record IsMapped (woven : Woven) (dimm dpa : ℕ) : Type 0 where
  pub strand : Strand
  pub member : Contains woven.strands strand
  pub handle : dimm ≡ strand.handle
  pub from : strand.base ≤ dpa
  pub below : dpa < strand.base + strand.size

-- the address of a byte of the part at a position, if it is one
abbrev pub AddressIn : Woven → ℕ → ℕ → Option ℕ → Type 0
AddressIn woven position dpa None = (d : Strand) → let strand : Strand = slice_index_or woven.strands position d in
    strand.base ≤ dpa → strand.base + strand.size ≤ dpa
AddressIn woven position dpa (Some spa) = (d : Strand)
    → let strand : Strand = slice_index_or woven.strands position d in
    (strand.base ≤ dpa) × (dpa < strand.base + strand.size) × (spa ≡ address_of woven strand (dpa - strand.base))

-- the module is a member of the region
abbrev pub is_member : Woven → ℕ → Bool
is_member woven dimm = list_any (λ strand. strand.handle == dimm) woven.strands

-- Each address of the range is in exactly one pair, and so is each module address of each part.
pub record IsOneToOne (woven : Woven) : Type 0 where
  pub some_module : (spa : ℕ) → IsInRange woven spa → (dimm : ℕ) × (dpa : ℕ) × IsPair woven spa dimm dpa
  pub one_module : (spa dimm dpa dimm' dpa' : ℕ) → IsPair woven spa dimm dpa → IsPair woven spa dimm' dpa'
      → (dimm ≡ dimm') × (dpa ≡ dpa')
  pub some_address : (dimm dpa : ℕ) → IsMapped woven dimm dpa → (spa : ℕ) × IsPair woven spa dimm dpa
  pub one_address : (spa spa' dimm dpa : ℕ) → IsPair woven spa dimm dpa → IsPair woven spa' dimm dpa → spa ≡ spa'
  pub in_range : (spa dimm dpa : ℕ) → IsPair woven spa dimm dpa → IsInRange woven spa
  pub mapped : (spa dimm dpa : ℕ) → IsPair woven spa dimm dpa → IsMapped woven dimm dpa

-- the lines that a part has in a period, in bytes
abbrev pub period_of : Strand → ℕ
period_of strand = length strand.lines * strand.line_size

-- For an offset o and a length n of whole periods, the `ways * n` addresses from `ways * o` on are those of the bytes o
-- to o + n of each part.
abbrev pub HasIntervals : Woven → Type 0
HasIntervals woven = (o n spa d : ℕ) (strand : Strand) → Contains woven.strands strand → o % period_of strand ≡ 0
    → n % period_of strand ≡ 0
    → IsPair woven spa strand.handle (strand.base + d)
    → is_within (woven.spa + length woven.strands * o) (length woven.strands * n) spa ≡ is_within o n d

-- Two intervals without a common offset never reach one byte of a module.
abbrev pub KeepsApart : Woven → Type 0
KeepsApart woven = (o n o' n' spa spa' dimm dpa dimm' dpa' : ℕ) → o + n ≤ o'
    → is_within (woven.spa + length woven.strands * o) (length woven.strands * n) spa ≡ true
    → is_within (woven.spa + length woven.strands * o') (length woven.strands * n') spa' ≡ true
    → IsPair woven spa dimm dpa → IsPair woven spa' dimm' dpa' → dimm ≡ dimm' → dpa ≢ dpa'
