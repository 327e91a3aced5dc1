-- The runs of module addresses behind a range of addresses.
use Rattle.std.specs.Prelude.{◌≡◌, ℕ, ◌+◌, ◌≤◌, ◌&&◌, ◌||◌, Bool, List, map, nat_lt}
use Rattle.std.specs.List.{AllZip, flat_map}
use Rattle.view_types.specs.declared.extents.Extent.{Extent}
use Rattle.view_types.specs.declared.translation.Run.{Run}
use Rattle.view_types.specs.Intervals.{AreMaximal, Ascend, is_free, is_within}
use Rattle.spa_translate.specs.declared.strand.Strand.{Strand}
use Rattle.spa_translate.specs.Woven.{Woven, address_of}

-- byte d of a part, of those before an end, lies in the range
abbrev pub is_reached : Woven → ℕ → ℕ → Strand → ℕ → ℕ → Bool
is_reached woven spa len strand end d = nat_lt d end && is_within spa len (address_of woven strand d)

-- bytes of a part as those of its module
abbrev pub run_of : Strand → Extent → Run
run_of strand e = record { dimm = strand.handle; dpa = strand.base + e.start; length = e.len }

-- the maximal runs of a part's bytes that lie in the range, ascending
pub record AreRunsIn (woven : Woven) (spa len : ℕ) (strand : Strand) (runs : List Run) : Type 0 where
  pub extents : List Extent
  pub maximal : AreMaximal strand.size (is_reached woven spa len strand strand.size) extents
  pub are : runs ≡ map (run_of strand) extents

-- those of parts, by position
pub record AreRunsOf (woven : Woven) (spa len : ℕ) (strands : List Strand) (runs : List Run) : Type 0 where
  pub parts : List (List Run)
  pub each : AllZip (AreRunsIn woven spa len) strands parts
  pub joined : runs ≡ flat_map (λ part. part) parts

abbrev pub AreRuns : Woven → ℕ → ℕ → List Run → Type 0
AreRuns woven spa len runs = AreRunsOf woven spa len woven.strands runs

-- the extents of the bytes before an end that lie in the range
abbrev pub AreUpTo : Woven → ℕ → ℕ → Strand → ℕ → List Extent → Type 0
AreUpTo woven spa len strand end es = AreMaximal end (is_reached woven spa len strand end) es

-- extents with a range behind them
pub record IsPutAt (old : List Extent) (start len : ℕ) (new : List Extent) : Type 0 where
  pub ascend : (whole : ℕ) → Ascend 0 whole old → whole ≤ start → Ascend 0 (start + len) new
  pub free_in : (o : ℕ) → is_free new o ≡ (is_free old o || is_within start len o)
