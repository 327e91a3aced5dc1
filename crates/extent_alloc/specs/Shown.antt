-- What the fields of `Extents` show.
use Rattle.std.specs.Prelude.{◌<◌, ◌^◌}
use Rattle.view_types.specs.Intervals.{Ascend}
use Rattle.extent_alloc.specs.declared.extents.Extents.TheInside.{Inside}
use Rattle.extent_alloc.specs.Chains.{extents_of}
use Rattle.extent_alloc.specs.Free.{FreeSpace}

abbrev pub free_space : Inside → FreeSpace
free_space free = record { extents = extents_of free.chain.links; whole = free.whole; spare = free.chain.spare }

pub record IsFreeList (free : Inside) : Type 0 where
  pub ascend : Ascend 0 free.whole (extents_of free.chain.links)
  pub bound : free.whole < 2 ^ 64
