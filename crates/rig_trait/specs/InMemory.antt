-- What the fields of a rig in memory stand for.
use Rattle.std.specs.Prelude.{◌≤◌, vec_capacity}
use Rattle.rig_trait.specs.Kept.{AllLieIn, kept_calls}
use Rattle.rig_trait.specs.Memory.{Memory, areas_of}
use Rattle.rig_trait.specs.declared.memory.MemoryRig.TheInside.{Inside}

abbrev pub memory_in : Inside → Memory
memory_in rig = record {
  areas = areas_of rig.areas;
  said = rig.said.items;
  room = rig.room;
  listed = rig.listed.items;
  calls = rig.calls;
  counts = rig.counts;
  keeping = rig.keeping;
}

-- the memory of the room was taken, and the kept writes lie inside the areas
pub record IsSound (rig : Inside) : Type 0 where
  pub room : rig.room ≤ vec_capacity rig.said
  pub kept : AllLieIn (areas_of rig.areas) (kept_calls rig.keeping)
