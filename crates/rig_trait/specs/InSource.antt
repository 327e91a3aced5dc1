-- What the fields of a source in memory stand for.
use Rattle.std.specs.Prelude.{drop}
use Rattle.rig_trait.specs.MemorySource.{Input}
use Rattle.rig_trait.specs.declared.memory_source.MemorySource.TheInside.{Inside}

abbrev pub input_in : Inside → Input
input_in source = record {
  left = drop source.at source.bytes.items;
  listed = source.listed.items;
  calls = source.calls;
  faults = source.faults;
}
