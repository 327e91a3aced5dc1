-- What the fields of a media in memory stand for.
use Rattle.std.specs.Prelude.{length}
use Rattle.btt_arena.specs.Kept.{AllLieIn, kept_writes}
use Rattle.btt_arena.specs.Memory.{Memory}
use Rattle.btt_arena.specs.declared.memory.MemoryMedia.TheInside.{Inside}

abbrev pub memory_in : Inside → Memory
memory_in media = record {
  bytes = media.bytes.items;
  listed = media.listed.items;
  calls = media.calls;
  faults = media.faults;
  keeping = media.keeping;
}

-- the kept writes lie inside the bytes
pub record IsSound (media : Inside) : Type 0 where
  pub kept : AllLieIn (length media.bytes.items) (kept_writes media.keeping)
