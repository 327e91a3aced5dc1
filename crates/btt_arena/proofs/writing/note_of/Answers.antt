use Rattle.std.proofs.Common.{◌≡◌, ℕ, ◌++◌, refl}
use Rattle.std.specs.Prelude.{replicate}
use Rattle.byteorder.specs.Endian.{little_bytes}
use Rattle.byte_ranges.specs.Ranges.{patched}
use Rattle.btt_arena.specs.Tables.{normal}
use Rattle.btt_arena.proofs.writing.note_of.Goals as goal

note_put : (x y z : ℕ) → patched (patched (patched (replicate 12 0) 0 (little_bytes 4 x)) 4 (little_bytes 4 y)) 8 (little_bytes 4 z) ≡ little_bytes 4 x ++ little_bytes 4 y ++ little_bytes 4 z
unfolding patched
note_put x y z = refl

pub returns : goal.returns
returns c = rw (c.put_u32-3.ensures, c.put_u32-2.ensures, c.put_u32.ensures) (note_put c.args.sector (normal c.args.old) (normal c.args.new))
