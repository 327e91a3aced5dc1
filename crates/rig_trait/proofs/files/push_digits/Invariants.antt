use Rattle.std.proofs.Common.{◌≡◌, ◌+◌, ◌≤◌, ◌++◌, map, take, string_bytes, string_len, string_capacity}
use Rattle.rig_trait.specs.Files.{digit_at, places}
use Rattle.rig_trait.proofs.files.push_digits.Given as goal

abbrev pub invariant-loop-place : goal.invariant-loop-place
invariant-loop-place l = record {
  bytes : string_bytes l.path ≡ string_bytes l.fn.path ++ map (digit_at l.dimm) (take l.place-index places);
  len : string_len l.path ≡ string_len l.fn.path + l.place-index;
  capacity : string_capacity l.fn.path ≤ string_capacity l.path;
}
