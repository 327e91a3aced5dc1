-- What the fields of kept writes stand for.
use Rattle.std.specs.Prelude.{ℕ, ◌+◌, ◌*◌, ◌≤◌, List, [], ◌∷◌, map, vec_len, vec_capacity}
use Rattle.byte_ranges.specs.Ranges.{range}
use Rattle.btt_arena.specs.Kept.{KeptWrite, Keeping}
use Rattle.btt_arena.specs.declared.kept_writes.Entry.{Entry}
use Rattle.btt_arena.specs.declared.kept_writes.KeptWrites.TheInside.{Inside}

-- the write of an entry, by the bytes of all
abbrev pub write_at : List ℕ → Entry → KeptWrite
write_at bytes entry = record {
  call = entry.call;
  at = entry.at;
  old = range bytes entry.from entry.len;
  new = range bytes (entry.from + entry.len) entry.len;
}

-- where the bytes of an entry end
abbrev pub end_of : Entry → ℕ
end_of entry = entry.from + 2 * entry.len

abbrev pub AllEndWithin : ℕ → List Entry → Type 0
AllEndWithin n [] = Unit {0}
AllEndWithin n (entry ∷ entries) = (end_of entry ≤ n) × AllEndWithin n entries

abbrev pub keeping_in : Inside → Keeping
keeping_in k = record {
  kept = map (write_at k.bytes.items) k.entries.items;
  calls = k.most_calls;
  bytes = k.most_bytes;
  taken = vec_len k.bytes;
}

-- each entry has its bytes, and the memory of all was taken
pub record IsSound (k : Inside) : Type 0 where
  pub entries : AllEndWithin (vec_len k.bytes) k.entries.items
  pub within : vec_len k.bytes ≤ k.most_bytes
  pub calls_taken : k.most_calls ≤ vec_capacity k.entries
  pub bytes_taken : k.most_bytes ≤ vec_capacity k.bytes
