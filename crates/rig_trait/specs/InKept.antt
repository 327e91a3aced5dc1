-- What the fields of kept calls stand for.
use Rattle.std.specs.Prelude.{ℕ, ◌+◌, ◌*◌, ◌≤◌, List, [], ◌∷◌, map, vec_len, vec_capacity}
use Rattle.byte_ranges.specs.Ranges.{range}
use Rattle.rig_trait.specs.Kept.{KeptCall, kept_write, kept_say, Keeping}
use Rattle.rig_trait.specs.declared.kept_calls.Entry.{Entry}
use Rattle.rig_trait.specs.declared.kept_calls.Entry.TheVariants.{Write, Say}
use Rattle.rig_trait.specs.declared.kept_calls.KeptCalls.TheInside.{Inside}

-- the call of an entry, by the bytes of all
abbrev pub call_at : List ℕ → Entry → KeptCall
call_at bytes (Write call dimm at from len) =
    kept_write call dimm at (range bytes from len) (range bytes (from + len) len)
call_at bytes (Say call said from len) = kept_say call said (range bytes from len)

-- the number of an entry's call
abbrev pub entry_number : Entry → ℕ
entry_number (Write call dimm at from len) = call
entry_number (Say call said from len) = call

-- where the bytes of an entry end
abbrev pub end_of : Entry → ℕ
end_of (Write call dimm at from len) = from + 2 * len
end_of (Say call said from len) = from + len

abbrev pub AllEndWithin : ℕ → List Entry → Type 0
AllEndWithin n [] = Unit {0}
AllEndWithin n (entry ∷ entries) = (end_of entry ≤ n) × AllEndWithin n entries

abbrev pub keeping_in : Inside → Keeping
keeping_in k = record {
  kept = map (call_at k.bytes.items) k.entries.items;
  calls = k.most_calls;
  bytes = k.most_bytes;
  taken = vec_len k.bytes;
}

-- each entry has its bytes, and the memory of all was taken
pub record IsSound (k : Inside) : Type 0 where
  pub entries : AllEndWithin (vec_len k.bytes) k.entries.items
  pub within : vec_len k.bytes ≤ k.most_bytes
  pub calls_taken : k.most_calls ≤ vec_capacity k.entries
  pub bytes_taken : k.most_bytes ≤ vec_capacity k.bytes
