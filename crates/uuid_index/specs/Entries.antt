-- The entries of live labels, and their order.
use Rattle.std.specs.Prelude.{◌≡◌, ℕ, ◌==◌, ◌<◌, ◌≤◌, ◌&&◌, Bool, false, true, List, count_by, length, slice_get}
use Rattle.std.specs.Prelude.{slice_index_or}
use Rattle.std.specs.Cmp.Lexicographic.{slice_cmp}
use Rattle.std.specs.List.Sorted.{IsSorted}
use Rattle.std.specs.Option.{option_map_or}
use Rattle.std.specs.Ordering.{is_lt, nat_cmp, ordering_then}
use Rattle.std.specs.Str.{bytes_eq}
use Rattle.std.specs.declared.cmp.Ordering.{Ordering}
use Rattle.label_codec.specs.declared.label.Label.{Label}
use Rattle.uuid_index.specs.declared.entry.Entry.{Entry}

-- the entry of a label in a slot of the module at a position
abbrev pub entry_of : Label → ℕ → ℕ → Entry
entry_of label position slot = record { uuid = label.uuid; position = position; slot = slot }

-- an entry beside those of a uuid at a position: by uuid, then by position
abbrev pub cmp_to : List ℕ → ℕ → Entry → Ordering
cmp_to uuid position entry = ordering_then (slice_cmp nat_cmp entry.uuid uuid) (nat_cmp entry.position position)

-- by uuid, then by position, then by slot
abbrev pub entry_cmp : Entry → Entry → Ordering
entry_cmp a b = ordering_then (slice_cmp nat_cmp a.uuid b.uuid)
    (ordering_then (nat_cmp a.position b.position) (nat_cmp a.slot b.slot))

abbrev pub IsOrdered : List Entry → Type 0
IsOrdered entries = IsSorted entry_cmp entries

-- the entry is of a label with this uuid in the module at this position
abbrev pub is_of : List ℕ → ℕ → Entry → Bool
is_of uuid position entry = bytes_eq entry.uuid uuid && (entry.position == position)

-- the entry at a place is one
abbrev pub has_at : List ℕ → ℕ → List Entry → ℕ → Bool
has_at uuid position entries at = option_map_or (is_of uuid position) (slice_get entries at) false

-- how many entries are
abbrev pub times : List ℕ → ℕ → List Entry → ℕ
times uuid position entries = count_by (is_of uuid position) entries

-- the entries before this place stand before those of the uuid at the position, and the others do not
pub record IsStart (uuid : List ℕ) (position : ℕ) (entries : List Entry) (at : ℕ) : Type 0 where
  pub within : at ≤ length entries
  pub before : (k : ℕ) (d : Entry) → k < at → is_lt (cmp_to uuid position (slice_index_or entries k d)) ≡ true
  pub from : (k : ℕ) (d : Entry) → at ≤ k → k < length entries
      → is_lt (cmp_to uuid position (slice_index_or entries k d)) ≡ false

-- an entry can go in here: none before it is greater, and none from here on is less
pub record IsPlace (entry : Entry) (entries : List Entry) (at : ℕ) : Type 0 where
  pub within : at ≤ length entries
  pub before : (k : ℕ) (d : Entry) → k < at → is_lt (entry_cmp entry (slice_index_or entries k d)) ≡ false
  pub after : (k : ℕ) (d : Entry) → at ≤ k → k < length entries
      → is_lt (entry_cmp (slice_index_or entries k d) entry) ≡ false
