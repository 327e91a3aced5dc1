-- An index over the live labels of modules. The modules are given by their device handles, in the order of their
-- positions.
use Rattle.std.specs.Prelude.{◌≡◌, ◌≢◌, ℕ, zero, suc, ◌+◌, ◌<◌, List, [], ◌∷◌, ◌++◌, Option, Some, None, length}
use Rattle.std.specs.Prelude.{slice_index}
use Rattle.std.specs.List.Sorted.{IsPermutation}
use Rattle.std.specs.Option.{option_map, option_to_list}
use Rattle.label_codec.specs.declared.label.Label.{Label}
use Rattle.label_codec.specs.ModuleLabels.{Labels, Module}
use Rattle.uuid_index.specs.declared.entry.Entry.{Entry}
use Rattle.uuid_index.specs.declared.index.Found.{Found}
use Rattle.uuid_index.specs.Entries.{IsOrdered, entry_of}
use Rattle.uuid_index.specs.Found.{IsFoundLabel}

-- the entry of a slot of the module at a position, if a label is live there
abbrev pub entry_at : ℕ → ℕ → Option Label → List Entry
entry_at position slot label = option_to_list (option_map (λ l. entry_of l position slot) label)

-- the entries of the slots below one, ascending
abbrev pub entries_below : ℕ → (ℕ → Option Label) → ℕ → List Entry
entries_below position at zero = []
entries_below position at (suc slot) = entries_below position at slot ++ entry_at position slot (at slot)

-- the entries of the live labels of the module at a position
abbrev pub entries_of : ℕ → Module → List Entry
entries_of position area = entries_below position area.at area.slots

-- those of modules whose positions count from one on
abbrev pub entries_from : ℕ → List ℕ → Labels → List Entry
entries_from position [] labels = []
entries_from position (handle ∷ handles) labels = entries_of position (labels handle)
    ++ entries_from (position + 1) handles labels

-- one for each live label of the modules
abbrev pub live_entries : List ℕ → Labels → List Entry
live_entries modules labels = entries_from 0 modules labels

-- an index has an entry for each live label of the modules and no other, in order
pub record IsIndex (modules : List ℕ) (labels : Labels) (entries : List Entry) : Type 0 where
  pub live : IsPermutation (live_entries modules labels) entries
  pub ordered : IsOrdered entries

-- no other position has the module
abbrev pub IsOnlyOnce : List ℕ → ℕ → Type 0
IsOnlyOnce modules position = (k : ℕ) → k < length modules
    → slice_index modules k ≡ slice_index modules position → k ≡ position

-- a free slot of a module gets a label, and all else stays
pub record PutsLabel (before after : Module) (slot : ℕ) (label : Label) : Type 0 where
  pub slots : after.slots ≡ before.slots
  pub within : slot < before.slots
  pub was_free : before.at slot ≡ None
  pub now_live : after.at slot ≡ Some label
  pub others : (k : ℕ) → k ≢ slot → after.at k ≡ before.at k

-- the slot that the entry names, in the module at its position, gets a label with its uuid, and all else stays
pub record GainsLabel (modules : List ℕ) (entry : Entry) (before after : Labels) : Type 0 where
  pub within : entry.position < length modules
  pub only_once : IsOnlyOnce modules entry.position
  pub label : Label
  pub has_uuid : label.uuid ≡ entry.uuid
  pub puts : let handle = slice_index modules entry.position in
      PutsLabel (before handle) (after handle) entry.slot label
  pub others : (handle : ℕ) → handle ≢ slice_index modules entry.position → after handle ≡ before handle

-- the slot loses its label: the same, read backwards
abbrev pub LosesLabel : List ℕ → Entry → Labels → Labels → Type 0
LosesLabel modules entry before after = GainsLabel modules entry after before

-- In what follows the facts hold for whatever labels the entries are an index of.

-- entries are an index of the labels whose entries were given, in any order
abbrev pub IsIndexOfGiven : List Entry → List Entry → Type 0
IsIndexOfGiven given entries = (modules : List ℕ) (labels : Labels)
    → IsPermutation (live_entries modules labels) given → IsIndex modules labels entries

-- what is found among the entries is so among the labels of the module at the position
abbrev pub IsFoundInLabels : List ℕ → ℕ → List Entry → Found → Type 0
IsFoundInLabels uuid position entries found = (modules : List ℕ) (labels : Labels) → IsIndex modules labels entries
    → position < length modules
    → IsFoundLabel uuid (labels (slice_index modules position)) found

-- an index of labels is now one of those with the label that the entry names
abbrev pub FollowsGain : Entry → List Entry → List Entry → Type 0
FollowsGain entry old now = (modules : List ℕ) (before after : Labels) → GainsLabel modules entry before after
    → IsIndex modules before old → IsIndex modules after now

-- or of those without it
abbrev pub FollowsLoss : Entry → List Entry → List Entry → Type 0
FollowsLoss entry old now = (modules : List ℕ) (before after : Labels) → LosesLabel modules entry before after
    → IsIndex modules before old → IsIndex modules after now
