-- A label that is marked as being changed, and one that gets another name with the mark.
use Rattle.std.specs.Prelude.{ℕ, List, bit_or}
use Rattle.label_codec.specs.declared.label.Label.{Label}
use Rattle.label_table.specs.Fates.{without_slot}

-- flags with UPDATING
abbrev pub with_updating : ℕ → ℕ
with_updating flags = bit_or flags 8

abbrev pub marked_label : Label → Label
marked_label own = record own { flags = with_updating own.flags }

abbrev pub renamed_label : List ℕ → Label → Label
renamed_label name own = record own { name = name; flags = with_updating own.flags }

-- the same without the number of the slot, which the flip sets
abbrev pub marked : Label → Label
marked own = without_slot (marked_label own)

abbrev pub renamed : List ℕ → Label → Label
renamed name own = without_slot (renamed_label name own)
