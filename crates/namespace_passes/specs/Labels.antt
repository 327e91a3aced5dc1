-- A label of a pending namespace, and the label that heals it.
use Rattle.std.specs.Prelude.{ℕ, ◌==◌, ◌&&◌, ◌||◌, Bool, not, List, bit_and}
use Rattle.std.specs.Str.{bytes_eq}
use Rattle.label_codec.specs.declared.label.Label.{Label}
use Rattle.label_codec.specs.Flags.{is_updating}
use Rattle.label_codec.specs.Names.{name_before_zero}
use Rattle.label_table.specs.Fates.{without_slot}

-- all flags but UPDATING
abbrev pub without_updating : ℕ → ℕ
without_updating flags = bit_and flags 0xFFFFFFF7

-- names are compared by their bytes before the first zero
abbrev pub same_name : List ℕ → List ℕ → Bool
same_name one other = bytes_eq (name_before_zero one) (name_before_zero other)

-- a label has the values of the label of position 0
abbrev pub is_alike : Label → Label → Bool
is_alike leading own = same_name leading.name own.name
    && (own.lba_size == leading.lba_size
    && (bytes_eq leading.abstraction own.abstraction && own.raw_size == leading.raw_size))

-- it is being changed, or has other values
abbrev pub needs_healing : Label → Label → Bool
needs_healing leading own = is_updating own || not (is_alike leading own)

-- the label that replaces it: with these values, and not being changed
abbrev pub healed_label : Label → Label → Label
healed_label leading own = record own {
  name = leading.name;
  flags = without_updating own.flags;
  lba_size = leading.lba_size;
  raw_size = leading.raw_size;
  abstraction = leading.abstraction;
}

-- the same without the number of the slot, which the flip sets
abbrev pub healed : Label → Label → Label
healed leading own = without_slot (healed_label leading own)
