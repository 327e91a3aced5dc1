-- The flags of a label (UEFI 2.7, section 13.19): bit 0 is ROLABEL, bit 1 LOCAL and bit 3 UPDATING.
use Rattle.std.specs.Prelude.{◌==◌, Bool}
use Rattle.std.specs.Int.{bit_at}
use Rattle.label_codec.specs.declared.label.Label.{Label}

abbrev pub is_read_only : Label → Bool
is_read_only label = bit_at label.flags 0 == 1

abbrev pub is_local : Label → Bool
is_local label = bit_at label.flags 1 == 1

abbrev pub is_updating : Label → Bool
is_updating label = bit_at label.flags 3 == 1
