-- The offsets of a label's fields, in bytes (UEFI 2.7, section 13.19).
use Rattle.std.specs.Prelude.{ℕ}

abbrev pub uuid_at : ℕ
uuid_at = 0

abbrev pub name_at : ℕ
name_at = 16

abbrev pub flags_at : ℕ
flags_at = 80

abbrev pub nlabel_at : ℕ
nlabel_at = 84

abbrev pub position_at : ℕ
position_at = 86

abbrev pub cookie_at : ℕ
cookie_at = 88

abbrev pub lba_size_at : ℕ
lba_size_at = 96

abbrev pub dpa_at : ℕ
dpa_at = 104

abbrev pub raw_size_at : ℕ
raw_size_at = 112

abbrev pub slot_at : ℕ
slot_at = 120

abbrev pub alignment_at : ℕ
alignment_at = 124

abbrev pub type_guid_at : ℕ
type_guid_at = 128

abbrev pub abstraction_at : ℕ
abstraction_at = 144

abbrev pub label_checksum_at : ℕ
label_checksum_at = 248
