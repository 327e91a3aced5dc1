-- The values that pieces give to keys.
use Rattle.std.specs.Prelude.{ℕ, ◌^◌, List, Option, Some, None, Result, Ok, Err, ok_or}
use Rattle.std.specs.Option.{option_and_then}
use Rattle.view_types.specs.declared.key.Key as keys
use Rattle.view_types.specs.declared.key.Key.TheVariants.{Region, Name, Mode, SectorSize, Uuid, Namespace}
use Rattle.view_types.specs.declared.mode.Mode as modes
use Rattle.view_types.specs.declared.mode.Mode.TheVariants.{Raw}
use Rattle.view_types.specs.declared.word_fault.WordFault.{WordFault}
use Rattle.view_types.specs.declared.word_fault.WordFault.TheVariants.{Value}
use Rattle.cmd_words.specs.declared.name_keys.NameKey.{NameKey}
use Rattle.cmd_words.specs.Keys.{given}
use Rattle.cmd_words.specs.Modes.{mode, sector_size}
use Rattle.cmd_words.specs.NameKeys.{name_key}
use Rattle.cmd_words.specs.Names.{empty_name, name}
use Rattle.cmd_words.specs.Numbers.{below, number, size}
use Rattle.cmd_words.specs.Uuids.{uuid}

-- what the first of these pieces which gives a value to a key gives to it, as a number below a bound
abbrev pub number_for : keys.Key → ℕ → List (List ℕ) → Result ℕ WordFault
number_for key bound pieces = ok_or (below bound (option_and_then number (given key pieces))) (Value key)

-- the same as a size
abbrev pub size_for : keys.Key → List (List ℕ) → Result ℕ WordFault
size_for key pieces = ok_or (below (2 ^ 64) (option_and_then size (given key pieces))) (Value key)

-- and as a value of another kind
abbrev pub name_for : List (List ℕ) → Result (List ℕ) WordFault
name_for pieces = ok_or (option_and_then name (given Name pieces)) (Value Name)

abbrev pub namespace_for : List (List ℕ) → Result NameKey WordFault
namespace_for pieces = ok_or (option_and_then name_key (given Namespace pieces)) (Value Namespace)

abbrev pub mode_for : List (List ℕ) → Result modes.Mode WordFault
mode_for pieces = ok_or (option_and_then mode (given Mode pieces)) (Value Mode)

abbrev pub sector_size_for : List (List ℕ) → Result ℕ WordFault
sector_size_for pieces = ok_or (option_and_then sector_size (given SectorSize pieces)) (Value SectorSize)

abbrev pub uuid_for : List (List ℕ) → Result (List ℕ) WordFault
uuid_for pieces = ok_or (option_and_then uuid (given Uuid pieces)) (Value Uuid)

-- a value that may be left out: what it is where it is given
abbrev pub value_if : {A : Type 0} → Option (List ℕ) → Result A WordFault → Result (Option A) WordFault
value_if None value = Ok None
value_if (Some text) (Ok value) = Ok (Some value)
value_if (Some text) (Err fault) = Err fault

-- the same with another value in its place
abbrev pub value_or : {A : Type 0} → A → Option (List ℕ) → Result A WordFault → Result A WordFault
value_or default None value = Ok default
value_or default (Some text) value = value

-- the index of a region, where a piece gives one
abbrev pub optional_region : List (List ℕ) → Result (Option ℕ) WordFault
optional_region pieces = value_if (given Region pieces) (number_for Region (2 ^ 16) pieces)

abbrev pub optional_uuid : List (List ℕ) → Result (Option (List ℕ)) WordFault
optional_uuid pieces = value_if (given Uuid pieces) (uuid_for pieces)

-- what a namespace has where no piece gives it: an empty name, the mode `raw`, and sectors of 512 bytes
abbrev pub name_or_empty : List (List ℕ) → Result (List ℕ) WordFault
name_or_empty pieces = value_or empty_name (given Name pieces) (name_for pieces)

abbrev pub mode_or_raw : List (List ℕ) → Result modes.Mode WordFault
mode_or_raw pieces = value_or Raw (given Mode pieces) (mode_for pieces)

abbrev pub sector_size_or_512 : List (List ℕ) → Result ℕ WordFault
sector_size_or_512 pieces = value_or 512 (given SectorSize pieces) (sector_size_for pieces)
