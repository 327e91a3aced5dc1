-- The line of a command, and the first fault of one that is none.
use Rattle.std.specs.Prelude.{ℕ, ◌+◌, ◌&&◌, Bool, List, [], ◌∷◌, ◌++◌, Option, Some, None, Result, Ok, Err, codes, find}
use Rattle.std.specs.Prelude.{if◌then◌else◌, is_none, length, nat_eq, nat_le, nat_lt, not}
use Rattle.std.specs.List.{list_any, position, starts_with}
use Rattle.std.specs.Option.{option_map, option_or}
use Rattle.view_types.specs.declared.key.Key as keys
use Rattle.view_types.specs.declared.word_fault.WordFault.{WordFault}
use Rattle.view_types.specs.declared.word_fault.WordFault.TheVariants.{TooLong, Byte, Unknown, Key, Twice, Missing}
use Rattle.cmd_words.specs.declared.commands.Command.{Command}
use Rattle.cmd_words.specs.declared.commands.Verb.{Verb}
use Rattle.cmd_words.specs.Commands.{command_of, keys_of, required_of, verb_of}
use Rattle.cmd_words.specs.Keys.{given, gives, key_of}
use Rattle.cmd_words.specs.Pieces.{pieces}

abbrev pub is_visible_or_space : ℕ → Bool
is_visible_or_space byte = nat_le 32 byte && nat_le byte 126

abbrev pub fault_by_key : List (List ℕ) → Option keys.Key → Option WordFault
fault_by_key earlier None = Some (Key (length earlier + 1))
fault_by_key earlier (Some key) = if list_any (gives key) earlier then Some (Twice key) else None

-- the fault of a piece behind others: it gives no value to a key of the command, or to one that an earlier piece gave
-- one to
abbrev pub piece_fault : List keys.Key → List (List ℕ) → List ℕ → Option WordFault
piece_fault keys earlier piece = fault_by_key earlier (key_of keys piece)

-- the first fault of pieces behind others, from left to right
abbrev pub first_fault : List keys.Key → List (List ℕ) → List (List ℕ) → Option WordFault
first_fault keys earlier [] = None
first_fault keys earlier (piece ∷ more) =
    option_or (piece_fault keys earlier piece) (first_fault keys (earlier ++ piece ∷ []) more)

-- the first of the keys to which no piece gives a value
abbrev pub first_missing : List keys.Key → List (List ℕ) → Option keys.Key
first_missing keys pieces = find (λ key. is_none (given key pieces)) keys

-- the first fault of the pieces behind a command, before its values are looked at
abbrev pub keys_fault : Verb → List (List ℕ) → Option WordFault
keys_fault verb pieces =
    option_or (first_fault (keys_of verb) [] pieces) (option_map Missing (first_missing (required_of verb) pieces))

abbrev pub as_some : Result Command WordFault → Result (Option Command) WordFault
as_some (Ok command) = Ok (Some command)
as_some (Err fault) = Err fault

abbrev pub line_by_fault : Option WordFault → Verb → List (List ℕ) → Result (Option Command) WordFault
line_by_fault (Some fault) verb more = Err fault
line_by_fault None verb more = as_some (command_of verb more)

abbrev pub line_by_verb : Option Verb → List (List ℕ) → Result (Option Command) WordFault
line_by_verb None more = Err Unknown
line_by_verb (Some verb) more = line_by_fault (keys_fault verb more) verb more

-- a line without pieces is blank, and one whose first piece begins with `#` is a comment
abbrev pub line_of : List (List ℕ) → Result (Option Command) WordFault
line_of [] = Ok None
line_of (piece ∷ more) = if starts_with nat_eq piece (codes "#") then Ok None else line_by_verb (verb_of piece) more

abbrev pub line_by_byte : Option ℕ → List ℕ → Result (Option Command) WordFault
line_by_byte (Some at) line = Err (Byte at)
line_by_byte None line = line_of (pieces line)

-- the most bytes of a line
abbrev pub most_bytes : ℕ
most_bytes = 4096

-- the command that a line is, none where it is blank or a comment, or its first fault
abbrev pub command_in : List ℕ → Result (Option Command) WordFault
command_in line =
    if nat_lt most_bytes (length line) then Err TooLong
    else line_by_byte (position (λ byte. not (is_visible_or_space byte)) line) line
