-- The keys that pieces give values to.
use Rattle.std.specs.Prelude.{ℕ, ◌==◌, ◌&&◌, Bool, List, Option, Some, None, find, if◌then◌else◌, is_some}
use Rattle.std.specs.List.{after_first, before_first, list_any}
use Rattle.std.specs.Option.{option_and_then}
use Rattle.std.specs.Str.{bytes_eq}
use Rattle.view_types.specs.declared.key.Key.{Key}
use Rattle.view_types.specs.Keys.{text_of}

abbrev pub is_equals : ℕ → Bool
is_equals byte = byte == 61

-- the value that a piece `key=value` gives to a key; it is split at its first `=`
abbrev pub value_for : Key → List ℕ → Option (List ℕ)
value_for key piece =
    if list_any is_equals piece && bytes_eq (before_first is_equals piece) (text_of key)
    then Some (after_first is_equals piece)
    else None

abbrev pub gives : Key → List ℕ → Bool
gives key piece = is_some (value_for key piece)

-- the one of these keys that a piece gives a value to
abbrev pub key_of : List Key → List ℕ → Option Key
key_of keys piece = find (λ key. gives key piece) keys

-- the value that the first of these pieces which gives one to a key gives to it
abbrev pub given : Key → List (List ℕ) → Option (List ℕ)
given key pieces = option_and_then (value_for key) (find (gives key) pieces)
