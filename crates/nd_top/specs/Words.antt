-- The words of a command line, and the form that they are.
use Rattle.std.specs.Prelude.{ℕ, ◌^◌, ◌&&◌, Bool, List, [], ◌∷◌, ◌++◌, Option, Some, None, codes, drop, false}
use Rattle.std.specs.Prelude.{if◌then◌else◌, nat_eq, not, slice_get, unwrap_or, String}
use Rattle.std.specs.declared.alloc.Global.{Global}
use Rattle.std.specs.List.{after_first, before_first, join_by, list_any, starts_with}
use Rattle.std.specs.Option.{option_map}
use Rattle.std.specs.Str.{bytes_eq}
use Rattle.cmd_words.specs.Numbers.{below, number}
use Rattle.std.specs.String.{string_bytes}
use Rattle.nd_top.specs.declared.words.Request.{Request}
use Rattle.nd_top.specs.declared.words.Request.TheVariants.{Labels, Line, Input}

-- a word of the command line
abbrev pub Word : Type 0
Word = String Global

-- the word is `--`
abbrev pub is_dashes : Word → Bool
is_dashes word = bytes_eq (string_bytes word) (codes "--")

-- the word begins with `-`, and is not `-` alone
abbrev pub is_option : Word → Bool
is_option word =
    starts_with nat_eq (string_bytes word) (codes "-") && not (bytes_eq (string_bytes word) (codes "-"))

-- the words without a first `--`
abbrev pub operands : List Word → List Word
operands words = before_first is_dashes words ++ after_first is_dashes words

-- a device handle: a number below 2^32
abbrev pub handle : List ℕ → Option ℕ
handle text = below (2 ^ 32) (number text)

-- what the words of a run ask for: the labels of a module, or that one line is done, or those of the input
pub data Asked : Type 0 where
  LabelsOf : (dimm : ℕ) → Asked
  DoLine : (line : List ℕ) → Asked
  RunInput : Asked

-- `labels DIR HANDLE`: exactly three words
abbrev pub labels_form : List Word → Option Asked
labels_form (command ∷ dir ∷ module_handle ∷ []) =
    if bytes_eq (string_bytes command) (codes "labels")
    then option_map LabelsOf (handle (string_bytes module_handle))
    else None
labels_form _ = None

-- the line of `do`: the words behind the folder, with a space between each two
abbrev pub line_of : List Word → List ℕ
line_of operands = join_by string_bytes (codes " ") (drop 2 operands)

-- `do DIR WORD...`: three words or more
abbrev pub do_form : List Word → Option Asked
do_form (command ∷ dir ∷ word ∷ words) = Some (DoLine (line_of (command ∷ dir ∷ word ∷ words)))
do_form _ = None

-- `run DIR`: exactly two words
abbrev pub run_form : List Word → Option Asked
run_form (command ∷ dir ∷ []) = Some RunInput
run_form _ = None

abbrev pub is_command : List ℕ → List Word → Bool
is_command name [] = false
is_command name (command ∷ words) = bytes_eq (string_bytes command) name

-- The first of the words without a first `--` says which form they may be.
abbrev pub operands_form : List Word → Option Asked
operands_form words =
    if is_command (codes "do") words then do_form words
    else if is_command (codes "run") words then run_form words
    else labels_form words

-- Before a first `--` no word may be an option. All words behind it are taken as they are.
abbrev pub form_in : List Word → List Word → Option Asked
form_in front back = if list_any is_option front then None else operands_form (front ++ back)

-- what the words ask for, and none where they are no form
abbrev pub asked : List Word → Option Asked
asked words = form_in (before_first is_dashes words) (after_first is_dashes words)

-- what a request asks for
abbrev pub asked_as : Request → Asked
asked_as (Labels dimm) = LabelsOf dimm
asked_as (Line front back) = DoLine (line_of (front.now ++ back.now))
asked_as Input = RunInput

-- the folder: the second word without a first `--`, or `.` where there are fewer than two
abbrev pub dir_of : List Word → List ℕ
dir_of words = unwrap_or (option_map string_bytes (slice_get (operands words) 1)) (codes ".")
