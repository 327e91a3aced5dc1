-- The commands, with their keys, and the values that they take.
use Rattle.std.specs.Prelude.{ℕ, ◌^◌, List, [], ◌∷◌, Option, Some, None, Result, Ok, Err, codes, if◌then◌else◌}
use Rattle.std.specs.Str.{bytes_eq}
use Rattle.view_types.specs.declared.key.Key.{Key}
use Rattle.view_types.specs.declared.key.Key.TheVariants.{Dimm, Region, Size, Name, Mode, SectorSize, Uuid, Namespace}
use Rattle.view_types.specs.declared.key.Key.TheVariants.{Spa, Dpa, Length}
use Rattle.view_types.specs.declared.word_fault.WordFault.{WordFault}
use Rattle.view_types.specs.Modes.{abstraction_of}
use Rattle.cmd_words.specs.declared.commands.Command.{Command}
use Rattle.cmd_words.specs.declared.commands.Command.TheVariants as command
use Rattle.cmd_words.specs.declared.commands.Verb.{Verb}
use Rattle.cmd_words.specs.declared.commands.Verb.TheVariants.{InitLabels, Create, Destroy, Rename, ReleaseHeld}
use Rattle.cmd_words.specs.declared.commands.Verb.TheVariants.{ListSpaces, ListRegions, ListFree, ListHeld, ToModule}
use Rattle.cmd_words.specs.declared.commands.Verb.TheVariants.{ToSpa, ToRuns}
use Rattle.cmd_words.specs.declared.name_keys.NameKey.{NameKey}
use Rattle.cmd_words.specs.Values.{mode_or_raw, name_for, name_or_empty, namespace_for, number_for, optional_region}
use Rattle.cmd_words.specs.Values.{optional_uuid, sector_size_or_512, size_for, uuid_for}

-- the first piece of a command
abbrev pub verb_of : List ℕ → Option Verb
verb_of piece =
    if bytes_eq piece (codes "init-labels") then Some InitLabels
    else if bytes_eq piece (codes "create-namespace") then Some Create
    else if bytes_eq piece (codes "destroy-namespace") then Some Destroy
    else if bytes_eq piece (codes "rename-namespace") then Some Rename
    else if bytes_eq piece (codes "release-held") then Some ReleaseHeld
    else if bytes_eq piece (codes "list") then Some ListSpaces
    else if bytes_eq piece (codes "list-regions") then Some ListRegions
    else if bytes_eq piece (codes "list-free") then Some ListFree
    else if bytes_eq piece (codes "list-held") then Some ListHeld
    else if bytes_eq piece (codes "to-module") then Some ToModule
    else if bytes_eq piece (codes "to-spa") then Some ToSpa
    else if bytes_eq piece (codes "to-runs") then Some ToRuns
    else None

-- its keys, in the order in which they are tested
abbrev pub keys_of : Verb → List Key
keys_of InitLabels = Dimm ∷ []
keys_of Create = Region ∷ Size ∷ Name ∷ Mode ∷ SectorSize ∷ Uuid ∷ []
keys_of Destroy = Region ∷ Namespace ∷ []
keys_of Rename = Region ∷ Namespace ∷ Name ∷ []
keys_of ReleaseHeld = Dimm ∷ Uuid ∷ []
keys_of ListSpaces = Region ∷ []
keys_of ListRegions = []
keys_of ListFree = Region ∷ []
keys_of ListHeld = Dimm ∷ []
keys_of ToModule = Region ∷ Spa ∷ []
keys_of ToSpa = Region ∷ Dimm ∷ Dpa ∷ []
keys_of ToRuns = Region ∷ Spa ∷ Length ∷ []

-- those of them that may not be left out
abbrev pub required_of : Verb → List Key
required_of Create = Region ∷ Size ∷ []
required_of ListSpaces = []
required_of verb = keys_of verb

-- what comes next, unless there is a fault
abbrev pub and_then : {A : Type 0} → Result A WordFault → (A → Result Command WordFault) → Result Command WordFault
and_then (Ok value) next = next value
and_then (Err fault) next = Err fault

abbrev pub region_then : List (List ℕ) → (ℕ → Result Command WordFault) → Result Command WordFault
region_then pieces next = and_then (number_for Region (2 ^ 16) pieces) next

abbrev pub optional_region_then : List (List ℕ) → (Option ℕ → Result Command WordFault) → Result Command WordFault
optional_region_then pieces next = and_then (optional_region pieces) next

abbrev pub dimm_then : List (List ℕ) → (ℕ → Result Command WordFault) → Result Command WordFault
dimm_then pieces next = and_then (number_for Dimm (2 ^ 32) pieces) next

abbrev pub address_then : Key → List (List ℕ) → (ℕ → Result Command WordFault) → Result Command WordFault
address_then key pieces next = and_then (number_for key (2 ^ 64) pieces) next

abbrev pub size_then : Key → List (List ℕ) → (ℕ → Result Command WordFault) → Result Command WordFault
size_then key pieces next = and_then (size_for key pieces) next

abbrev pub namespace_then : List (List ℕ) → (NameKey → Result Command WordFault) → Result Command WordFault
namespace_then pieces next = and_then (namespace_for pieces) next

-- the command with the values of its keys, or the first that is not of its kind
abbrev pub command_of : Verb → List (List ℕ) → Result Command WordFault
command_of InitLabels pieces = dimm_then pieces (λ dimm. Ok (command.InitLabels dimm))
command_of Create pieces =
    region_then pieces (λ region. size_then Size pieces (λ size. and_then (name_or_empty pieces) (λ name.
    and_then (mode_or_raw pieces) (λ mode.
    and_then (sector_size_or_512 pieces) (λ sector. and_then (optional_uuid pieces) (λ uuid.
    Ok (command.Create region size name (abstraction_of mode) sector uuid)))))))
command_of Destroy pieces =
    region_then pieces (λ region. namespace_then pieces (λ key. Ok (command.Destroy region key)))
command_of Rename pieces =
    region_then pieces (λ region.
    namespace_then pieces (λ key. and_then (name_for pieces) (λ name. Ok (command.Rename region key name))))
command_of ReleaseHeld pieces =
    dimm_then pieces (λ dimm. and_then (uuid_for pieces) (λ uuid. Ok (command.ReleaseHeld dimm uuid)))
command_of ListSpaces pieces = optional_region_then pieces (λ region. Ok (command.ListSpaces region))
command_of ListRegions pieces = Ok command.ListRegions
command_of ListFree pieces = region_then pieces (λ region. Ok (command.ListFree region))
command_of ListHeld pieces = dimm_then pieces (λ dimm. Ok (command.ListHeld dimm))
command_of ToModule pieces =
    region_then pieces (λ region. address_then Spa pieces (λ spa. Ok (command.ToModule region spa)))
command_of ToSpa pieces =
    region_then pieces (λ region.
    dimm_then pieces (λ dimm. address_then Dpa pieces (λ dpa. Ok (command.ToSpa region dimm dpa))))
command_of ToRuns pieces =
    region_then pieces (λ region.
    address_then Spa pieces (λ spa. size_then Length pieces (λ length. Ok (command.ToRuns region spa length))))
