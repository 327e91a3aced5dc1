-- The texts of statuses, faults and refusals.
use Rattle.std.specs.Prelude.{ℕ, List, ◌++◌, codes}
use Rattle.std.specs.Fmt.{decimal}
use Rattle.view_types.specs.declared.refusal.Refusal.{Refusal}
use Rattle.view_types.specs.declared.refusal.Refusal.TheVariants as refusals
use Rattle.view_types.specs.declared.states.Status.{Status}
use Rattle.view_types.specs.declared.states.Status.TheVariants as statuses
use Rattle.view_types.specs.declared.translation.TranslateFault.{TranslateFault}
use Rattle.view_types.specs.declared.translation.TranslateFault.TheVariants.{NoInterleave, TooManyLines, WaysDiffer}
use Rattle.view_types.specs.declared.translation.TranslateFault.TheVariants.{LinesDiffer, OffsetNotLine, Ragged}
use Rattle.view_types.specs.declared.translation.TranslateFault.TheVariants.{NotPartition}
use Rattle.view_types.specs.declared.word_fault.WordFault.{WordFault}
use Rattle.view_types.specs.declared.word_fault.WordFault.TheVariants as faults
use Rattle.view_types.specs.Keys.{text_of}
use Rattle.report_json.specs.Numbers.{handle_text, uuid_text}
use Rattle.report_json.specs.Words.{rule_word, state_word}

-- the status of a region, or why it or an area is not ready
abbrev pub status_text : Status → List ℕ
status_text (statuses.Unusable rule) = codes "unusable rule=" ++ rule_word rule
status_text (statuses.Area dimm state) = state_word state ++ codes " dimm=" ++ handle_text dimm
status_text (statuses.Clash first second) = codes "clash first=" ++ uuid_text first
    ++ codes " second=" ++ uuid_text second
status_text statuses.Ready = codes "ready"

-- the first fault of a line
abbrev pub word_fault_text : WordFault → List ℕ
word_fault_text faults.TooLong = codes "too-long"
word_fault_text (faults.Byte at) = codes "byte at=" ++ decimal at
word_fault_text faults.Unknown = codes "unknown"
word_fault_text (faults.Key piece) = codes "key piece=" ++ decimal piece
word_fault_text (faults.Twice key) = codes "twice key=" ++ text_of key
word_fault_text (faults.Missing key) = codes "missing key=" ++ text_of key
word_fault_text (faults.Value key) = codes "value key=" ++ text_of key

-- why addresses cannot be translated
abbrev pub translate_fault_text : TranslateFault → List ℕ
translate_fault_text NoInterleave = codes "no-interleave"
translate_fault_text TooManyLines = codes "too-many-lines"
translate_fault_text WaysDiffer = codes "ways-differ"
translate_fault_text LinesDiffer = codes "lines-differ"
translate_fault_text OffsetNotLine = codes "offset-not-line"
translate_fault_text Ragged = codes "ragged"
translate_fault_text (NotPartition line) = codes "not-partition line=" ++ decimal line

-- why a command is refused
abbrev pub refusal_text : Refusal → List ℕ
refusal_text (refusals.Words fault) = codes "words " ++ word_fault_text fault
refusal_text (refusals.UnknownRegion region) = codes "unknown-region region=" ++ decimal region
refusal_text (refusals.UnknownDimm dimm) = codes "unknown-dimm dimm=" ++ handle_text dimm
refusal_text (refusals.Unusable rule) = codes "unusable rule=" ++ rule_word rule
refusal_text (refusals.NotReady status) = codes "not-ready " ++ status_text status
refusal_text (refusals.Unhealed dimm) = codes "unhealed dimm=" ++ handle_text dimm
refusal_text refusals.UnknownNamespace = codes "unknown-namespace"
refusal_text (refusals.Ambiguous count) = codes "ambiguous count=" ++ decimal count
refusal_text (refusals.ReadOnly uuid) = codes "read-only uuid=" ++ uuid_text uuid
refusal_text (refusals.BadSize unit) = codes "bad-size unit=" ++ decimal unit
refusal_text (refusals.NameInUse uuid) = codes "name-in-use uuid=" ++ uuid_text uuid
refusal_text (refusals.UuidInUse dimm) = codes "uuid-in-use dimm=" ++ handle_text dimm
refusal_text (refusals.NoSpace largest) = codes "no-space largest=" ++ decimal largest
refusal_text (refusals.NoSlots dimm spare) =
    codes "no-slots dimm=" ++ handle_text dimm ++ codes " spare=" ++ decimal spare
refusal_text refusals.NotHeld = codes "not-held"
refusal_text (refusals.AlreadyReady dimm) = codes "already-ready dimm=" ++ handle_text dimm
refusal_text (refusals.NoTranslation fault) = codes "no-translation " ++ translate_fault_text fault
refusal_text refusals.Outside = codes "outside"
refusal_text (refusals.NotInRegion dimm) = codes "not-in-region dimm=" ++ handle_text dimm

-- and the line that says so
abbrev pub refusal_line : Refusal → List ℕ
refusal_line refusal = codes "refused " ++ refusal_text refusal ++ codes "\n"
