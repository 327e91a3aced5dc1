-- Which areas the lines of a list may change, and the bytes of the others.
use Rattle.std.specs.Prelude.{◌≡◌, ◌⊎◌, ℕ, Bool, true, false, List, [], Option, Some, None, Result, Ok, Err}
use Rattle.std.specs.Prelude.{if◌then◌else◌}
use Rattle.std.specs.FinMap.{get}
use Rattle.std.specs.List.{All, flat_map}
use Rattle.rig_trait.specs.Areas.{Areas}
use Rattle.rig_trait.specs.Records.{CrashRecord}
use Rattle.rig_trait.specs.Frames.{LeavesOnly}
use Rattle.rig_trait.specs.declared.shown.Shown.{Ghosts}
use Rattle.label_area.specs.Fair.{IsFair}
use Rattle.label_area.specs.Flips.{is_among}
use Rattle.label_area.specs.Inits.{IsVacant, initialised, slots_of}
use Rattle.label_area.specs.Modules.{area_kind}
use Rattle.label_codec.specs.declared.kind.AreaKind.TheVariants.{Uninit}
use Rattle.region_map.specs.declared.platform.Platform.{Platform}
use Rattle.cmd_words.specs.declared.commands.Command.{Command}
use Rattle.cmd_words.specs.declared.parts.Part.{Part}
use Rattle.cmd_words.specs.Parts.{part_of}
use Rattle.cmd_words.specs.Lines.{command_in}
use Rattle.view_types.specs.declared.word_fault.WordFault.{WordFault}
use Rattle.view_types.specs.declared.reply.Reply.{Reply}
use Rattle.namespace_core.specs.declared.faults.RunFault.{RunFault}
use Rattle.namespace_core.specs.Commands.{has_module, is_init, may_change, written_by}

-- the modules whose labels a command may change
abbrev pub changed_by_part : Platform → Part → List ℕ
changed_by_part platform part = if is_init part then [] else written_by platform part

abbrev pub changed_by_line : Platform → Result (Option Command) WordFault → List ℕ
changed_by_line platform (Ok (Some command)) = changed_by_part platform (part_of command)
changed_by_line platform (Ok None) = []
changed_by_line platform (Err fault) = []

-- the modules whose areas a command may initialise: those that it names and the platform has
abbrev pub initialised_by_part : Platform → Part → List ℕ
initialised_by_part platform part = if is_init part then written_by platform part else []

abbrev pub initialised_by_line : Platform → Result (Option Command) WordFault → List ℕ
initialised_by_line platform (Ok (Some command)) = initialised_by_part platform (part_of command)
initialised_by_line platform (Ok None) = []
initialised_by_line platform (Err fault) = []

abbrev pub changed_by : Platform → List (List ℕ) → List ℕ
changed_by platform lines = flat_map (λ line. changed_by_line platform (command_in line)) lines

abbrev pub initialised_by : Platform → List (List ℕ) → List ℕ
initialised_by platform lines = flat_map (λ line. initialised_by_line platform (command_in line)) lines

-- a module of the platform whose area may be initialised, one of those that are named; and it was Uninit
pub record MayInitialise (platform : Platform) (named : List ℕ) (dimm : ℕ) (areas : Areas) : Type 0 where
  pub is_named : is_among named dimm ≡ true
  pub known : has_module platform dimm ≡ true
  pub was_uninit : area_kind (get areas dimm) ≡ Uninit

-- The two index blocks of an area that was initialised were written, and behind them it has its bytes, unless the rig
-- failed at this area.
abbrev pub IsWritten : Bool → ℕ → Areas → Areas → Type 0
IsWritten true dimm areas now = Unit {0}
IsWritten false dimm areas now = get now dimm ≡ get (initialised dimm areas) dimm

-- An area whose labels do not change has its bytes, or it was initialised. `failed` is where the rig failed.
abbrev pub KeepsAreas : (ℕ → Bool) → Platform → List ℕ → List ℕ → Areas → Areas → Type 0
KeepsAreas failed platform changed named areas now = (dimm : ℕ) → is_among changed dimm ≡ false
    → (get now dimm ≡ get areas dimm)
    ⊎ (MayInitialise platform named dimm areas × IsWritten (failed dimm) dimm areas now)

abbrev pub KeepsBytes : (ℕ → Bool) → Platform → List (List ℕ) → Areas → Areas → Type 0
KeepsBytes failed platform lines areas now =
    KeepsAreas failed platform (changed_by platform lines) (initialised_by platform lines) areas now

-- whatever the answer to the command is, it changes nothing
abbrev pub OnlyTells : Part → Type 0
OnlyTells part = (result : Result Reply RunFault) → may_change part result ≡ false

-- a line that changes no labels: a command that initialises an area or only tells, and one that is no command
abbrev pub LeavesLabels : Result (Option Command) WordFault → Type 0
LeavesLabels (Ok (Some command)) = (is_init (part_of command) ≡ true) ⊎ OnlyTells (part_of command)
LeavesLabels (Ok None) = Unit {0}
LeavesLabels (Err fault) = Unit {0}

abbrev pub LeaveLabels : List (List ℕ) → Type 0
LeaveLabels lines = All (λ line. LeavesLabels (command_in line)) lines

-- What a stop leaves of areas where no labels change: each has its bytes; or it was Uninit, and in a fair record it is
-- so still, or is Ready without labels.
abbrev pub LeavesAreas : Platform → List ℕ → Areas → CrashRecord → Type 0
LeavesAreas platform named areas c = (dimm : ℕ) → (get c.areas dimm ≡ get areas dimm)
    ⊎ (MayInitialise platform named dimm areas
    × (IsFair c → (area_kind (get c.areas dimm) ≡ Uninit) ⊎ IsVacant (get c.areas dimm) (slots_of (get areas dimm))))

abbrev pub LeavesBytes : Platform → List (List ℕ) → Areas → CrashRecord → Type 0
LeavesBytes platform lines areas c = LeavesAreas platform (initialised_by platform lines) areas c

-- nothing was written, and a stop at any moment leaves all areas as they were
pub record WritesNothing {R : Type 0} (m : Ghosts R) (old new : R) : Type 0 where
  pub areas : m.areas new ≡ m.areas old
  pub any_moment : LeavesOnly m old new (λ c. c.areas ≡ m.areas old)
