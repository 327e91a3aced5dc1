-- `init-labels`: the area of a module becomes Ready, without labels.
use Rattle.std.specs.Prelude.{◌≡◌, ℕ, List, [], ◌∷◌, Option, Some, None}
use Rattle.view_types.specs.declared.refusal.Refusal.{Refusal}
use Rattle.view_types.specs.declared.refusal.Refusal.TheVariants.{AlreadyReady, NotReady}
use Rattle.view_types.specs.declared.reply.Reply.{Reply}
use Rattle.view_types.specs.declared.reply.Reply.TheVariants.{Initialised}
use Rattle.view_types.specs.declared.states.Status.TheVariants.{Area}
use Rattle.label_codec.specs.declared.kind.AreaKind.{AreaKind}
use Rattle.label_codec.specs.declared.kind.AreaKind.TheVariants.{Missing, WrongSize, Ready, Foreign, Uninit}
use Rattle.label_codec.specs.ModuleLabels.{Labels, is_ready}
use Rattle.region_map.specs.declared.platform.Platform.{Platform}
use Rattle.label_table.specs.Settling.{settled, with_ready_area}
use Rattle.label_table.specs.Tables.{State, state}
use Rattle.region_labels.specs.Statuses.{unready_state}
use Rattle.table_steps.specs.Changes.{IsDoneBy}
use Rattle.table_steps.specs.Refusals.{first_of, refused_if, unknown_dimm}

-- there is no area, or one that no labels can stand in, or one that something else wrote
abbrev pub cannot_initialise : ℕ → AreaKind → Option Refusal
cannot_initialise dimm Uninit = None
cannot_initialise dimm Ready = None
cannot_initialise dimm Missing = Some (NotReady (Area dimm (unready_state Missing)))
cannot_initialise dimm WrongSize = Some (NotReady (Area dimm (unready_state WrongSize)))
cannot_initialise dimm Foreign = Some (NotReady (Area dimm (unready_state Foreign)))

abbrev pub already_ready : ℕ → AreaKind → Option Refusal
already_ready dimm kind = refused_if (is_ready kind) (AlreadyReady dimm)

abbrev pub initialise_refusals : Platform → Labels → ℕ → List (Option Refusal)
initialise_refusals platform labels dimm =
    unknown_dimm platform dimm
    ∷ cannot_initialise dimm (labels dimm).kind
    ∷ already_ready dimm (labels dimm).kind
    ∷ []

-- All slots of the area are spare. With it its regions may have all their modules, and then held labels may vanish.
abbrev pub initialised : Platform → ℕ → ℕ → State → State
initialised platform dimm slots before = record {
  table = settled platform (with_ready_area dimm slots before.table);
  pending = before.pending;
}

-- the area of the module is made Ready, with this many slots
abbrev pub IsInitialised : Platform → Labels → ℕ → ℕ → Reply → State → Type 0
IsInitialised platform labels dimm slots reply after =
    (reply ≡ Initialised dimm slots) × (after ≡ initialised platform dimm slots (state platform labels))

-- The command. `slots` is how many slots the module's area has room for.
abbrev pub Initialises : Platform → Labels → ℕ → ℕ → Reply → State → Type 0
Initialises platform labels dimm slots reply after =
    IsDoneBy (first_of (initialise_refusals platform labels dimm)) (state platform labels)
    (IsInitialised platform labels dimm slots) reply after
