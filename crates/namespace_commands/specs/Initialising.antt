-- The command that initialises the area of a module. It reads the area again, so what it finds there is that of the state
-- only where the areas are known to be those that are kept.
use Rattle.std.specs.Prelude.{◌≡◌, ◌≢◌, ◌⊎◌, ℕ, ◌==◌, false, true, List, [], ◌∷◌, map, IfErr, IfOk, OnOk, Result, Ok, Err}
use Rattle.std.specs.FinMap.{get}
use Rattle.std.specs.List.{All, list_any}
use Rattle.view_types.specs.declared.refusal.Refusal.{Refusal}
use Rattle.view_types.specs.declared.refusal.Refusal.TheVariants.{AlreadyReady, NotReady}
use Rattle.view_types.specs.declared.reply.Reply.{Reply}
use Rattle.view_types.specs.declared.reply.Reply.TheVariants.{Initialised, Refused}
use Rattle.view_types.specs.declared.states.AreaState.{AreaState}
use Rattle.view_types.specs.declared.states.AreaState.TheVariants as states
use Rattle.view_types.specs.declared.states.Status.TheVariants.{Area}
use Rattle.view_types.specs.Replies.{WhereRefused, is_change}
use Rattle.rig_trait.specs.Areas.{Areas}
use Rattle.rig_trait.specs.declared.shown.Shown.{Ghosts}
use Rattle.rig_trait.specs.Frames.{IsTold, LeavesOnly, Reads}
use Rattle.label_codec.specs.declared.kind.AreaKind.TheVariants.{Uninit}
use Rattle.label_codec.specs.ModuleLabels.{Labels}
use Rattle.label_area.specs.Inits.{LeftByInit, initialised}
use Rattle.label_area.specs.Modules.{area_kind}
use Rattle.region_map.specs.declared.platform.Platform.{Platform}
use Rattle.label_table.specs.Tables.{State, state}
use Rattle.region_labels.specs.Modules.{dimm_of, size_in}
use Rattle.module_flips.specs.Stops.{HasAreaCause, LeftIn, WritesAmong}
use Rattle.module_flips.specs.Stored.{StandsIn}
use Rattle.label_sets.specs.declared.init.SetInitFault.{SetInitFault}
use Rattle.label_sets.specs.declared.init.SetInitFault.TheVariants as inits
use Rattle.label_sets.specs.Init.{slots_at}
use Rattle.label_sets.specs.Sets.{StoredSets, labels_in}
use Rattle.table_steps.specs.Initialise.{Initialises}
use Rattle.namespace_commands.specs.declared.creation.ChangeFault.{ChangeFault}
use Rattle.namespace_commands.specs.declared.creation.ChangeFault.TheVariants as faults
use Rattle.namespace_commands.specs.Changes.{IsBeforeOrBehind}
use Rattle.namespace_commands.specs.Create.{WhereMemory, area_failed}
use Rattle.namespace_commands.specs.Releases.{IsAreaOf}

-- why the area of a module in this state is not initialised
abbrev pub init_refusal : ℕ → AreaState → Refusal
init_refusal dimm (states.Ready slots spare) = AlreadyReady dimm
init_refusal dimm states.Missing = NotReady (Area dimm states.Missing)
init_refusal dimm states.WrongSize = NotReady (Area dimm states.WrongSize)
init_refusal dimm states.Uninit = NotReady (Area dimm states.Uninit)
init_refusal dimm states.Foreign = NotReady (Area dimm states.Foreign)

-- what the command is answered
abbrev pub init_answer : ℕ → Result ℕ SetInitFault → Result Reply ChangeFault
init_answer dimm (Ok slots) = Ok (Initialised dimm slots)
init_answer dimm (Err (inits.Refused told)) = Ok (Refused (init_refusal dimm told))
init_answer dimm (Err (inits.Failed failed)) = Err (faults.Area failed)
init_answer dimm (Err inits.Memory) = Err faults.Memory

-- The area of a module of the platform was found in a state that is not Uninit. The command is refused for it, and
-- changes nothing.
pub record IsRefusedAsFound (platform : Platform) (labels : Labels) (dimm : ℕ) (reply : Reply)
    (after : State) : Type 0 where
  pub known : list_any (λ handle. handle == dimm) platform.modules ≡ true
  pub found : AreaState
  pub other : found ≢ states.Uninit
  pub reply_is : reply ≡ Refused (init_refusal dimm found)
  pub kept : after ≡ state platform labels

-- What the command does to the labels that are kept, whatever the area holds. It is what it does where the areas hold
-- these labels; it may also be refused for what it finds.
abbrev pub InitialisesAnyhow : Platform → Labels → ℕ → ℕ → Reply → State → Type 0
InitialisesAnyhow platform labels dimm slots reply after =
    Initialises platform labels dimm slots reply after ⊎ IsRefusedAsFound platform labels dimm reply after

-- What it makes of the bytes of areas: one that was Uninit has its two index blocks, and behind them its bytes. At any
-- other nothing is written.
pub record InitialisesArea {E : Type 0} (dimm : ℕ) (areas now : Areas) (result : Result Reply E) : Type 0 where
  pub written : IfOk result (λ reply. is_change reply ≡ true → now ≡ initialised dimm areas)
  pub kept : area_kind (get areas dimm) ≢ Uninit → now ≡ areas

-- the rig tells its areas, and they stand for what is kept
abbrev pub Stand : {R : Type 0} → Ghosts R → R → StoredSets → Type 0
Stand m rig sets = IsTold m rig × All (StandsIn (m.areas rig)) sets.modules

-- What the command promises: its reply and the state behind it are those of the step where the areas stand for what is
-- kept, or where the platform has no such module.
pub record IsInit {R : Type 0} (m : Ghosts R) (platform : Platform) (dimm : ℕ) (sets : StoredSets) (old : R)
    (now : StoredSets) (new : R) (result : Result Reply ChangeFault) : Type 0 where
  pub step : IfOk result (λ reply. Stand m old sets ⊎ (list_any (λ handle. handle == dimm) platform.modules ≡ false)
      → Initialises platform (labels_in sets) dimm (slots_at sets dimm) reply (state platform (labels_in now)))
  pub anyhow : IfOk result (λ reply. InitialisesAnyhow platform (labels_in sets) dimm (slots_at sets dimm) reply
      (state platform (labels_in now)))
  -- a refusal and want of memory change nothing, and write nothing
  pub refused : IfOk result (WhereRefused (now ≡ sets))
  pub unwritten : IfOk result (WhereRefused (Reads m old new))
  pub memory : IfErr result (WhereMemory (now ≡ sets))
  pub unwritten_memory : IfErr result (WhereMemory (Reads m old new))
  pub regions : now.regions ≡ sets.regions
  pub dimms : map dimm_of now.modules ≡ map dimm_of sets.modules
  pub sizes : map size_in now.modules ≡ map size_in sets.modules
  pub stands : Stand m old sets → OnOk result (All (StandsIn (m.areas new)) now.modules)
  -- a stop at any moment leaves the table before the command, or that behind it
  pub any_moment : Stand m old sets → LeavesOnly m old new (LeftIn platform.modules (m.said old)
      (IsBeforeOrBehind platform (labels_in sets) (Initialises platform (labels_in sets) dimm (slots_at sets dimm))))
  pub area : IsTold m old → InitialisesArea dimm (m.areas old) (m.areas new) result
  pub area_left : IsTold m old → LeavesOnly m old new (LeftByInit (m.areas old) (m.said old) dimm)
  pub writes_among : WritesAmong (dimm ∷ []) m old new
  pub cause : HasAreaCause (dimm ∷ []) m old new (area_failed result)
  pub among : IfErr result (IsAreaOf platform)
