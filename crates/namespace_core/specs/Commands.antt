-- What a command does to the state that labels stand for, what it writes, and what a stop leaves of it. A command is
-- looked at by the part that it is.
use Rattle.std.specs.Prelude.{◌≡◌, ◌⊎◌, ℕ, ◌==◌, Bool, true, false, List, [], Result, Ok, Err}
use Rattle.std.specs.List.{list_any}
use Rattle.view_types.specs.declared.reply.Reply.{Reply}
use Rattle.view_types.specs.Replies.{is_change}
use Rattle.rig_trait.specs.Areas.{Areas}
use Rattle.rig_trait.specs.Records.{CrashRecord}
use Rattle.label_codec.specs.ModuleLabels.{Labels}
use Rattle.label_area.specs.Inits.{LeftByInit}
use Rattle.region_map.specs.declared.platform.Platform.{Platform}
use Rattle.label_table.specs.Tables.{State, state}
use Rattle.cmd_words.specs.declared.parts.Part.{Part}
use Rattle.cmd_words.specs.declared.parts.Part.TheVariants.{Change, Query, Translation}
use Rattle.cmd_words.specs.declared.parts.Change.TheVariants.{InitLabels}
use Rattle.table_steps.specs.Steps as steps
use Rattle.namespace_commands.specs.Changes.{IsBeforeOrBehind}
use Rattle.namespace_commands.specs.EachChange as each
use Rattle.namespace_commands.specs.Initialising.{InitialisesAnyhow, InitialisesArea}
use Rattle.namespace_commands.specs.Lists.{IsShown}
use Rattle.namespace_commands.specs.Translations.{IsTranslated}
use Rattle.namespace_core.specs.declared.faults.RunFault.{RunFault}
use Rattle.namespace_core.specs.declared.faults.RunFault.TheVariants.{Area, Memory, Spent}

-- The reply tells of the state, which stays.
pub record Tells (platform : Platform) (labels : Labels) (IsReply : Reply → Type 0) (reply : Reply)
    (after : State) : Type 0 where
  pub told : IsReply reply
  pub kept : after ≡ state platform labels

-- What the command does where the labels of the modules are these. `slots` is how many slots the area of each module
-- has room for, by handle, and `own` the uuid of a new namespace for which the command gives none.
abbrev pub Does : Platform → (ℕ → ℕ) → Labels → Part → List ℕ → Reply → State → Type 0
Does platform slots labels (Change change) own = steps.Does platform slots labels change own
Does platform slots labels (Query query) own = Tells platform labels (IsShown platform labels query)
Does platform slots labels (Translation translation) own = Tells platform labels (IsTranslated platform translation)

-- What a command does to the labels that are kept, whatever the areas hold. `init-labels` may also be refused for what
-- it finds in its area.
abbrev pub DoesAnyhow : Platform → (ℕ → ℕ) → Labels → Part → List ℕ → Reply → State → Type 0
DoesAnyhow platform slots labels (Change (InitLabels dimm)) own = InitialisesAnyhow platform labels dimm (slots dimm)
DoesAnyhow platform slots labels part own = Does platform slots labels part own

-- labels stand for the table before a command, or for that behind it
abbrev pub IsBeforeOrAfter : Platform → (ℕ → ℕ) → Labels → Part → List ℕ → Labels → Type 0
IsBeforeOrAfter platform slots before part own = IsBeforeOrBehind platform before (Does platform slots before part own)

abbrev pub is_init : Part → Bool
is_init (Change (InitLabels dimm)) = true
is_init _ = false

-- the platform has a module with this handle
abbrev pub has_module : Platform → ℕ → Bool
has_module platform dimm = list_any (λ handle. handle == dimm) platform.modules

-- `init-labels` reads the area again, so what it says is that of the step only where the areas are known to be those
-- that are kept, or where the platform has no such module. The other commands look at no area.
abbrev pub SaysIfKnown : Platform → Part → Type 0 → Type 0 → Type 0
SaysIfKnown platform (Change (InitLabels dimm)) known fact = known ⊎ (has_module platform dimm ≡ false) → fact
SaysIfKnown platform _ known fact = fact

-- the modules whose areas a command may write
abbrev pub written_by : Platform → Part → List ℕ
written_by platform (Change change) = each.written_by platform change
written_by platform (Query query) = []
written_by platform (Translation translation) = []

-- what `init-labels` makes of the bytes of areas, and what a stop within it leaves of them
abbrev pub HasAreas : Part → Areas → Areas → Result Reply RunFault → Type 0
HasAreas (Change (InitLabels dimm)) areas now result = InitialisesArea dimm areas now result
HasAreas _ areas now result = Unit {0}

abbrev pub LeavesArea : Part → Areas → List ℕ → CrashRecord → Type 0
LeavesArea (Change (InitLabels dimm)) areas said c = LeftByInit areas said dimm c
LeavesArea _ areas said c = Unit {0}

-- the state may have changed, or an area: by a command that changes areas, unless it is refused or wants memory
abbrev pub result_changes : Result Reply RunFault → Bool
result_changes (Ok reply) = is_change reply
result_changes (Err (Area dimm)) = true
result_changes (Err Memory) = false
result_changes (Err Spent) = false

abbrev pub may_change : Part → Result Reply RunFault → Bool
may_change (Change change) result = result_changes result
may_change (Query query) result = false
may_change (Translation translation) result = false
