-- The step of a command that may change the state of the label storage areas. Of slots it tells only how many are
-- spare.
use Rattle.std.specs.Prelude.{◌≡◌, ℕ, List}
use Rattle.view_types.specs.declared.reply.Reply.{Reply}
use Rattle.cmd_words.specs.declared.parts.Change.{Change}
use Rattle.cmd_words.specs.declared.parts.Change.TheVariants.{Create, Destroy, InitLabels, ReleaseHeld, Rename}
use Rattle.label_codec.specs.ModuleLabels.{Labels}
use Rattle.region_map.specs.declared.platform.Platform.{Platform}
use Rattle.label_table.specs.Tables.{State, state}
use Rattle.table_steps.specs.Create.{Creates, asked_by}
use Rattle.table_steps.specs.Destroy.{Destroys}
use Rattle.table_steps.specs.Initialise.{Initialises}
use Rattle.table_steps.specs.Release.{Releases}
use Rattle.table_steps.specs.Rename.{Renames}

-- What the command does where the labels of the modules are these. `slots` is how many slots the area of each module
-- has room for, by handle, and `own` the uuid of a new namespace for which the command gives none.
abbrev pub Does : Platform → (ℕ → ℕ) → Labels → Change → List ℕ → Reply → State → Type 0
Does platform slots labels (InitLabels dimm) own reply after =
    Initialises platform labels dimm (slots dimm) reply after
Does platform slots labels (Create region size name abstraction sector uuid) own reply after =
    Creates platform labels (asked_by region size name abstraction sector uuid own) reply after
Does platform slots labels (Destroy region key) own reply after = Destroys platform labels region key reply after
Does platform slots labels (Rename region key name) own reply after =
    Renames platform labels region key name reply after
Does platform slots labels (ReleaseHeld dimm uuid) own reply after = Releases platform labels dimm uuid reply after

-- The step of a command from a state, which is that of some labels. Which labels does not matter: the laws say so.
pub record IsStep (platform : Platform) (slots : ℕ → ℕ) (before : State) (change : Change) (own : List ℕ)
    (reply : Reply) (after : State) : Type 0 where
  pub labels : Labels
  pub stands : state platform labels ≡ before
  pub does : Does platform slots labels change own reply after
