-- What the plain program tells.
use Rattle.std.specs.Prelude.{ℕ, ◌<◌, ◌≤◌, length}
use Rattle.view_types.specs.declared.reply.Reply.{Reply}
use Rattle.label_codec.specs.ModuleLabels.{Labels}
use Rattle.region_map.specs.declared.platform.Platform.{Platform}
use Rattle.region_map.specs.declared.platform.Region.{Region}
use Rattle.label_table.specs.Tables.{State}
use Rattle.table_steps.specs.Initialise.{Initialises}

-- the reply to `init-labels`, whatever the state after it
abbrev pub IsInitialiseReply : Platform → Labels → ℕ → ℕ → Reply → Type 0
IsInitialiseReply platform labels dimm slots reply =
    (after : State) × Initialises platform labels dimm slots reply after

-- a region that can be used has 1 to 16 modules
pub record HasFewModules (region : Region) : Type 0 where
  pub some : 0 < length region.members
  pub few : length region.members ≤ 16
