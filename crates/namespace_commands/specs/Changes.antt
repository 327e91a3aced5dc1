-- What a stop leaves of a command that changes areas.
use Rattle.std.specs.Prelude.{◌≡◌, ◌⊎◌}
use Rattle.view_types.specs.declared.reply.Reply.{Reply}
use Rattle.label_codec.specs.ModuleLabels.{Labels}
use Rattle.region_map.specs.declared.platform.Platform.{Platform}
use Rattle.label_table.specs.Tables.{State, table}

-- labels stand for the table behind a step
pub record IsTableBehind (platform : Platform) (does : Reply → State → Type 0) (labels : Labels) : Type 0 where
  pub reply : Reply
  pub after : State
  pub done : does reply after
  pub table_is : table platform labels ≡ after.table

-- labels stand for the table before a step, or for that behind it
abbrev pub IsBeforeOrBehind : Platform → Labels → (Reply → State → Type 0) → Labels → Type 0
IsBeforeOrBehind platform before does labels =
    (table platform labels ≡ table platform before) ⊎ IsTableBehind platform does labels
