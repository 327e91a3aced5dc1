-- What a command promises that changes label storage areas, and what its passes leave.
use Rattle.std.specs.Prelude.{◌≡◌, ◌⊎◌, ℕ, false, IfErr, IfOk, List, Result}
use Rattle.view_types.specs.declared.reply.Reply.{Reply}
use Rattle.rig_trait.specs.declared.shown.Shown.{Ghosts}
use Rattle.label_codec.specs.ModuleLabels.{Labels}
use Rattle.region_map.specs.declared.platform.Platform.{Platform}
use Rattle.region_map.specs.declared.platform.Region.{Region}
use Rattle.label_table.specs.Tables.{State, changed_at, table, without_namespace}
use Rattle.namespace_passes.specs.Renaming.{with_name}
use Rattle.module_flips.specs.Passes.{IsPass}
use Rattle.label_sets.specs.Sets.{IsTableOf, StoredSets, kept_in, labels_in, platform_in, state_in}
use Rattle.namespace_commands.specs.declared.creation.ChangeFault.{ChangeFault}
use Rattle.namespace_commands.specs.Changes.{IsBeforeOrBehind}
use Rattle.view_types.specs.Replies.{WhereRefused}
use Rattle.namespace_commands.specs.Create.{WhereMemory, area_failed}

-- A command with a step: what it answers, and the state behind it. It writes the areas of these modules alone.
pub record IsChange {R : Type 0} (modules : List ℕ) (platform : Platform) (does : Reply → State → Type 0) (m : Ghosts R)
    (sets : StoredSets) (old : R) (now : StoredSets) (new : R) (result : Result Reply ChangeFault) : Type 0 where
  -- the reply and the state are those of the step
  pub step : IfOk result (λ reply. does reply (state_in now))
  -- a refusal and want of memory change nothing, and write nothing
  pub refused : IfOk result (WhereRefused (now ≡ sets))
  pub unwritten : IfOk result (WhereRefused (new ≡ old))
  pub memory : IfErr result (WhereMemory (now ≡ sets))
  pub unwritten_memory : IfErr result (WhereMemory (new ≡ old))
  -- a stop at any moment leaves the table before the command, or that behind it
  pub pass : IsPass modules (IsBeforeOrBehind platform (labels_in sets) does) m (kept_in sets) old (kept_in now) new
      (area_failed result)

-- labels stand for the table of the state, or for that without a namespace
abbrev pub IsTableOrWithout : StoredSets → Region → List ℕ → Labels → Type 0
IsTableOrWithout sets region uuid labels = IsTableOf sets labels
    ⊎ (table (platform_in sets) labels ≡ (without_namespace region uuid (state_in sets)).table)

-- labels stand for the table of the state, or for that in which a namespace has a name
abbrev pub IsTableOrNamed : StoredSets → Region → List ℕ → List ℕ → Labels → Type 0
IsTableOrNamed sets region uuid name labels = IsTableOf sets labels
    ⊎ (table (platform_in sets) labels ≡ with_name region uuid name (state_in sets).table)

-- The namespace has the name, and is not pending. The marks of all others are as before.
pub record IsNamedIn (before after : StoredSets) (region : Region) (uuid name : List ℕ) : Type 0 where
  pub table_is : (state_in after).table ≡ with_name region uuid name (state_in before).table
  pub marks : (state_in after).pending ≡ changed_at region uuid false (state_in before).pending
