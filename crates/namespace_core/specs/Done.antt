-- How a command is done on the state of a platform's modules.
use Rattle.std.specs.Prelude.{◌≡◌, ℕ, false, true, List, map, IfErr, IfOk, OnOk, Result, Ok, Err}
use Rattle.std.specs.List.{All}
use Rattle.std.specs.declared.alloc.AllocError.{AllocError}
use Rattle.view_types.specs.declared.reply.Reply.{Reply}
use Rattle.rig_trait.specs.declared.shown.Shown.{Ghosts}
use Rattle.rig_trait.specs.Frames.{IsTold, LeavesOnly, Reads}
use Rattle.region_map.specs.declared.platform.Platform.{Platform}
use Rattle.label_table.specs.Tables.{state}
use Rattle.region_labels.specs.Modules.{dimm_of, size_in}
use Rattle.module_flips.specs.Stops.{LeftIn, WritesAmong}
use Rattle.module_flips.specs.Stored.{StandsIn}
use Rattle.label_sets.specs.Init.{slots_at}
use Rattle.label_sets.specs.Sets.{StoredSets, labels_in}
use Rattle.cmd_words.specs.declared.parts.Part.{Part}
use Rattle.namespace_commands.specs.declared.creation.ChangeFault.{ChangeFault}
use Rattle.namespace_commands.specs.declared.creation.ChangeFault.TheVariants as changes
use Rattle.namespace_commands.specs.Initialising.{Stand}
use Rattle.namespace_core.specs.Commands.{Does, DoesAnyhow, HasAreas, IsBeforeOrAfter, LeavesArea, SaysIfKnown}
use Rattle.namespace_core.specs.Commands.{is_init, may_change, written_by}
use Rattle.namespace_core.specs.Faults.{HasRunCause, IsRunAmong, IsRunAt, fault_by}
use Rattle.namespace_core.specs.declared.faults.RunFault.{RunFault}

-- the answer that a session gives
abbrev pub run_by : Result Reply ChangeFault → Result Reply RunFault
run_by (Ok reply) = Ok reply
run_by (Err fault) = Err (fault_by fault)

-- a command was done, with this answer
pub record IsDone {R : Type 0} (m : Ghosts R) (platform : Platform) (part : Part) (own : List ℕ)
    (sets : StoredSets) (old : R) (now : StoredSets) (new : R) (answer : Result Reply RunFault) : Type 0 where
  pub step : IfOk answer (λ reply. SaysIfKnown platform part (Stand m old sets)
      (Does platform (slots_at sets) (labels_in sets) part own reply (state platform (labels_in now))))
  pub anyhow : IfOk answer (λ reply. DoesAnyhow platform (slots_at sets) (labels_in sets) part own reply
      (state platform (labels_in now)))
  pub stands : Stand m old sets → OnOk answer (All (StandsIn (m.areas new)) now.modules)
  pub any_moment : Stand m old sets → LeavesOnly m old new (LeftIn platform.modules (m.said old)
      (IsBeforeOrAfter platform (slots_at sets) (labels_in sets) part own))
  pub kept : may_change part answer ≡ false → now ≡ sets
  pub reads_only : may_change part answer ≡ false → Reads m old new
  pub writes : WritesAmong (written_by platform part) m old new
  pub area : IsTold m old → HasAreas part (m.areas old) (m.areas new) answer
  pub area_left : is_init part ≡ true → IsTold m old
      → LeavesOnly m old new (LeavesArea part (m.areas old) (m.said old))
  pub cause : HasRunCause m old new answer
  pub among : IfErr answer (IsRunAmong platform.modules)
  pub at : IfErr answer (IsRunAt (written_by platform part))
  pub reads : is_init part ≡ false → m.reads new ≡ m.reads old
  pub regions : now.regions ≡ sets.regions
  pub dimms : map dimm_of now.modules ≡ map dimm_of sets.modules
  pub sizes : map size_in now.modules ≡ map size_in sets.modules

-- a reply that only tells; nothing tells why memory was refused
abbrev pub told_by : Result Reply AllocError → Result Reply ChangeFault
told_by (Ok reply) = Ok reply
told_by (Err error) = Err changes.Memory
