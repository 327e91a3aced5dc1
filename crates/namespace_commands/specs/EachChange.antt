-- What each command that changes areas promises: a row a command.
use Rattle.std.specs.Prelude.{ℕ, List, [], ◌∷◌, Result}
use Rattle.view_types.specs.declared.reply.Reply.{Reply}
use Rattle.rig_trait.specs.declared.shown.Shown.{Ghosts}
use Rattle.region_map.specs.declared.platform.Platform.{Platform}
use Rattle.cmd_words.specs.declared.parts.Change.{Change}
use Rattle.cmd_words.specs.declared.parts.Change.TheVariants.{Create, Destroy, InitLabels, ReleaseHeld, Rename}
use Rattle.label_sets.specs.Init.{slots_at}
use Rattle.label_sets.specs.Sets.{StoredSets, labels_in}
use Rattle.table_steps.specs.Steps.{Does}
use Rattle.namespace_commands.specs.declared.creation.ChangeFault.{ChangeFault}
use Rattle.namespace_commands.specs.Commands.{IsChange}
use Rattle.namespace_commands.specs.Create.{modules_of}
use Rattle.namespace_commands.specs.Initialising.{IsInit}

-- the modules whose areas it may write
abbrev pub written_by : Platform → Change → List ℕ
written_by platform (InitLabels dimm) = dimm ∷ []
written_by platform (Create region size name abstraction sector uuid) = modules_of platform region
written_by platform (Destroy region key) = modules_of platform region
written_by platform (Rename region key name) = modules_of platform region
written_by platform (ReleaseHeld dimm uuid) = dimm ∷ []

-- `init-labels` reads its area again, and the others read none
abbrev pub IsChangeDone : {R : Type 0} → Ghosts R → Platform → Change → List ℕ → StoredSets → R → StoredSets → R
    → Result Reply ChangeFault → Type 0
IsChangeDone m platform (InitLabels dimm) own sets old now new result = IsInit m platform dimm sets old now new result
IsChangeDone m platform change own sets old now new result =
    IsChange (written_by platform change) platform (Does platform (slots_at sets) (labels_in sets) change own) m sets old
    now new result
