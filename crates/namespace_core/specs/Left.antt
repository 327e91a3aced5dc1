-- What a stop within a command leaves, and what the command may write.
use Rattle.std.specs.Prelude.{ℕ, List}
use Rattle.rig_trait.specs.declared.shown.Shown.{Ghosts}
use Rattle.rig_trait.specs.Records.{CrashRecord}
use Rattle.region_map.specs.declared.platform.Platform.{Platform}
use Rattle.module_flips.specs.Stops.{LeftIn, WritesAmong}
use Rattle.cmd_words.specs.declared.parts.Part.{Part}
use Rattle.namespace_core.specs.Commands.{IsBeforeOrAfter, written_by}
use Rattle.namespace_core.specs.Sessions.{StoredSession, labels_of, slots_of}

-- nothing was said, and in a fair record the areas stand for the table before the command, or for that behind it
abbrev pub LeavesTable : StoredSession → Part → List ℕ → List ℕ → CrashRecord → Type 0
LeavesTable session part own said = LeftIn session.platform.modules said
    (IsBeforeOrAfter session.platform (slots_of session) (labels_of session) part own)

-- no area is written but those of the command
abbrev pub WritesOnly : {R : Type 0} → Ghosts R → Platform → Part → R → R → Type 0
WritesOnly m platform part old new = WritesAmong (written_by platform part) m old new
