-- How a reply is said.
use Rattle.std.specs.Prelude.{◌≡◌, ℕ, true, false, List, Result, Ok, Err}
use Rattle.rig_trait.specs.declared.shown.Shown.{Ghosts}
use Rattle.report_json.specs.Texts.{is_one_line, reply_text}
use Rattle.run_edges.specs.Saying.{Tells}
use Rattle.view_types.specs.declared.reply.Reply.{Reply}
use Rattle.command_runs.specs.declared.faults.LineFault.{LineFault}
use Rattle.command_runs.specs.declared.faults.LineFault.TheVariants.{Area, Memory, Say}

-- the answer of a call that says a text
abbrev pub TellsText : {R T : Type 0} → Ghosts R → R → R → List ℕ → Result T LineFault → Type 0
TellsText m old new text (Ok value) = Tells m old new text false
TellsText m old new text (Err (Area dimm)) = ⊥
TellsText m old new text (Err Memory) = ⊥
TellsText m old new text (Err Say) = Tells m old new text true

-- A reply is said. Memory may be wanting for that of a list, and nothing is said then.
abbrev pub TellsReply : {R T : Type 0} → Ghosts R → R → R → Reply → Result T LineFault → Type 0
TellsReply m old new reply (Ok value) = Tells m old new (reply_text reply) false
TellsReply m old new reply (Err (Area dimm)) = ⊥
TellsReply m old new reply (Err Memory) = (is_one_line reply ≡ false) × (new ≡ old)
TellsReply m old new reply (Err Say) = Tells m old new (reply_text reply) true
