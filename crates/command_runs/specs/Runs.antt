-- Runs: what the lines of a list do to a state, one after the other, and the replies to them.
use Rattle.std.specs.Prelude.{◌≡◌, ℕ, zero, suc, ◌+◌, ◌||◌, Bool, false, List, [], ◌++◌, Option, Some, None}
use Rattle.std.specs.Prelude.{Result, Ok, Err, slice_get}
use Rattle.view_types.specs.declared.refusal.Refusal.TheVariants.{Words}
use Rattle.view_types.specs.declared.reply.Reply.{Reply}
use Rattle.view_types.specs.declared.reply.Reply.TheVariants.{Refused}
use Rattle.view_types.specs.Replies.{is_change, is_refusal}
use Rattle.view_types.specs.declared.word_fault.WordFault.{WordFault}
use Rattle.label_codec.specs.ModuleLabels.{Labels}
use Rattle.region_map.specs.declared.platform.Platform.{Platform}
use Rattle.label_table.specs.Tables.{State, state}
use Rattle.cmd_words.specs.declared.commands.Command.{Command}
use Rattle.cmd_words.specs.Parts.{part_of}
use Rattle.cmd_words.specs.Lines.{command_in}
use Rattle.report_json.specs.Texts.{reply_text}
use Rattle.namespace_core.specs.Commands.{Does, DoesAnyhow, SaysIfKnown}
use Rattle.command_runs.specs.Uuids.{own_uuid}

-- A run: its platform, how many slots the area of each module has room for, the seed of new uuids, the state that it
-- begins with, and its lines.
pub record Run : Type 0 where
  pub platform : Platform
  pub slots : ℕ → ℕ
  pub seed : ℕ
  pub start : State
  pub lines : List (List ℕ)

-- How far it is: all that was said, whether a reply was a refusal, whether one was to a change, and the state.
pub record Progress : Type 0 where
  pub said : List ℕ
  pub refused : Bool
  pub changed : Bool
  pub state : State

abbrev pub at_start : Run → Progress
at_start run = record { said = []; refused = false; changed = false; state = run.start }

-- a blank line and a comment have no reply
abbrev pub text_if : Option Reply → List ℕ
text_if None = []
text_if (Some reply) = reply_text reply

abbrev pub is_refusal_if : Option Reply → Bool
is_refusal_if None = false
is_refusal_if (Some reply) = is_refusal reply

abbrev pub is_change_if : Option Reply → Bool
is_change_if None = false
is_change_if (Some reply) = is_change reply

-- A command does this to a state: what it does to any labels that stand for the state. `known` is what `init-labels`
-- asks for, which reads its area again: that the areas are those that are kept.
pub record DoesCommand (known : Type 0) (run : Run) (number : ℕ) (before : State) (command : Command) (reply : Reply)
    (after : State) : Type 0 where
  pub labels : Labels
  pub stands : state run.platform labels ≡ before
  pub does : SaysIfKnown run.platform (part_of command) known
      (Does run.platform run.slots labels (part_of command) (own_uuid run.seed number) reply after)
  -- whatever the areas hold
  pub anyhow : DoesAnyhow run.platform run.slots labels (part_of command) (own_uuid run.seed number) reply after

-- A line with a fault is refused; a blank line and a comment have no reply. Neither changes anything.
abbrev pub DoesLine : Type 0 → Run → ℕ → State → Result (Option Command) WordFault → Option Reply → State → Type 0
DoesLine known run number before (Ok (Some command)) (Some reply) after =
    DoesCommand known run number before command reply after
DoesLine known run number before (Ok (Some command)) None after = ⊥
DoesLine known run number before (Ok None) reply after = (reply ≡ None) × (after ≡ before)
DoesLine known run number before (Err fault) reply after = (reply ≡ Some (Refused (Words fault))) × (after ≡ before)

-- The line behind the first k is done. Lines are numbered from 1, blank ones and comments too.
pub record DoesNext (known : Type 0) (run : Run) (k : ℕ) (before now : Progress) : Type 0 where
  pub line : List ℕ
  pub is_next : slice_get run.lines k ≡ Some line
  pub reply : Option Reply
  pub does : DoesLine known run (k + 1) before.state (command_in line) reply now.state
  pub said_is : now.said ≡ before.said ++ text_if reply
  pub refused_is : now.refused ≡ (before.refused || is_refusal_if reply)
  pub changed_is : now.changed ≡ (before.changed || is_change_if reply)

pub record Follows (earlier : Progress → Type 0) (DoesOne : Progress → Progress → Type 0)
    (now : Progress) : Type 0 where
  pub before : Progress
  pub was : earlier before
  pub one : DoesOne before now

-- The first k lines are done: all their replies, and the state behind them.
abbrev pub IsBehind : Type 0 → Run → ℕ → Progress → Type 0
IsBehind known run zero now = now ≡ at_start run
IsBehind known run (suc k) now = Follows (IsBehind known run k) (DoesNext known run k) now
