-- What is promised where one thing is known is promised where another is, from which it follows.
use Rattle.std.proofs.Common.{◌≡◌, ◌⊎◌, ℕ, zero, suc, List, ◌++◌, Option, Some, None, Result, Ok, Err, inl, inr, ⊎_elim, Bool, true, false}
use Rattle.std.specs.Prelude.{MatchBool}
use Rattle.cmd_words.specs.declared.commands.Command.{Command}
use Rattle.cmd_words.specs.Lines.{command_in}
use Rattle.cmd_words.specs.Parts.{part_of}
use Rattle.label_table.specs.Tables.{State}
use Rattle.rig_trait.specs.Areas.{Areas}
use Rattle.rig_trait.specs.Records.{CrashRecord}
use Rattle.view_types.specs.declared.reply.Reply.{Reply}
use Rattle.view_types.specs.declared.word_fault.WordFault.{WordFault}
use Rattle.command_runs.proofs.Commands.{says-on}
use Rattle.command_runs.specs.LastWrites.{IsPastChanges, IsPastLine}
use Rattle.command_runs.specs.Runs.{DoesCommand, DoesLine, DoesNext, Follows, IsBehind, Progress, Run, is_change_if}
use Rattle.command_runs.specs.Stops.{HasNextTable, IsBetween, IsLeft, SaysPart}

match-on : (b : Bool) (P Q S : Type 0) → (Q → S) → MatchBool b P Q → MatchBool b P S
match-on true P Q S implies is = is
match-on false P Q S implies is = implies is

module _ (known now : Type 0) (knows : now → known) where
  module _ (run : Run) where
    line-known : (number : ℕ) (before : State) (line : Result (Option Command) WordFault) (reply : Option Reply) (after : State)
        → DoesLine known run number before line reply after → DoesLine now run number before line reply after
    line-known number before (Ok (Some command)) (Some reply) after does =
        record { labels = does.labels; stands = does.stands; does = says-on run.platform (part_of command) known now _ knows does.does; anyhow = does.anyhow }
    line-known number before (Ok (Some command)) None after does = does
    line-known number before (Ok None) reply after does = does
    line-known number before (Err fault) reply after does = does

    pub next-known : (k : ℕ) (before next : Progress) → DoesNext known run k before next → DoesNext now run k before next
    next-known k before next does = record {
      line = does.line;
      is_next = does.is_next;
      reply = does.reply;
      does = line-known _ before.state (command_in does.line) does.reply next.state does.does;
      said_is = does.said_is;
      refused_is = does.refused_is;
      changed_is = does.changed_is;
    }

    pub behind-known : (k : ℕ) (progress : Progress) → IsBehind known run k progress → IsBehind now run k progress
    behind-known zero progress behind = behind
    behind-known (suc k) progress behind = record {
      before = behind.before;
      was = behind-known k behind.before behind.was;
      one = next-known k behind.before progress behind.one;
    }

    -- a record that is past the changes of the one is past those of the other
    pub past-line : (k : ℕ) (before next : Progress) (does : DoesNext known run k before next) (said : List ℕ) (c : CrashRecord) (seen earlier : Type 0) → (seen → earlier)
        → IsPastLine (next-known k before next does).reply said c seen → IsPastLine does.reply said c earlier
    unfolding next-known
    past-line k before next does said c seen earlier implies = match-on (is_change_if does.reply) _ seen earlier implies

    pub past-known : (k : ℕ) (progress : Progress) (behind : IsBehind known run k progress) (said : List ℕ) (c : CrashRecord)
        → IsPastChanges now run k progress (behind-known k progress behind) said c → IsPastChanges known run k progress behind said c
    unfolding behind-known
    past-known zero progress behind said c past = tt
    past-known (suc k) progress behind said c past =
        past-line k behind.before progress behind.one (said ++ behind.before.said) c (IsPastChanges now run k behind.before (behind-known k behind.before behind.was) said c)
        (IsPastChanges known run k behind.before behind.was said c) (past-known k behind.before behind.was said c) past

    pub next_table-known : (k : ℕ) (progress : Progress) (areas : Areas) → HasNextTable known run k progress areas → HasNextTable now run k progress areas
    next_table-known k progress areas has = record { next = has.next; does = next-known k progress has.next has.does; table_is = has.table_is }

    between-known : (k : ℕ) (progress : Progress) (said : List ℕ) (c : CrashRecord) → IsBetween known run k progress said c → IsBetween now run k progress said c
    between-known k progress said c left = record {
      said_is = left.said_is;
      areas_are = λ fair. ⊎_elim inl (λ next. inr (next_table-known k progress c.areas next)) (left.areas_are fair);
    }

    part-known : (k : ℕ) (progress : Progress) (said : List ℕ) (c : CrashRecord) → SaysPart known run k progress said c → SaysPart now run k progress said c
    part-known k progress said c left = record {
      next = left.next;
      does = next-known k progress left.next left.does;
      text = left.text;
      text_is = left.text_is;
      count = left.count;
      part = left.part;
      said_is = left.said_is;
      areas_are = left.areas_are;
    }

    pub left-known : (said : List ℕ) (c : CrashRecord) → IsLeft known run said c → IsLeft now run said c
    left-known said c left = record {
      acknowledged = left.acknowledged;
      progress = left.progress;
      behind = behind-known left.acknowledged left.progress left.behind;
      left = ⊎_elim (λ between. inl (between-known left.acknowledged left.progress said c between)) (λ part. inr (part-known left.acknowledged left.progress said c part)) left.left;
    }
