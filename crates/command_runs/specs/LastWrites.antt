-- From when on nothing more is written: a command writes nothing behind its reply, and one that is refused writes nothing.
use Rattle.std.specs.Prelude.{◌≡◌, ℕ, zero, suc, ◌<◌, List, ◌++◌, Option, MatchBool, length}
use Rattle.view_types.specs.declared.reply.Reply.{Reply}
use Rattle.rig_trait.specs.declared.shown.Shown.{Ghosts}
use Rattle.rig_trait.specs.Frames.{LeavesOnly}
use Rattle.rig_trait.specs.Records.{CrashRecord}
use Rattle.command_runs.specs.Runs.{IsBehind, Progress, Run, is_change_if}

-- Where the reply to a line is one to a change, a part of it is said in the record, behind what was said before. For
-- any other line it is `earlier`, what is so of the lines before.
abbrev pub IsPastLine : Option Reply → List ℕ → CrashRecord → Type 0 → Type 0
IsPastLine reply said c earlier = MatchBool (is_change_if reply) (length said < length c.said) earlier

-- A part of the last reply to a change is said in the record; or none of the replies to the first k lines is one.
abbrev pub IsPastChanges : (known : Type 0) (run : Run) (k : ℕ) (progress : Progress)
    → IsBehind known run k progress → List ℕ → CrashRecord → Type 0
IsPastChanges known run zero progress behind said c = Unit {0}
IsPastChanges known run (suc k) progress behind said c = IsPastLine behind.one.reply (said ++ behind.before.said) c
    (IsPastChanges known run k behind.before behind.was said c)

-- In each record that is past so much all areas are those of the return.
abbrev pub WritesNoMore : {R : Type 0} → Ghosts R → R → R → (CrashRecord → Type 0) → Type 0
WritesNoMore m old new IsPast = LeavesOnly m old new (λ c. IsPast c → c.areas ≡ m.areas new)
