-- Two runs of one list from one state say the same, and end in one state.
use Rattle.std.proofs.Common.{◌≡◌, ℕ, zero, suc, ◌+◌, ◌||◌, List, ◌++◌, Option, Some, None, Result, Ok, Err, sym, ap, subst, ◌∙◌}
use Rattle.cmd_words.specs.declared.commands.Command.{Command}
use Rattle.cmd_words.specs.Parts.{part_of}
use Rattle.cmd_words.specs.Lines.{command_in}
use Rattle.region_map.specs.Platforms.{IsSound}
use Rattle.label_table.specs.Tables.{State}
use Rattle.label_table.proofs.ListTests.{some_is}
use Rattle.view_types.specs.declared.reply.Reply.{Reply}
use Rattle.view_types.specs.declared.word_fault.WordFault.{WordFault}
use Rattle.namespace_core.specs.Commands.{Does}
use Rattle.namespace_core.proofs.OneReply.{command-one, said-known}
use Rattle.command_runs.specs.Runs.{DoesLine, DoesNext, IsBehind, Progress, Run, is_change_if, is_refusal_if, text_if}
use Rattle.command_runs.specs.Uuids.{own_uuid}

module _ (known : Type 0) (knows : known) (run : Run) (sound : IsSound run.platform) where
  line-one : (number : ℕ) (before : State) (line : Result (Option Command) WordFault) (reply : Option Reply) (after : State) (told : Option Reply) (now : State)
      → DoesLine known run number before line reply after → DoesLine known run number before line told now → (reply ≡ told) × (after ≡ now)
  line-one number before (Ok (Some command)) (Some reply) after (Some told) now a b =
      let P = run.platform in
      let own = own_uuid run.seed number in
      let part = part_of command in
      let one = command-one P sound run.slots a.labels b.labels (b.stands ∙ sym a.stands) part own reply after told now
      (said-known P part known (Does P run.slots a.labels part own reply after) knows a.does)
      (said-known P part known (Does P run.slots b.labels part own told now) knows b.does) in
      (ap Some one.0, one.1)
  line-one number before (Ok (Some command)) (Some reply) after None now a b = absurd b
  line-one number before (Ok (Some command)) None after told now a b = absurd a
  line-one number before (Ok None) reply after told now a b = (a.0 ∙ sym b.0, a.1 ∙ sym b.1)
  line-one number before (Err fault) reply after told now a b = (a.0 ∙ sym b.0, a.1 ∙ sym b.1)

  next-one : (k : ℕ) (before p q : Progress) → DoesNext known run k before p → DoesNext known run k before q → p ≡ q
  next-one k before p q a b =
      let lines : a.line ≡ b.line = some_is (sym a.is_next ∙ b.is_next) in
      let here : DoesLine known run (k + 1) before.state (command_in b.line) a.reply p.state = subst (λ (l : List ℕ). DoesLine known run (k + 1) before.state (command_in l) a.reply p.state) lines a.does in
      let one = line-one (k + 1) before.state (command_in b.line) a.reply p.state b.reply q.state here b.does in
      let said : p.said ≡ q.said = a.said_is ∙ ap (λ r. before.said ++ text_if r) one.0 ∙ sym b.said_is in
      let refused : p.refused ≡ q.refused = a.refused_is ∙ ap (λ r. before.refused || is_refusal_if r) one.0 ∙ sym b.refused_is in
      let changed : p.changed ≡ q.changed = a.changed_is ∙ ap (λ r. before.changed || is_change_if r) one.0 ∙ sym b.changed_is in
      let states : p.state ≡ q.state = one.1 in
      λ i. record { said = said i; refused = refused i; changed = changed i; state = states i }

  pub behind-one : (k : ℕ) (p q : Progress) → IsBehind known run k p → IsBehind known run k q → p ≡ q
  behind-one zero p q a b = a ∙ sym b
  behind-one (suc k) p q a b =
      let befores : a.before ≡ b.before = behind-one k a.before b.before a.was b.was in
      next-one k b.before p q (subst (λ (before : Progress). DoesNext known run k before p) befores a.one) b.one
