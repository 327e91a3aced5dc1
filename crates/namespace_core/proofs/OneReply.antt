-- A command has one reply, and one state behind it, whichever labels stand for the state before.
use Rattle.std.proofs.Common.{◌≡◌, inl, ℕ, List, sym, ◌∙◌}
use Rattle.view_types.specs.declared.reply.Reply.{Reply}
use Rattle.cmd_words.specs.declared.parts.Part.{Part}
use Rattle.cmd_words.specs.declared.parts.Part.TheVariants.{Change, Query, Translation}
use Rattle.cmd_words.specs.declared.parts.Change.TheVariants.{InitLabels}
use Rattle.label_codec.specs.ModuleLabels.{Labels}
use Rattle.region_map.specs.declared.platform.Platform.{Platform}
use Rattle.region_map.specs.Platforms.{IsSound}
use Rattle.label_table.specs.Tables.{State, state}
use Rattle.label_table.proofs.SoundPlatforms.{sound-disjoint}
use Rattle.table_steps.proofs.OneStep.{does-one}
use Rattle.table_steps.proofs.SameSteps.{does-same}
use Rattle.namespace_commands.proofs.OneShown.{shown-one}
use Rattle.namespace_commands.proofs.OneTranslation.{translation-one}
use Rattle.namespace_core.specs.Commands.{Does, SaysIfKnown}

pub command-one : (P : Platform) → IsSound P → (slots : ℕ → ℕ) (L M : Labels) → state P M ≡ state P L → (part : Part) (own : List ℕ) (reply : Reply) (after : State) (told : Reply) (now : State)
    → Does P slots L part own reply after → Does P slots M part own told now → (reply ≡ told) × (after ≡ now)
command-one P sound slots L M same (Change change) own reply after told now a b =
    does-one P L slots change own reply after told now a (does-same P (sound-disjoint P sound) M L (sym same) slots change own told now b)
command-one P sound slots L M same (Query query) own reply after told now a b =
    (shown-one P (sound-disjoint P sound) L M same query reply told a.told b.told, a.kept ∙ sym same ∙ sym b.kept)
command-one P sound slots L M same (Translation translation) own reply after told now a b =
    (translation-one P sound translation reply told a.told b.told, a.kept ∙ sym same ∙ sym b.kept)

-- what is said where something is known is so where it is
pub said-known : (P : Platform) (part : Part) (known fact : Type 0) → known → SaysIfKnown P part known fact → fact
said-known P (Change (InitLabels dimm)) known fact is says = says (inl is)
said-known P _ known fact is says = says
