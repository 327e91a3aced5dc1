-- Laws of commands and of their replies.
use Rattle.std.proofs.Common.{◌≡◌, inl, inr, ⊎_elim, false, [], Result, Ok, Err, refl, ◌∙◌}
use Rattle.cmd_words.specs.declared.parts.Part.{Part}
use Rattle.cmd_words.specs.declared.parts.Part.TheVariants.{Change}
use Rattle.cmd_words.specs.declared.parts.Change.TheVariants.{InitLabels}
use Rattle.region_map.specs.declared.platform.Platform.{Platform}
use Rattle.report_json.specs.Texts.{is_one_line}
use Rattle.namespace_core.specs.declared.faults.RunFault.{RunFault}
use Rattle.namespace_core.specs.declared.faults.RunFault.TheVariants as faults
use Rattle.namespace_core.specs.Commands.{SaysIfKnown, is_init, may_change, result_changes}
use Rattle.view_types.specs.declared.reply.Reply.{Reply}
use Rattle.view_types.specs.declared.reply.Reply.TheVariants as replies
use Rattle.view_types.specs.Replies.{is_change}
use Rattle.command_runs.specs.Areas.{initialised_by_part}
use Rattle.command_runs.specs.Turns.{answer_by, may_have_changed}

-- what is said of a command where something is known is said where something else is known from which it follows
pub says-on : (platform : Platform) (part : Part) (known more fact : Type 0) → (more → known) → SaysIfKnown platform part known fact → SaysIfKnown platform part more fact
says-on platform (Change (InitLabels dimm)) known more fact implies says = λ either. says (⊎_elim (λ is. inl (implies is)) inr either)
says-on platform _ known more fact implies says = says

-- a command whose answer is of no change changes nothing
unchanged-by : (part : Part) (result : Result Reply RunFault) → result_changes result ≡ false → may_change part result ≡ false
unchanged-by (Change (InitLabels dimm)) result is = is
unchanged-by _ result is = cc

changes-same : (result : Result Reply RunFault) → result_changes result ≡ may_have_changed (answer_by result)
changes-same (Ok reply) = refl
changes-same (Err (faults.Area dimm)) = refl
changes-same (Err faults.Memory) = refl
changes-same (Err faults.Spent) = refl

pub unchanged : (part : Part) (result : Result Reply RunFault) → may_have_changed (answer_by result) ≡ false → may_change part result ≡ false
unchanged part result none = unchanged-by part result (changes-same result ∙ none)

-- a command that initialises no area is no `init-labels`
pub not-init : (platform : Platform) (part : Part) → initialised_by_part platform part ≡ [] → is_init part ≡ false
not-init platform (Change (InitLabels dimm)) none = absurd cc
not-init platform _ none = refl

-- a list is no reply to a change
pub list-unchanged : (reply : Reply) → is_one_line reply ≡ false → is_change reply ≡ false
list-unchanged (replies.Initialised dimm slots) is = absurd cc
list-unchanged (replies.Created uuid region offset len size spare) is = absurd cc
list-unchanged (replies.Destroyed uuid) is = absurd cc
list-unchanged (replies.Renamed uuid name) is = absurd cc
list-unchanged (replies.Released count) is = absurd cc
list-unchanged _ is = refl
