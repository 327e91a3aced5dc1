use Rattle.std.proofs.Common.{Option, ap, ◌∙◌, ℕ}
use Rattle.std.specs.Option.{unwrap_or}
use Rattle.label_sets.specs.Sets.{platform_in}
use Rattle.namespace_commands.proofs.AcceptedCreates.{spare-told}
use Rattle.namespace_commands.proofs.creation.spare_of.Goals as goal

pub returns : goal.returns
returns c = c.unwrap_or.ensures ∙ ap (λ (o : Option ℕ). unwrap_or o 0) c.spare.ensures ∙ spare-told (platform_in c.args.sets.now) c.args.sets.now.modules c.args.member.now.handle
