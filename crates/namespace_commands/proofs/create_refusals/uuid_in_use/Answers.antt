use Rattle.std.proofs.Common.{sym, ap, ◌∙◌}
use Rattle.std.specs.Prelude.{option_map}
use Rattle.view_types.specs.declared.refusal.Refusal.TheVariants.{UuidInUse}
use Rattle.namespace_commands.proofs.Refused.{uuid-is}
use Rattle.namespace_commands.proofs.create_refusals.uuid_in_use.Goals as goal

pub returns-in-Some : goal.returns-in-Some
returns-in-Some c =
    sym (uuid-is c.args.platform.now c.requires.sound c.args.sets.now c.requires.state c.args.uuid.now c.holder_of.result c.holder_of.ensures ∙ ap (option_map UuidInUse) c.in-Some.is)

pub returns-in-None : goal.returns-in-None
returns-in-None c =
    sym (uuid-is c.args.platform.now c.requires.sound c.args.sets.now c.requires.state c.args.uuid.now c.holder_of.result c.holder_of.ensures ∙ ap (option_map UuidInUse) c.in-None.is)
