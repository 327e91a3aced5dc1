use Rattle.std.proofs.Common.{Option, sym, ap, ◌∙◌}
use Rattle.std.specs.Prelude.{option_map}
use Rattle.std.specs.Option.{option_and_then}
use Rattle.view_types.specs.declared.refusal.Refusal.TheVariants.{NameInUse}
use Rattle.region_labels.specs.declared.named.Named.{Named}
use Rattle.namespace_commands.specs.Create.{first_named}
use Rattle.namespace_commands.proofs.Refused.{name-is}
use Rattle.namespace_commands.proofs.create_refusals.name_in_use.Goals as goal

pub returns-in-Some-first_named : goal.returns-in-Some-first_named
returns-in-Some-first_named c = λ r found.
    sym (name-is c.args.sets.now c.args.index r found c.args.name.now (sym c.is_unnamed.ensures ∙ c.if-is_unnamed.false) c.namespaces_named.result c.namespaces_named.ensures
    ∙ ap (λ (o : Option Named). option_map NameInUse (option_and_then first_named o)) c.in-Some.is ∙ ap (option_map NameInUse) (sym c.first_named.ensures ∙ c.in-Some-first_named.is))

pub returns-in-None : goal.returns-in-None
returns-in-None c = λ r found.
    sym (name-is c.args.sets.now c.args.index r found c.args.name.now (sym c.is_unnamed.ensures ∙ c.if-is_unnamed.false) c.namespaces_named.result c.namespaces_named.ensures
    ∙ ap (λ (o : Option Named). option_map NameInUse (option_and_then first_named o)) c.in-Some.is ∙ ap (option_map NameInUse) (sym c.first_named.ensures ∙ c.in-None.is))
