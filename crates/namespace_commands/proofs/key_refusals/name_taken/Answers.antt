use Rattle.std.proofs.Common.{◌≡◌, Option, find, sym, ap, ◌∙◌}
use Rattle.std.specs.Prelude.{option_map}
use Rattle.std.specs.Option.{option_and_then}
use Rattle.view_types.specs.declared.namespaces.Namespace.{Namespace}
use Rattle.view_types.specs.declared.refusal.Refusal.TheVariants.{NameInUse}
use Rattle.region_map.specs.declared.platform.Region.{Region}
use Rattle.region_labels.specs.ListedSpaces.{has_name_beside, listed_spaces}
use Rattle.label_sets.specs.Sets.{labels_in}
use Rattle.namespace_commands.proofs.Fitting.{taken-is}
use Rattle.namespace_commands.proofs.key_refusals.name_taken.Goals as goal

pub returns-in-Some : goal.returns-in-Some
returns-in-Some c = λ r found.
    let L = labels_in c.args.sets.now in
    let name = c.args.name.now in
    let own = c.args.own.now in
    let told : c.other_named.result ≡ find (has_name_beside name own.uuid) (listed_spaces L r) = c.other_named.ensures ∙ ap (λ (o : Option Region). option_and_then (λ (q : Region). find (has_name_beside name own.uuid) (listed_spaces L q)) o) found in
    sym (taken-is L r name own (sym c.is_unnamed.ensures ∙ c.if-is_unnamed.false) c.other_named.result told ∙ ap (option_map (λ (n : Namespace). NameInUse n.uuid)) c.in-Some.is)

pub returns-in-None : goal.returns-in-None
returns-in-None c = λ r found.
    let L = labels_in c.args.sets.now in
    let name = c.args.name.now in
    let own = c.args.own.now in
    let told : c.other_named.result ≡ find (has_name_beside name own.uuid) (listed_spaces L r) = c.other_named.ensures ∙ ap (λ (o : Option Region). option_and_then (λ (q : Region). find (has_name_beside name own.uuid) (listed_spaces L q)) o) found in
    sym (taken-is L r name own (sym c.is_unnamed.ensures ∙ c.if-is_unnamed.false) c.other_named.result told ∙ ap (option_map (λ (n : Namespace). NameInUse n.uuid)) c.in-None.is)
