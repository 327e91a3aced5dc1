use Rattle.std.proofs.Common.{◌≡◌, Option, Some, map, sym, ap, ◌∙◌}
use Rattle.std.specs.Option.{option_and_then}
use Rattle.cmd_words.specs.declared.name_keys.NameKey.{NameKey}
use Rattle.region_map.specs.declared.platform.Region.{Region}
use Rattle.label_table.proofs.ListTests.{some_is}
use Rattle.region_labels.specs.Named.{named_among, named_in}
use Rattle.region_labels.specs.Marks.{listed_in, namespace_at}
use Rattle.label_sets.specs.Sets.{labels_in}
use Rattle.table_steps.specs.Namespaces.{fitting}
use Rattle.namespace_commands.proofs.Fitting.{name-fits, named_by, uuid-fits}
use Rattle.namespace_commands.proofs.key_refusals.fitting.Goals as goal

pub returns-in-Some : goal.returns-in-Some
returns-in-Some c = λ r found.
    let L = labels_in c.args.sets.now in
    let told : c.namespace.result ≡ namespace_at L r c.in-Uuid.uuid = c.namespace.ensures ∙ ap (λ (o : Option Region). option_and_then (λ (q : Region). namespace_at L q c.in-Uuid.uuid) o) found in
    ap (named_by L r) (sym c.in-Some.is) ∙ uuid-fits L r c.in-Uuid.uuid c.namespace.result told
    ∙ ap (λ (key : NameKey). named_among (map (listed_in L r) (fitting L r key))) (sym c.in-Uuid.is)

pub returns-in-None : goal.returns-in-None
returns-in-None c = λ r found.
    let L = labels_in c.args.sets.now in
    let told : c.namespace.result ≡ namespace_at L r c.in-Uuid.uuid = c.namespace.ensures ∙ ap (λ (o : Option Region). option_and_then (λ (q : Region). namespace_at L q c.in-Uuid.uuid) o) found in
    ap (named_by L r) (sym c.in-None.is) ∙ uuid-fits L r c.in-Uuid.uuid c.namespace.result told
    ∙ ap (λ (key : NameKey). named_among (map (listed_in L r) (fitting L r key))) (sym c.in-Uuid.is)

pub returns-in-Some-namespaces_named : goal.returns-in-Some-namespaces_named
returns-in-Some-namespaces_named c = λ r found.
    let L = labels_in c.args.sets.now in
    let told : c.namespaces_named.result ≡ Some (named_in L r c.in-Name.name) = c.namespaces_named.ensures ∙ ap (λ (o : Option Region). option_and_then (λ (q : Region). Some (named_in L q c.in-Name.name)) o) found in
    some_is (sym c.in-Some-namespaces_named.is ∙ told) ∙ name-fits L r c.in-Name.name
    ∙ ap (λ (key : NameKey). named_among (map (listed_in L r) (fitting L r key))) (sym c.in-Name.is)
