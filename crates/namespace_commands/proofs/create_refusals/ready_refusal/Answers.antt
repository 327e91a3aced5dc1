use Rattle.std.proofs.Common.{◌≡◌, Option, Some, sym, ap, ◌∙◌}
use Rattle.std.specs.Option.{option_or}
use Rattle.view_types.specs.declared.refusal.Refusal.{Refusal}
use Rattle.region_map.specs.Sound.{IsUsable}
use Rattle.region_map.proofs.Disjoint.{usable_region}
use Rattle.label_table.proofs.StatusLaws.{ready-parts}
use Rattle.label_sets.specs.Sets.{labels_in}
use Rattle.label_sets.proofs.Stageable.{region-listed}
use Rattle.namespace_commands.proofs.Refused.{found-in, ready-refusal}
use Rattle.namespace_commands.proofs.create_refusals.ready_refusal.Goals as goal

pub bad_size-requires : goal.bad_size-requires
bad_size-requires c =
    let P = c.args.platform.now in
    let r = c.args.region.now in
    let usable : IsUsable P r = usable_region P r c.requires.sound (region-listed P c.args.asked.now.region r c.requires.known) (ready-parts (labels_in c.args.sets.now) r c.requires.ready).usable in
    record { some = usable.some; few = usable.few }

pub returns-clause-refusal : goal.returns-clause-refusal
returns-clause-refusal c = λ free are.
    let P = c.args.platform.now in
    let sets = c.args.sets.now in
    let asked = c.args.asked.now in
    let r = c.args.region.now in
    let found = found-in P sets c.requires.state asked (Some r) c.requires.known in
    let space = c.in_ok-no_space.no_space in
    let slots = c.no_slots-no_slots.result in
    let all : c.or-4.result ≡ option_or (option_or (option_or (option_or (option_or c.unhealed.result c.bad_size.result) c.name_in_use.result) c.uuid_in_use.result) space) slots =
    c.or-4.ensures ∙ ap (λ (o : Option Refusal). option_or o slots) (c.or-3.ensures ∙ ap (λ (o : Option Refusal). option_or o space) (c.or-refusal.ensures ∙ ap (λ (o : Option Refusal). option_or o c.uuid_in_use.result) (c.or-2.ensures ∙ ap (λ (o : Option Refusal). option_or o c.name_in_use.result) c.or.ensures))) in
    ready-refusal P sets c.requires.state asked r c.requires.known c.requires.ready c.unhealed.result c.bad_size.result c.name_in_use.result c.uuid_in_use.result space slots
    (c.unhealed.ensures r found) c.bad_size.ensures (c.name_in_use.ensures r found) c.uuid_in_use.ensures (c.in_ok-no_space.ensures.refusal r found) (c.no_slots-no_slots.ensures r found) free are ∙ sym all
