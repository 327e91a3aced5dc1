use Rattle.std.proofs.Common.{◌≡◌, ◌<◌, Some, sym, ap, ◌∙◌, arith}
use Rattle.std.specs.Prelude.{nat_lt}
use Rattle.std.specs.Option.{option_copied}
use Rattle.region_map.specs.declared.platform.Member.{Member}
use Rattle.label_table.specs.Fates.{spare}
use Rattle.label_table.specs.Plain.{labels_in}
use Rattle.label_table.proofs.ListTests.{find-some, lt_true}
use Rattle.table_steps.specs.Refusals.{first_below}
use Rattle.table_steps.proofs.plain.no_slots.Goals as goal

pub overflow_cast-result : goal.overflow_cast-result
overflow_cast-result c =
    let P = c.args.platform.now in
    let L = labels_in c.args.modules.now in
    let x = c.in-Some.member.now in
    let found : first_below P L c.args.least c.args.region.now ≡ Some x = sym c.first_below.ensures ∙ ap option_copied c.in-Some.is in
    let few : spare P L x.handle < c.args.least =
    lt_true (spare P L x.handle) c.args.least (find-some (λ (y : Member). nat_lt (spare P L y.handle) c.args.least) c.args.region.now.members x found).1 in
    let is = c.spare.ensures in
    omega (arith, few, is, c.requires)
