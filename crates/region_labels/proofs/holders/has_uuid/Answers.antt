use Rattle.std.proofs.Common.{false, ap, sym, ◌∙◌, arith}
use Rattle.std.specs.Option.{option_map_or}
use Rattle.region_labels.specs.Fates.{platform_of}
use Rattle.region_labels.specs.Modules.{labels_in, module_in}
use Rattle.region_labels.specs.Holders.{keeps_uuid}
use Rattle.region_labels.proofs.Passing.{some-pass}
use Rattle.region_labels.proofs.holders.has_uuid.Goals as goal

pub returns-then-keeps_uuid : goal.returns-then-keeps_uuid
returns-then-keeps_uuid c =
    let test = keeps_uuid (platform_of c.args.regions.now) (labels_in c.args.modules.now) c.args.uuid.now c.args.loaded.now.dimm in
    some-pass test (module_in c.args.loaded.now) c.loop-slot.slot (omega (arith, c.slots-slot-end.ensures, c.loop-slot-test.true))
    (ap (λ o. option_map_or test o false) (sym c.label.ensures) ∙ sym c.keeps_uuid.ensures ∙ c.if-keeps_uuid.true)
