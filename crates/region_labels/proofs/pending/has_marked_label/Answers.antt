use Rattle.std.proofs.Common.{false, ap, sym, ◌∙◌, arith}
use Rattle.std.specs.Option.{option_map_or}
use Rattle.label_codec.specs.Flags.{is_updating}
use Rattle.region_labels.specs.Modules.{module_in}
use Rattle.region_labels.proofs.Passing.{some-pass}
use Rattle.region_labels.proofs.pending.has_marked_label.Goals as goal

pub returns-then-is_marked : goal.returns-then-is_marked
returns-then-is_marked c =
    some-pass is_updating (module_in c.args.loaded.now) c.loop-slot.slot (omega (arith, c.slots-slot-end.ensures, c.loop-slot-test.true))
    (ap (λ o. option_map_or is_updating o false) (sym c.label.ensures) ∙ sym c.is_marked.ensures ∙ c.if-is_marked.true)
