use Rattle.std.proofs.Common.{List, Option, None, get_or, sym, ap, ◌∙◌, arith}
use Rattle.std.specs.FinMap.{get}
use Rattle.std.specs.Option.{option_copied}
use Rattle.label_codec.specs.declared.label.Label.{Label}
use Rattle.label_area.specs.LoadedAreas.{LoadedArea}
use Rattle.label_area.proofs.LabelsBySlot.{get-live_of}
use Rattle.label_area.proofs.area.Area.label.Goals as goal

pub returns-in_err-get : goal.returns-in_err-get
returns-in_err-get c =
    let slot = c.args.slot in
    ap option_copied c.from_residual.ensures
    ∙ c.in_err-get.ensures.lookup.4 (omega arith) None
    ∙ ap (λ (labels : List (Option Label)). get_or labels slot None) c.deref.ensures.value
    ∙ sym (get-live_of slot c.self.inside.labels.items)
    ∙ ap (λ (a : LoadedArea). get a.live slot) c.self.view_is

pub returns : goal.returns
returns c =
    let slot = c.args.slot in
    c.as_ref.ensures.value
    ∙ c.in_ok-get.ensures.lookup.4 (omega arith) None
    ∙ ap (λ (labels : List (Option Label)). get_or labels slot None) c.deref.ensures.value
    ∙ sym (get-live_of slot c.self.inside.labels.items)
    ∙ ap (λ (a : LoadedArea). get a.live slot) c.self.view_is
