use Rattle.std.proofs.Common.{◌≡◌, sym, ap, ◌∙◌, rules}
use Rattle.std.specs.FinMap.{get}
use Rattle.rig_trait.specs.Areas.{area}
use Rattle.index_block.specs.Blocks.{kind_of}
use Rattle.index_block.specs.Geometry.{place_offset}
use Rattle.label_area.specs.Blocks.{window_at}
use Rattle.label_area.proofs.Windows.{read_window}
use Rattle.label_area.proofs.init.read_kind.Goals as goal

pub returns-clause-kind : goal.returns-clause-kind
returns-clause-kind g c told =
    let areas = g.R.Shown.areas c.args.rig.now in
    let at_is : c.from-at.result ≡ place_offset c.args.geometry.now c.args.place = c.from-at.ensures ∙ c.place_offset.ensures in
    c.read_block.ensures.kind
    ∙ ap (kind_of c.args.place c.args.geometry.now) (c.in_ok-read.ensures.bytes told
    ∙ read_window (get areas c.args.dimm) c.args.size c.from-at.result _ (sym (c.requires.size told)) (search rules)
    ∙ ap (window_at (area areas c.args.dimm)) at_is)
