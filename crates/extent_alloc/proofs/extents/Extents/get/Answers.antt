use Rattle.std.proofs.Common.{◌≡◌, Option, Some, None, refl, ◌∙◌}
use Rattle.std.specs.Option.{option_map}
use Rattle.std.proofs.lemmas.Iterator.Consumers.{nth_from_yields_List, YieldsList-from_first}
use Rattle.view_types.specs.declared.extents.Extent.{Extent}
use Rattle.extent_alloc.proofs.extents.Extents.get.Goals as goal

option_map-same : (o : Option Extent) → o ≡ option_map (λ x. x) o
option_map-same None = refl
option_map-same (Some e) = refl

pub returns : goal.returns
returns c =
    option_map-same c.nth.result
    ∙ nth_from_yields_List c.nth.result c.nth.new.self c.args.i c.nth.ensures.ran
    (YieldsList-from_first (λ x. x) (λ rest. rest) c.args.self.now.extents c.iter.ensures)
