-- The layouts of a label storage area: one for labels of 256 bytes, and one for labels of 128, of version 1.1 (UEFI
-- 2.7, section 13.19).
use Rattle.std.specs.Prelude.{◌≡◌, ℕ, Option, Some}
use Rattle.std.specs.Option.{option_and_then, option_map}
use Rattle.index_block.specs.Geometry.{FitsIn, IsGeometry, geometry_of}
use Rattle.label_area.specs.declared.layouts.Layouts.{Layouts}

-- the layouts of an area of some size, where areas can have it
abbrev pub layouts_of : ℕ → Option Layouts
layouts_of size = option_and_then
    (λ own. option_map (λ old. record { own = own; old = old }) (geometry_of size 128)) (geometry_of size 256)

-- both are layouts of an area of this size
pub record AreLayouts (size : ℕ) (layouts : Layouts) : Type 0 where
  pub own : geometry_of size 256 ≡ Some layouts.own
  pub own_geometry : IsGeometry layouts.own
  pub own_label : layouts.own.label ≡ 256
  pub own_fits : FitsIn size layouts.own
  pub old_geometry : IsGeometry layouts.old
  pub old_fits : FitsIn size layouts.old
