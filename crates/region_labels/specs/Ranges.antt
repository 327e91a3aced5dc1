-- The ranges of a region that are taken: those of its namespaces, and those that held labels of its modules hold.
use Rattle.std.specs.Prelude.{ℕ, zero, suc, ◌-◌, List, [], ◌∷◌, ◌++◌, Option, None, Some, if◌then◌else◌}
use Rattle.std.specs.Option.{option_and_then, option_to_list}
use Rattle.view_types.specs.declared.extents.Extent.{Extent}
use Rattle.label_codec.specs.declared.label.Label.{Label}
use Rattle.label_codec.specs.ModuleLabels.{Labels, Module}
use Rattle.region_map.specs.declared.platform.Member.{Member}
use Rattle.region_map.specs.declared.platform.Platform.{Platform}
use Rattle.label_table.specs.Fates.{is_held}
use Rattle.label_table.specs.Spaces.{Space}

abbrev pub range_of : Space → Extent
range_of space = record { start = space.offset; len = space.length }

-- the range of a label in the part of its module that begins at an address. It may end past the part.
abbrev pub range_in : ℕ → Label → Extent
range_in base label = record { start = label.dpa - base; len = label.raw_size - (base - label.dpa) }

abbrev pub held_range : Platform → Labels → ℕ → ℕ → Label → Option Extent
held_range platform labels base handle label =
    if is_held platform labels handle label then Some (range_in base label) else None

-- those of the held labels in the slots below one
abbrev pub held_ranges_below : Platform → Labels → ℕ → ℕ → (ℕ → Option Label) → ℕ → List Extent
held_ranges_below platform labels base handle at zero = []
held_ranges_below platform labels base handle at (suc slot) = held_ranges_below platform labels base handle at slot
    ++ option_to_list (option_and_then (held_range platform labels base handle) (at slot))

-- those of a module
abbrev pub held_ranges : Platform → Labels → ℕ → ℕ → Module → List Extent
held_ranges platform labels base handle area = held_ranges_below platform labels base handle area.at area.slots

-- those of the modules of some members
abbrev pub held_ranges_of : Platform → Labels → List Member → List Extent
held_ranges_of platform labels [] = []
held_ranges_of platform labels (member ∷ members) =
    held_ranges platform labels member.dpa_base member.handle (labels member.handle)
    ++ held_ranges_of platform labels members
