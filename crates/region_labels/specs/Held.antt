-- The held labels of a module as they are listed, and its spare slots.
use Rattle.std.specs.Prelude.{ℕ, zero, suc, ◌-◌, Bool, false, not, List, [], ◌++◌, Option, None, Some, if◌then◌else◌}
use Rattle.std.specs.List.Sorted.{IsPermutation, IsSortedByKey}
use Rattle.std.specs.Option.{option_cmp, option_map, option_map_or, option_to_list}
use Rattle.std.specs.Cmp.Lexicographic.{slice_cmp}
use Rattle.std.specs.Ordering.{bool_cmp, nat_cmp, ordering_then}
use Rattle.std.specs.declared.cmp.Ordering.{Ordering}
use Rattle.view_types.specs.declared.namespaces.Held.{Held}
use Rattle.label_codec.specs.declared.label.Label.{Label}
use Rattle.label_codec.specs.Flags.{is_local, is_read_only, is_updating}
use Rattle.label_codec.specs.ModuleLabels.{Labels, number}
use Rattle.region_map.specs.declared.platform.Platform.{Platform}
use Rattle.region_map.specs.declared.platform.Region.{Region}
use Rattle.label_table.specs.Belonging.{region_of}
use Rattle.label_table.specs.Fates.{is_dead, is_held}
use Rattle.region_labels.specs.declared.held.HeldKey.{HeldKey}
use Rattle.region_labels.specs.declared.modules.LoadedModule.{LoadedModule}
use Rattle.region_labels.specs.Modules.{module_in}

abbrev pub region_index : Option Region → Option ℕ
region_index region = option_map (λ (r : Region). r.index) region

-- how a held label is shown
abbrev pub held_of : Platform → ℕ → Label → Held
held_of platform handle label = record {
  uuid = label.uuid;
  dpa = label.dpa;
  size = label.raw_size;
  local = is_local label;
  read_only = is_read_only label;
  updating = is_updating label;
  region = region_index (region_of platform handle label);
}

abbrev pub held_if : Platform → Labels → ℕ → Label → Option Held
held_if platform labels handle label =
    if is_held platform labels handle label then Some (held_of platform handle label) else None

abbrev pub held_at : Platform → Labels → ℕ → Option Label → Option Held
held_at platform labels handle None = None
held_at platform labels handle (Some label) = held_if platform labels handle label

-- the held labels in the slots below one
abbrev pub held_below : Platform → Labels → ℕ → (ℕ → Option Label) → ℕ → List Held
held_below platform labels handle at zero = []
held_below platform labels handle at (suc slot) =
    held_below platform labels handle at slot ++ option_to_list (held_at platform labels handle (at slot))

-- those of a module, in the order of their slots
abbrev pub held_in : Platform → Labels → LoadedModule → List Held
held_in platform labels loaded =
    held_below platform labels loaded.dimm (module_in loaded).at (module_in loaded).slots

-- what held labels are ordered by
abbrev pub held_key : Held → HeldKey
held_key held = record {
  dpa = held.dpa;
  size = held.size;
  uuid = held.uuid;
  local = held.local;
  read_only = held.read_only;
  updating = held.updating;
  region = held.region;
}

-- the slot has a label that isn't dead
abbrev pub is_kept_in : Platform → Labels → LoadedModule → ℕ → Bool
is_kept_in platform labels loaded slot =
    option_map_or (λ label. not (is_dead platform labels loaded.dimm label)) ((module_in loaded).at slot) false

abbrev pub spare_in : Platform → Labels → LoadedModule → ℕ
spare_in platform labels loaded = (module_in loaded).slots
    - number (λ label. not (is_dead platform labels loaded.dimm label)) (module_in loaded)

-- by address, size and uuid, then by the flags, with no before yes, and by the region, with none first
abbrev pub key_cmp : HeldKey → HeldKey → Ordering
key_cmp a b = ordering_then (nat_cmp a.dpa b.dpa) (ordering_then (nat_cmp a.size b.size)
    (ordering_then (slice_cmp nat_cmp a.uuid b.uuid) (ordering_then (bool_cmp a.local b.local)
    (ordering_then (bool_cmp a.read_only b.read_only) (ordering_then (bool_cmp a.updating b.updating)
    (option_cmp nat_cmp a.region b.region))))))

-- the held labels of a module in their order
pub record AreHeldIn (platform : Platform) (labels : Labels) (loaded : LoadedModule) (held : List Held) : Type 0 where
  pub same : IsPermutation (held_in platform labels loaded) held
  pub order : IsSortedByKey held_key key_cmp held
