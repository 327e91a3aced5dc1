-- What one flip makes of a module that was loaded.
use Rattle.std.specs.Prelude.{◌≡◌, ℕ, ◌&&◌, Bool, false, true, not, List, Option, Some, IfSome, IsSome, IsTrue}
use Rattle.std.specs.Prelude.{slice_index_or}
use Rattle.std.specs.List.{All}
use Rattle.rig_trait.specs.Areas.{Areas, size_in}
use Rattle.label_codec.specs.declared.label.Label.{Label}
use Rattle.label_codec.specs.ModuleChanges as labels_flip
use Rattle.label_codec.specs.ModuleChanges.{with_module, without_slots}
use Rattle.label_codec.specs.ModuleLabels.{Labels}
use Rattle.label_area.specs.Flips.{HasFree, Standing, at_slot, first_slot, is_among, replaced, with_label}
use Rattle.label_area.specs.LoadedAreas.{is_used}
use Rattle.region_labels.specs.declared.modules.LoadedModule.{LoadedModule}
use Rattle.region_labels.specs.declared.modules.ModuleArea.{ModuleArea}
use Rattle.region_labels.specs.declared.modules.ModuleArea.TheVariants.{Missing, WrongSize, Uninit, Foreign, Ready}
use Rattle.region_labels.specs.Modules.{module_in}
use Rattle.region_labels.specs.Modules as loaded
use Rattle.region_labels.specs.declared.by_slot.SlotLabel.{SlotLabel}
use Rattle.region_labels.specs.Changes.{IsChangedAt}
use Rattle.region_labels.specs.SlotLabels.{AreApart, slot_labels}

-- a Ready area is that of the module with this device handle
abbrev pub IsAreaOf : ℕ → ModuleArea → Type 0
IsAreaOf dimm Missing = Unit {0}
IsAreaOf dimm (WrongSize size) = Unit {0}
IsAreaOf dimm (Uninit size) = Unit {0}
IsAreaOf dimm (Foreign size) = Unit {0}
IsAreaOf dimm (Ready area) = area.dimm ≡ dimm

-- the area is that of its module
abbrev pub IsOwn : LoadedModule → Type 0
IsOwn m = IsAreaOf m.dimm m.area

-- the rig has an area of the size that the module shows, or none where that shows none
abbrev pub IsSizedIn : Areas → LoadedModule → Type 0
IsSizedIn areas m = size_in areas m.dimm ≡ loaded.size_in m

-- the area is Ready
abbrev pub IsReadyArea : ModuleArea → Type 0
IsReadyArea Missing = ⊥
IsReadyArea (WrongSize size) = ⊥
IsReadyArea (Uninit size) = ⊥
IsReadyArea (Foreign size) = ⊥
IsReadyArea (Ready area) = Unit {0}

abbrev pub is_used_by : ModuleArea → ℕ → Bool
is_used_by Missing slot = false
is_used_by (WrongSize size) slot = false
is_used_by (Uninit size) slot = false
is_used_by (Foreign size) slot = false
is_used_by (Ready area) slot = is_used area slot

-- a slot of the module is in use
abbrev pub is_used_in : LoadedModule → ℕ → Bool
is_used_in m slot = is_used_by m.area slot

-- a slot with a label is in use
abbrev pub HasLabelsInUse : LoadedModule → Type 0
HasLabelsInUse m = (slot : ℕ) (label : Label) → (module_in m).at slot ≡ Some label → is_used_in m slot ≡ true

-- what the module stands for
abbrev pub standing_in : LoadedModule → Standing
standing_in m = record { labels = module_in m; used = is_used_in m }

-- after slots are freed
abbrev pub with_free : List ℕ → Standing → Standing
with_free slots standing = record {
  labels = without_slots (is_among slots) standing.labels;
  used = λ slot. not (is_among slots slot) && standing.used slot;
}

-- slots of a module that can be freed, with the labels there
pub record CanFree (m : LoadedModule) (slots : List ℕ) (lost : List SlotLabel) : Type 0 where
  pub ready : IsReadyArea m.area
  pub own : IsOwn m
  pub in_use : HasLabelsInUse m
  pub used : All (λ slot. IsTrue (is_used_in m slot)) slots
  pub apart : AreApart slots
  pub labels : lost ≡ slot_labels (module_in m) slots

-- the labels of all modules after slots of one of them are freed
abbrev pub without_slots_at : ℕ → List ℕ → Labels → Labels
without_slots_at dimm slots labels = with_module dimm (without_slots (is_among slots) (labels dimm)) labels

-- slots of the module at a seat are freed, and all else stays
pub record IsFreedAt (before after : List LoadedModule) (seat : ℕ) (slots : List ℕ) : Type 0 where
  pub changed : IsChangedAt before after seat
  pub own : (d : LoadedModule) → IsOwn (slice_index_or after seat d)
  pub size : (d : LoadedModule) → loaded.size_in (slice_index_or after seat d)
      ≡ loaded.size_in (slice_index_or before seat d)
  pub standing : (d : LoadedModule) → standing_in (slice_index_or after seat d)
      ≡ with_free slots (standing_in (slice_index_or before seat d))

-- a slot of a Ready area is free
abbrev pub HasFreeIn : ModuleArea → Type 0
HasFreeIn Missing = ⊥
HasFreeIn (WrongSize size) = ⊥
HasFreeIn (Uninit size) = ⊥
HasFreeIn (Foreign size) = ⊥
HasFreeIn (Ready area) = HasFree area

abbrev pub first_slot_by : ModuleArea → ℕ
first_slot_by Missing = 0
first_slot_by (WrongSize size) = 0
first_slot_by (Uninit size) = 0
first_slot_by (Foreign size) = 0
first_slot_by (Ready area) = first_slot area

-- the least free slot of the module
abbrev pub first_slot_in : LoadedModule → ℕ
first_slot_in m = first_slot_by m.area

-- after a label is put into a slot, and the slot of the one that it replaces is freed
abbrev pub with_put : ℕ → Label → Option ℕ → Standing → Standing
with_put slot label replaces standing = with_label slot label (with_free (replaced replaces) standing)

-- the slot of a label that is replaced has one
abbrev pub IsReplaced : LoadedModule → Option ℕ → Type 0
IsReplaced m replaces = IfSome replaces (λ slot. IsSome ((module_in m).at slot))

-- a label can be put into the module, in place of the one in a slot, or of none
pub record CanPut (m : LoadedModule) (replaces : Option ℕ) : Type 0 where
  pub free : HasFreeIn m.area
  pub own : IsOwn m
  pub in_use : HasLabelsInUse m
  pub replaced : IsReplaced m replaces

-- the labels of all modules after a label is put into a slot of one of them
abbrev pub with_put_at : ℕ → ℕ → Label → Option ℕ → Labels → Labels
with_put_at dimm slot label replaces labels = with_module dimm
    (labels_flip.with_label slot (at_slot slot label)
    (without_slots (is_among (replaced replaces)) (labels dimm))) labels

-- a label is put into the module at a seat, and all else stays
pub record IsPutAt (before after : List LoadedModule) (seat : ℕ) (label : Label)
    (replaces : Option ℕ) : Type 0 where
  pub changed : IsChangedAt before after seat
  pub own : (d : LoadedModule) → IsOwn (slice_index_or after seat d)
  pub size : (d : LoadedModule) → loaded.size_in (slice_index_or after seat d)
      ≡ loaded.size_in (slice_index_or before seat d)
  pub standing : (d : LoadedModule) → standing_in (slice_index_or after seat d)
      ≡ with_put (first_slot_in (slice_index_or before seat d)) label replaces
      (standing_in (slice_index_or before seat d))
