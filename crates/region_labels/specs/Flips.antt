-- What one flip of a module's area makes of its labels, and regions that stood over the modules before it.
use Rattle.std.specs.Prelude.{◌≡◌, ℕ, List, [], ◌∷◌, Option, None, Some, map, slice_index_or}
use Rattle.std.specs.List.{All}
use Rattle.label_codec.specs.declared.label.Label.{Label}
use Rattle.label_codec.specs.ModuleChanges.{without_slots}
use Rattle.label_codec.specs.ModuleLabels.{Module}
use Rattle.uuid_index.specs.Found.{IsLive}
use Rattle.uuid_index.specs.Labels.{PutsLabel}
use Rattle.region_labels.specs.declared.modules.LoadedModule.{LoadedModule}
use Rattle.region_labels.specs.declared.region.RegionLabels.{RegionLabels}
use Rattle.region_labels.specs.Modules.{module_in}
use Rattle.region_labels.specs.Regions.{IsOver}
use Rattle.region_labels.specs.declared.by_slot.SlotLabel.{SlotLabel}
use Rattle.region_labels.specs.Changes.{IsChangedAt}
use Rattle.region_labels.specs.SlotLabels.{AreApart, has_slot}

-- the label is live in its slot
abbrev pub IsLiveIn : Module → SlotLabel → Type 0
IsLiveIn area one = IsLive one.uuid area one.slot

-- a module loses some of its live labels, and all else stays
pub record LosesLabels (before after : Module) (lost : List SlotLabel) : Type 0 where
  pub live : All (IsLiveIn before) lost
  pub apart : AreApart (map (λ (one : SlotLabel). one.slot) lost)
  pub is : after ≡ without_slots (has_slot lost) before

-- a free slot of a module gets a label, and all else stays
pub record GainsLabel (before after : Module) (gained : SlotLabel) : Type 0 where
  pub label : Label
  pub has_uuid : label.uuid ≡ gained.uuid
  pub puts : PutsLabel before after gained.slot label

-- the slot of a label that a put replaces
abbrev pub lost_labels : Option SlotLabel → List SlotLabel
lost_labels None = []
lost_labels (Some lost) = lost ∷ []

-- a module gets a label, and may lose another one
pub record ReplacesLabel (before after : Module) (gained : SlotLabel) (lost : Option SlotLabel) : Type 0 where
  pub between : Module
  pub loses : LosesLabels before between (lost_labels lost)
  pub gains : GainsLabel between after gained

-- In what follows the modules are those after a flip of the area at a seat, and the regions stood over the modules
-- before it.

-- the flip put a label there
pub record StoodBeforePut (after : List LoadedModule) (seat : ℕ) (gained : SlotLabel) (lost : Option SlotLabel)
    (regions : List RegionLabels) : Type 0 where
  pub before : List LoadedModule
  pub over : All (IsOver before) regions
  pub changed : IsChangedAt before after seat
  pub flip : (d : LoadedModule) → ReplacesLabel (module_in (slice_index_or before seat d))
      (module_in (slice_index_or after seat d)) gained lost

-- the flip freed the slots of some labels there
pub record StoodBeforeFree (after : List LoadedModule) (seat : ℕ) (lost : List SlotLabel)
    (regions : List RegionLabels) : Type 0 where
  pub before : List LoadedModule
  pub over : All (IsOver before) regions
  pub changed : IsChangedAt before after seat
  pub flip : (d : LoadedModule) → LosesLabels (module_in (slice_index_or before seat d))
      (module_in (slice_index_or after seat d)) lost
