-- What a flip makes of an area (UEFI 2.7, section 13.19): slots are freed, and a label is put into the least free slot,
-- or none is. The other index block then tells so, with the next sequence number.
use Rattle.std.specs.Prelude.{◌≡◌, ◌⊎◌, ℕ, ◌<◌, ◌==◌, ◌&&◌, ◌||◌, Bool, false, not, List, [], ◌∷◌, find, Option, Some}
use Rattle.std.specs.Prelude.{None, if◌then◌else◌, unwrap_or}
use Rattle.std.specs.FinMap.{get}
use Rattle.std.specs.List.{range_with_len, list_any}
use Rattle.std.specs.Option.{option_map_or}
use Rattle.rig_trait.specs.Areas.{Areas, OthersKept, size_in, written}
use Rattle.rig_trait.specs.Records.{CrashRecord, IsTorn}
use Rattle.index_block.specs.Bitmap.{free_count, is_free_in}
use Rattle.label_codec.specs.declared.label.Label.{Label}
use Rattle.label_codec.specs.declared.kind.AreaKind.TheVariants.{Ready}
use Rattle.label_codec.specs.ModuleLabels.{Module}
use Rattle.label_area.specs.declared.blocks.Current.{Current}
use Rattle.label_area.specs.Blocks.{current_block}
use Rattle.label_area.specs.Fair.{IsFair}
use Rattle.label_area.specs.LoadedAreas.{LoadedArea, is_used, size_of}
use Rattle.label_area.specs.Modules.{module_of}
use Rattle.label_area.specs.Slots.{free_bits, is_in_use}

-- what an area stands for: its module, and its slots in use
pub record Standing : Type 0 where
  pub labels : Module
  pub used : ℕ → Bool

abbrev pub used_by : Option Current → List ℕ → ℕ → Bool
used_by current area slot = option_map_or (λ c. is_in_use (free_bits c area) c.geometry.slots slot) current false

abbrev pub standing_of : Option (List ℕ) → Standing
standing_of stored = record { labels = module_of stored; used = used_by (current_block stored) (unwrap_or stored []) }

abbrev pub standing_at : Areas → ℕ → Standing
standing_at areas dimm = standing_of (get areas dimm)

-- what an area that was loaded stands for
abbrev pub shown_by : LoadedArea → Standing
shown_by area =
    record { labels = record { kind = Ready; slots = area.geometry.slots; at = get area.live }; used = is_used area }

-- the module has an area of this size
abbrev pub IsSized : LoadedArea → Areas → Type 0
IsSized area areas = size_in areas area.dimm ≡ Some (size_of area)

-- a slot is free
abbrev pub HasFree : LoadedArea → Type 0
HasFree area = 0 < free_count area.free area.geometry.slots

-- the least free slot
abbrev pub first_slot : LoadedArea → ℕ
first_slot area = unwrap_or (find (is_free_in area.free) (range_with_len 0 area.geometry.slots)) 0

abbrev pub is_among : List ℕ → ℕ → Bool
is_among slots k = list_any (λ slot. k == slot) slots

-- after these slots are freed
abbrev pub after_free : LoadedArea → List ℕ → Standing
after_free area slots = record {
  labels = record {
    kind = Ready;
    slots = area.geometry.slots;
    at = λ k. if is_among slots k then None else get area.live k;
  };
  used = λ k. not (is_among slots k) && is_used area k;
}

-- a label with the number of a slot
abbrev pub at_slot : ℕ → Label → Label
at_slot slot label = record label { slot = slot }

-- after a label is put into a slot
abbrev pub with_label : ℕ → Label → Standing → Standing
with_label slot label standing = record {
  labels = record {
    kind = standing.labels.kind;
    slots = standing.labels.slots;
    at = λ k. if k == slot then Some (at_slot slot label) else standing.labels.at k;
  };
  used = λ k. (k == slot) || standing.used k;
}

-- the slot of a label that is replaced
abbrev pub replaced : Option ℕ → List ℕ
replaced None = []
replaced (Some slot) = slot ∷ []

-- after a label is put into the least free slot, and the slot of the one that it replaces is freed
abbrev pub after_put : LoadedArea → Label → Option ℕ → Standing
after_put area label replaces = with_label (first_slot area) label (after_free area (replaced replaces))

-- the area of one module stands for what it did before, or for what it does after a flip
abbrev pub IsBeforeOrAfter : Areas → Areas → ℕ → Standing → Type 0
IsBeforeOrAfter before now dimm after = (standing_at now dimm ≡ standing_at before dimm)
    ⊎ (standing_at now dimm ≡ after)

-- What a stop leaves at any moment of a flip of one module: the area as it stood before, or as it stands after.
pub record LeftByFlip (areas : Areas) (said : List ℕ) (dimm : ℕ) (after : Standing) (c : CrashRecord) : Type 0 where
  pub said_is : c.said ≡ said
  pub others : OthersKept dimm areas c.areas
  pub flip : IsFair c → IsBeforeOrAfter areas c.areas dimm after

-- What is left of a flip that failed, also in a rig that tells no records: its last write is torn. Before that write
-- the area stood for what it did before the flip, and behind it, it would stand for that or for what it does after the
-- flip.
pub record FailedFlip (areas now : Areas) (said : List ℕ) (dimm : ℕ) (after : Standing) : Type 0 where
  pub mid : Areas
  pub at : ℕ
  pub put : List ℕ
  pub left : CrashRecord
  pub is_now : left.areas ≡ now
  pub is_torn : IsTorn mid said dimm at put left
  pub before : standing_at mid dimm ≡ standing_at areas dimm
  pub behind : IsBeforeOrAfter areas (written mid dimm at put) dimm after
  pub flip : LeftByFlip areas said dimm after left
