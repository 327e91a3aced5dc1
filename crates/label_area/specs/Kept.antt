-- What an area that was loaded keeps, and what is seen of it.
use Rattle.std.specs.Prelude.{◌≡◌, ℕ, ◌+◌, ◌≤◌, List, [], ◌∷◌, Option, None, IsSome, IsTrue, length, slice_index_or, vec_capacity}
use Rattle.std.specs.FinMap.{FinMap, from_entries}
use Rattle.std.specs.List.{cons_option}
use Rattle.std.specs.Option.{option_map}
use Rattle.std.specs.Ordering.{nat_cmp}
use Rattle.index_block.specs.Current.{IsSeq}
use Rattle.index_block.specs.Geometry.{IsGeometry}
use Rattle.label_codec.specs.declared.label.Label.{Label}
use Rattle.label_area.specs.declared.area.Area.TheInside.{Inside}
use Rattle.label_area.specs.declared.blocks.Current.{Current}
use Rattle.label_area.specs.LoadedAreas.{LoadedArea}
use Rattle.index_block.specs.Geometry.{bitmap_len}
use Rattle.label_area.specs.Slots.{free_bits, is_in_use, live_labels}

-- the labels from a slot on, with their slots
abbrev pub entries_from : ℕ → List (Option Label) → List (ℕ × Label)
entries_from slot [] = []
entries_from slot (label ∷ labels) = cons_option (option_map (λ l. (slot, l)) label) (entries_from (slot + 1) labels)

-- labels in the order of their slots, up to some slot, as a map
abbrev pub live_of : List (Option Label) → FinMap nat_cmp Label
live_of labels = from_entries (entries_from 0 labels)

-- what is seen of what an area keeps
abbrev pub seen : Inside → LoadedArea
seen area = record {
  dimm = area.dimm;
  geometry = area.geometry;
  place = area.place;
  seq = area.seq;
  free = area.free.items;
  live = live_of area.labels.items;
}

-- what is seen of an area with these bytes and this current block
abbrev pub loaded_from : ℕ → Current → List ℕ → LoadedArea
loaded_from dimm current area = record {
  dimm = dimm;
  geometry = current.geometry;
  place = current.place;
  seq = current.seq;
  free = free_bits current area;
  live = live_of (live_labels current area);
}

pub record IsKept (area : Inside) : Type 0 where
  pub geometry : IsGeometry area.geometry
  pub label : area.geometry.label ≡ 256
  pub seq : IsSeq area.seq
  pub bits : length area.free.items ≡ bitmap_len area.geometry.slots
  -- the slots behind the end of the list have no label, and there is room for the labels of all
  pub room : area.geometry.slots ≤ vec_capacity area.labels
  -- a slot with a label is in use
  pub in_use : (slot : ℕ) → IsSome (slice_index_or area.labels.items slot None)
      → IsTrue (is_in_use area.free.items area.geometry.slots slot)
