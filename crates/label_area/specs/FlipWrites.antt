-- The writes of a flip (UEFI 2.7, section 13.19): a label into a free slot, where one is put, and then the index block
-- at the place that isn't current.
use Rattle.std.specs.Prelude.{◌≡◌, ℕ, ◌<◌, if◌then◌else◌, None, length, Result, IsTrue, OnErr, OnOk}
use Rattle.std.specs.FinMap.{get}
use Rattle.rig_trait.specs.declared.rig.Failed.{Failed}
use Rattle.rig_trait.specs.declared.shown.Shown.{Ghosts}
use Rattle.rig_trait.specs.Frames.{LeavesOnly}
use Rattle.index_block.specs.Bitmap.{is_free_in}
use Rattle.index_block.specs.Current.{IsSeq, is_followed_by}
use Rattle.index_block.specs.Geometry.{other_place}
use Rattle.label_codec.specs.declared.kind.AreaKind.TheVariants.{Ready}
use Rattle.label_area.specs.declared.flip_writes.Next.{Next}
use Rattle.label_area.specs.Flips.{FailedFlip, LeftByFlip, Standing}
use Rattle.label_area.specs.LoadedAreas.{LoadedArea}
use Rattle.label_area.specs.Loads.{IsShown}
use Rattle.label_area.specs.Slots.{bitmap_bytes, is_in_use}

-- an index block that may come after the current one
pub record IsNext (area : LoadedArea) (next : Next) : Type 0 where
  pub place_is : next.place ≡ other_place area.place
  pub numbered : IsSeq next.seq
  pub follows : IsTrue (is_followed_by area.seq next.seq)
  pub bits : length next.free ≡ bitmap_bytes

-- what an area stands for with other bits, and the labels that it has in slots in use
abbrev pub with_bits : LoadedArea → Next → Standing
with_bits area next = record {
  labels = record {
    kind = Ready;
    slots = area.geometry.slots;
    at = λ k. if is_in_use next.free area.geometry.slots k then get area.live k else None;
  };
  used = is_in_use next.free area.geometry.slots;
}

-- what is kept of an area once it has this block and stands for this
pub record IsKeptAfter (area : LoadedArea) (next : Next) (after : Standing) (kept : LoadedArea) : Type 0 where
  pub rest : kept ≡ record area { place = next.place; seq = next.seq; free = kept.free; live = kept.live }
  pub bits : (k : ℕ) → k < area.geometry.slots → is_free_in kept.free k ≡ is_free_in next.free k
  pub live : (k : ℕ) → get kept.live k ≡ after.labels.at k

-- The writes of a flip of an area: what a stop leaves at any moment of them, what is left where one failed, and what is
-- stored at Ok.
pub record Flips {R T : Type 0} (m : Ghosts R) (old new : R) (area : LoadedArea) (next : Next) (after : Standing)
    (result : Result T Failed) : Type 0 where
  pub any_moment : LeavesOnly m old new (LeftByFlip (m.areas old) (m.said old) area.dimm after)
  pub failed : OnErr result (FailedFlip (m.areas old) (m.areas new) (m.said old) area.dimm after)
  pub shown : OnOk result ((kept : LoadedArea) → IsKeptAfter area next after kept → IsShown kept (m.areas new))
