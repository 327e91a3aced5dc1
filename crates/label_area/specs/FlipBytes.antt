-- Which bytes a flip changes: those of the index block that isn't current, and of the slot into which a label is put,
-- where one is.
use Rattle.std.specs.Prelude.{◌≡◌, ◌⊎◌, ℕ, ◌+◌, ◌≤◌, Option, IfSome}
use Rattle.rig_trait.specs.declared.shown.Shown.{Ghosts}
use Rattle.rig_trait.specs.Areas.{Areas, OthersKept, bytes_in, size_in}
use Rattle.rig_trait.specs.Frames.{LeavesOnly}
use Rattle.index_block.specs.Geometry.{other_place, place_offset, slot_offset}
use Rattle.label_area.specs.LoadedAreas.{LoadedArea}

-- so many bytes from an offset on meet none of those from another one on
abbrev pub AreApart : ℕ → ℕ → ℕ → ℕ → Type 0
AreApart from n at len = (from + n ≤ at) ⊎ (at + len ≤ from)

-- All bytes of the area that are apart from these are as before, and so are all other areas.
pub record ChangesFlipAlone (area : LoadedArea) (slot : Option ℕ) (old new : Areas) : Type 0 where
  pub others : OthersKept area.dimm old new
  pub size : size_in new area.dimm ≡ size_in old area.dimm
  pub bytes : (from n : ℕ) → AreApart from n (place_offset area.geometry (other_place area.place)) area.geometry.block
      → IfSome slot (λ s. AreApart from n (slot_offset area.geometry s) area.geometry.label)
      → bytes_in new area.dimm from n ≡ bytes_in old area.dimm from n

-- So it is at the return of a call, whatever it answers, and at each record since it began.
pub record WritesFlipAlone {R : Type 0} (m : Ghosts R) (old new : R) (area : LoadedArea) (slot : Option ℕ)
    : Type 0 where
  pub now : ChangesFlipAlone area slot (m.areas old) (m.areas new)
  pub any_moment : LeavesOnly m old new (λ c. ChangesFlipAlone area slot (m.areas old) c.areas)
