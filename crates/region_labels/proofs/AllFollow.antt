-- The indexes of all regions follow a flip, one after another.
use Rattle.std.proofs.Common.{ℕ, ◌<◌, List, [], ◌∷◌, length, get_or, sym, subst, arith}
use Rattle.std.specs.List.{All, AllZip}
use Rattle.region_labels.specs.declared.modules.LoadedModule.{LoadedModule}
use Rattle.region_labels.specs.declared.region.RegionLabels.{RegionLabels}
use Rattle.region_labels.specs.Regions.{IsOver}
use Rattle.region_labels.specs.Rooms.{KeepsRegion}
use Rattle.region_labels.proofs.Looped.{AreChanged, changed-all, only, zip-right, zip-weaker}

-- a region that follows
pub record HasFollowed (modules : List LoadedModule) (room : RegionLabels → ℕ) (old new : RegionLabels) : Type 0 where
  pub over : IsOver modules new
  pub kept : KeepsRegion room old new

module _ (modules : List LoadedModule) (room : RegionLabels → ℕ) (old now : List RegionLabels) where
  pub followed-over : AreChanged (HasFollowed modules room) old (length old) now → All (IsOver modules) now
  followed-over changed = zip-right (HasFollowed modules room) (IsOver modules) (λ x y followed. followed.over) old now
      (changed-all (HasFollowed modules room) old now changed)

  pub followed-kept : AreChanged (HasFollowed modules room) old (length old) now → AllZip (KeepsRegion room) old now
  followed-kept changed = zip-weaker (HasFollowed modules room) (KeepsRegion room) (λ x y followed. followed.kept) old now
      (changed-all (HasFollowed modules room) old now changed)

  -- a region that is still ahead
  pub ahead-only : (P : RegionLabels → Type 0) (place : ℕ) (item : RegionLabels) → place < length old
      → AreChanged (HasFollowed modules room) old place now → All P old → All P (get_or now place item ∷ [])
  ahead-only P place item lt changed all =
      only P (get_or now place item) (subst P (sym (changed.ahead place item (omega arith))) (all place item lt))
