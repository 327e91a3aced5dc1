-- What holds as the positions of a region are walked over.
use Rattle.std.proofs.Common.{◌≡◌, ℕ, ◌+◌, ◌<◌, length, refl, ap, subst, ◌∙◌, arith}
use Rattle.label_codec.specs.ModuleLabels.{Labels}
use Rattle.uuid_index.specs.Labels.{IsIndex}
use Rattle.region_labels.specs.declared.region.RegionLabels.{RegionLabels}
use Rattle.region_labels.specs.Regions.{handles}
use Rattle.region_labels.specs.declared.by_slot.SlotLabel.{SlotLabel}
use Rattle.region_labels.specs.Followed.{FollowsGain, FollowsGainTo, FollowsLoss, FollowsLossTo, GainsAt, HasLost, IsIndexBelow, LosesAt, count_below, here}
use Rattle.region_labels.proofs.ByPosition.{index-ends, index-starts}
use Rattle.region_labels.proofs.Counted.{count-all, count-next}

-- the index follows a gain at the positions before one
pub record HasGained (dimm : ℕ) (gained : SlotLabel) (position : ℕ) (old new : RegionLabels) : Type 0 where
  pub region : new.region ≡ old.region
  pub seats : new.seats ≡ old.seats
  pub room : new.index.room + count_below dimm old.region position ≡ old.index.room
  pub index : (before after : Labels) → GainsAt dimm gained before after
      → IsIndex (handles old.region) before old.index.entries
      → IsIndexBelow old.region before after position new.index.entries

-- the index follows a loss at the positions before one
pub record HasLostBelow (dimm : ℕ) (lost : SlotLabel) (position : ℕ) (old new : RegionLabels) : Type 0 where
  pub region : new.region ≡ old.region
  pub seats : new.seats ≡ old.seats
  pub index : (before after : Labels) → LosesAt dimm lost before after
      → IsIndex (handles old.region) before old.index.entries
      → HasLost old new (count_below dimm old.region position)
      (IsIndexBelow old.region before after position new.index.entries)

module _ (dimm : ℕ) (one : SlotLabel) where
  pub gained-none : (old : RegionLabels) → HasGained dimm one 0 old old
  gained-none old = record {
    region = refl;
    seats = refl;
    room = omega arith;
    index = λ before after gain is. index-starts old.region before after old.index.entries is;
  }

  pub gained-next : (position : ℕ) (old mid new : RegionLabels) → position < length old.region.members
      → HasGained dimm one position old mid → new.region ≡ mid.region → new.seats ≡ mid.seats
      → new.index.room + here dimm mid.region position ≡ mid.index.room
      → FollowsGainTo dimm one position mid new → HasGained dimm one (position + 1) old new
  gained-next position old mid new lt done region seats room follows = record {
    region = region ∙ done.region;
    seats = seats ∙ done.seats;
    room =
        let now : new.index.room + here dimm old.region position ≡ mid.index.room =
        subst (λ r. new.index.room + here dimm r position ≡ mid.index.room) done.region room in
        let next = count-next dimm old.region position lt in
        let was = done.room in
        omega arith;
    index = λ before after gain is.
        subst (λ r. IsIndexBelow r before after position mid.index.entries
        → IsIndexBelow r before after (position + 1) new.index.entries) done.region
        (follows before after gain) (done.index before after gain is);
  }

  pub gained-all : (old new : RegionLabels) → HasGained dimm one (length old.region.members) old new
      → FollowsGain dimm one old new
  gained-all old new done before after gain is =
      index-ends old.region before after new.index.entries (done.index before after gain is)

  pub lost-none : (old : RegionLabels) → HasLostBelow dimm one 0 old old
  lost-none old = record {
    region = refl;
    seats = refl;
    index = λ before after loss is. record {
      is = index-starts old.region before after old.index.entries is;
      room = omega arith;
    };
  }

  pub lost-next : (position : ℕ) (old mid new : RegionLabels) → position < length old.region.members
      → HasLostBelow dimm one position old mid → new.region ≡ mid.region → new.seats ≡ mid.seats
      → FollowsLossTo dimm one position mid new → HasLostBelow dimm one (position + 1) old new
  lost-next position old mid new lt done region seats follows = record {
    region = region ∙ done.region;
    seats = seats ∙ done.seats;
    index = λ before after loss is.
        let was = done.index before after loss is in
        let now : HasLost mid new (here dimm old.region position)
        (IsIndexBelow old.region before after (position + 1) new.index.entries) =
        subst (λ r. IsIndexBelow r before after position mid.index.entries
        → HasLost mid new (here dimm r position) (IsIndexBelow r before after (position + 1) new.index.entries))
        done.region (follows before after loss) was.is in
        let next = count-next dimm old.region position lt in
        let more = now.room in
        let before_room = was.room in
        record { is = now.is; room = omega arith };
  }

  pub lost-all : (old new : RegionLabels) → HasLostBelow dimm one (length old.region.members) old new
      → FollowsLoss dimm one old new
  lost-all old new done before after loss is =
      let was = done.index before after loss is in
      record {
        is = index-ends old.region before after new.index.entries was.is;
        room = was.room ∙ ap (λ n. old.index.room + n) (count-all dimm old.region);
      }
