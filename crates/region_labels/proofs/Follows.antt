-- The index of a region follows a flip.
use Rattle.std.proofs.Common.{◌≡◌, ◌≢◌, inl, inr, ℕ, suc, ◌+◌, ◌-◌, ◌*◌, ◌<◌, ◌≤◌, List, [], ◌∷◌, length, get_or, take, Option, Some, None, refl, sym, ap, subst, ◌∙◌, arith}
use Rattle.std.specs.List.{All}
use Rattle.std.proofs.Math.Nat.{suc-mul}
use Rattle.std.proofs.lemmas.Bool.{cases_eq}
use Rattle.std.proofs.lemmas.List.Elements.{All-contains}
use Rattle.uuid_index.specs.declared.entry.Entry.{Entry}
use Rattle.label_codec.specs.ModuleChanges.{with_module, without_slots}
use Rattle.label_codec.specs.ModuleLabels.{Labels, Module}
use Rattle.label_table.proofs.ListTests.{Contains-here}
use Rattle.uuid_index.specs.Labels.{IsIndex}
use Rattle.uuid_index.proofs.Changes.{index-same}
use Rattle.region_labels.specs.declared.modules.LoadedModule.{LoadedModule}
use Rattle.region_labels.specs.declared.modules.ModuleArea.TheVariants.{Missing}
use Rattle.region_labels.specs.declared.region.RegionLabels.{RegionLabels}
use Rattle.region_labels.specs.Modules.{labels_in, module_in}
use Rattle.region_labels.specs.Regions.{IsOver, handles}
use Rattle.region_labels.specs.declared.by_slot.SlotLabel.{SlotLabel}
use Rattle.region_labels.specs.Changes.{IsChangedAt, dimm_at}
use Rattle.region_labels.specs.Flips.{GainsLabel, StoodBeforeFree, StoodBeforePut}
use Rattle.region_labels.specs.Followed.{FollowsGain, FollowsLoss, GainsAt, HasLost, LosesIfAny}
use Rattle.region_labels.specs.Rooms.{HasRoomFor, KeepsRegion, position_count, room_after_put}
use Rattle.region_labels.specs.SlotLabels.{has_slot}
use Rattle.region_labels.proofs.ChangedModules.{dimm_at-same, labels-at, labels-others, once-after, over-after}
use Rattle.region_labels.proofs.LostLabels.{all-lost, at_handle, elsewhere, gains-back, loses-next}

abbrev pub no-module : LoadedModule
no-module = record { dimm = 0; area = Missing }

abbrev pub module-at : List LoadedModule → ℕ → Module
module-at modules seat = module_in (get_or modules seat no-module)

module _ (before after : List LoadedModule) (seat : ℕ) (old : RegionLabels) (over : IsOver before old)
    (changed : IsChangedAt before after seat) where
  abbrev dimm : ℕ
  dimm = dimm_at after seat

  was-at : labels_in before dimm ≡ module-at before seat
  was-at = ap (labels_in before) (dimm_at-same before after seat changed)
      ∙ labels-at before seat no-module over.once changed.within

  is-at : labels_in after dimm ≡ module-at after seat
  is-at = labels-at after seat no-module (once-after before after seat changed over.once)
      (subst (λ n. seat < n) (sym changed.each) changed.within)

  others : (other : ℕ) → other ≢ dimm → labels_in after other ≡ labels_in before other
  others other differ = labels-others before after seat changed other
      (λ e. differ (e ∙ sym (dimm_at-same before after seat changed)))

  -- all modules, with another one at the handle
  abbrev pub with-area : Module → Labels
  with-area area = with_module dimm area (labels_in before)

  -- a module that gets a label
  pub gains-in : (area : Module) (gained : SlotLabel) → GainsLabel area (module-at after seat) gained
      → GainsAt dimm gained (with-area area) (labels_in after)
  gains-in area gained gain = record {
    gains = subst (λ was. GainsLabel was (labels_in after dimm) gained) (sym (at_handle (labels_in before) dimm area))
        (subst (λ now. GainsLabel area now gained) (sym is-at) gain);
    others = λ other differ. others other differ ∙ sym (elsewhere (labels_in before) dimm area other differ);
  }

  same-as : (area : Module) → area ≡ module-at before seat → (other : ℕ) → with-area area other ≡ labels_in before other
  same-as area is other = elim (cases_eq other dimm) [
    | inl e ↦ subst (λ h. with-area area h ≡ labels_in before h) (sym e)
        (at_handle (labels_in before) dimm area ∙ is ∙ sym was-at)
    | inr differ ↦ elsewhere (labels_in before) dimm area other differ
  ]

  same-then : (area : Module) → area ≡ module-at after seat → (other : ℕ) → labels_in after other ≡ with-area area other
  same-then area is other = elim (cases_eq other dimm) [
    | inl e ↦ subst (λ h. labels_in after h ≡ with-area area h) (sym e)
        (is-at ∙ sym is ∙ sym (at_handle (labels_in before) dimm area))
    | inr differ ↦ others other differ ∙ sym (elsewhere (labels_in before) dimm area other differ)
  ]

  -- the index before the flip, and behind it
  pub index-before : (area : Module) → area ≡ module-at before seat
      → IsIndex (handles old.region) (with-area area) old.index.entries
  index-before area is = index-same (handles old.region) (labels_in before) (with-area area) old.index.entries
      (λ k lt. same-as area is (get_or (handles old.region) k 0)) over.index

  pub index-after : (area : Module) (entries : List Entry) → area ≡ module-at after seat
      → IsIndex (handles old.region) (with-area area) entries → IsIndex (handles old.region) (labels_in after) entries
  index-after area entries is index = index-same (handles old.region) (with-area area) (labels_in after) entries
      (λ k lt. same-then area is (get_or (handles old.region) k 0)) index

pub first-over : (modules : List LoadedModule) (old : RegionLabels) → All (IsOver modules) (old ∷ []) → IsOver modules old
first-over modules old all = All-contains (IsOver modules) (old ∷ []) old all (Contains-here old [])

module _ (modules : List LoadedModule) (seat : ℕ) (gained : SlotLabel) (old : RegionLabels) where
  abbrev at-seat : ℕ
  at-seat = dimm_at modules seat

  -- a put that replaced none
  pub put-none : (new : RegionLabels) → StoodBeforePut modules seat gained None (old ∷ []) → new.region ≡ old.region
      → new.seats ≡ old.seats → FollowsGain at-seat gained old new → IsOver modules new
  put-none new stood region seats follows =
      let over = first-over stood.before old stood.over in
      let flip = stood.flip no-module in
      let same : flip.between ≡ module-at stood.before seat = flip.loses.is in
      over-after stood.before modules seat stood.changed old new over region seats
      (follows (with-area stood.before modules seat old over stood.changed flip.between) (labels_in modules)
      (gains-in stood.before modules seat old over stood.changed flip.between gained flip.gains)
      (index-before stood.before modules seat old over stood.changed flip.between same))

  -- what a put replaced
  pub put-loses : (lost : SlotLabel) (mid : RegionLabels) (stood : StoodBeforePut modules seat gained (Some lost) (old ∷ []))
      → FollowsLoss at-seat lost old mid
      → HasLost old mid (position_count at-seat old.region) (IsIndex (handles old.region)
      (with-area stood.before modules seat old (first-over stood.before old stood.over) stood.changed
      (stood.flip no-module).between) mid.index.entries)
  put-loses lost mid stood follows =
      let over = first-over stood.before old stood.over in
      let flip = stood.flip no-module in
      let was = module-at stood.before seat in
      let back : GainsLabel flip.between was lost = subst (λ area. GainsLabel area was lost)
      (all-lost was flip.between (lost ∷ []) flip.loses)
      (gains-back was flip.between (lost ∷ []) flip.loses 0 lost (omega arith) refl) in
      let labels = labels_in stood.before in
      follows labels (with-area stood.before modules seat old over stood.changed flip.between)
      (record {
        gains = subst (λ area. GainsLabel area (labels at-seat) lost) (sym (at_handle labels at-seat flip.between))
            (subst (λ area. GainsLabel flip.between area lost)
            (sym (was-at stood.before modules seat old over stood.changed)) back);
        others = λ other differ. sym (elsewhere labels at-seat flip.between other differ);
      }) over.index

  pub put-some : (lost : SlotLabel) (mid new : RegionLabels)
      (stood : StoodBeforePut modules seat gained (Some lost) (old ∷ []))
      → mid.region ≡ old.region → new.region ≡ old.region → new.seats ≡ old.seats → FollowsLoss at-seat lost old mid
      → FollowsGain at-seat gained mid new → IsOver modules new
  put-some lost mid new stood mid_region region seats loses follows =
      let over = first-over stood.before old stood.over in
      let flip = stood.flip no-module in
      let between = with-area stood.before modules seat old over stood.changed flip.between in
      let lost_index = put-loses lost mid stood loses in
      over-after stood.before modules seat stood.changed old new over region seats
      (subst (λ r. IsIndex (handles r) between mid.index.entries → IsIndex (handles r) (labels_in modules) new.index.entries)
      mid_region (follows between (labels_in modules)
      (gains-in stood.before modules seat old over stood.changed flip.between gained flip.gains)) lost_index.is)

  -- a put, whether or not it replaced a label
  pub put-over : (lost : Option SlotLabel) (mid new : RegionLabels)
      → StoodBeforePut modules seat gained lost (old ∷ []) → LosesIfAny at-seat lost old mid → new.region ≡ mid.region
      → new.seats ≡ mid.seats → FollowsGain at-seat gained mid new → IsOver modules new
  put-over None mid new stood same region seats follows =
      put-none new stood (subst (λ m. new.region ≡ m.region) same region) (subst (λ m. new.seats ≡ m.seats) same seats)
      (subst (λ m. FollowsGain at-seat gained m new) same follows)
  put-over (Some lost) mid new stood loses region seats follows =
      put-some lost mid new stood loses.region (region ∙ loses.region) (seats ∙ loses.seats) loses.index follows

  pub put-room : (lost : Option SlotLabel) (mid : RegionLabels)
      → StoodBeforePut modules seat gained lost (old ∷ []) → (lost ≡ None → HasRoomFor at-seat old)
      → LosesIfAny at-seat lost old mid → HasRoomFor at-seat mid
  put-room None mid stood room same = subst (HasRoomFor at-seat) (sym same) (room refl)
  put-room (Some lost) mid stood room loses =
      let more = (put-loses lost mid stood loses.index).room in
      subst (λ r. position_count at-seat r ≤ mid.index.room) (sym loses.region) (omega arith)

  pub put-kept : (lost : Option SlotLabel) (mid new : RegionLabels)
      → StoodBeforePut modules seat gained lost (old ∷ []) → LosesIfAny at-seat lost old mid
      → KeepsRegion (room_after_put at-seat None) mid new → KeepsRegion (room_after_put at-seat lost) old new
  put-kept None mid new stood same kept = subst (λ m. KeepsRegion (room_after_put at-seat None) m new) same kept
  put-kept (Some lost) mid new stood loses kept =
      let more = (put-loses lost mid stood loses.index).room in
      let less : new.index.room ≡ mid.index.room - position_count at-seat old.region =
      subst (λ r. new.index.room ≡ mid.index.room - position_count at-seat r) loses.region kept.room_is in
      record { region = kept.region ∙ loses.region; seats = kept.seats ∙ loses.seats; room_is = omega arith }

module _ (modules : List LoadedModule) (seat : ℕ) (lost : List SlotLabel) where
  -- the index of a region has followed the first of the labels that were lost
  pub record HasFreed (freed : ℕ) (old new : RegionLabels) : Type 0 where
    pub region : new.region ≡ old.region
    pub seats : new.seats ≡ old.seats
    pub index : (stood : StoodBeforeFree modules seat lost (old ∷ []))
        → HasLost old new (freed * position_count (dimm_at modules seat) old.region) (IsIndex (handles old.region)
        (with_module (dimm_at modules seat) (without_slots (has_slot (take freed lost)) (module-at stood.before seat))
        (labels_in stood.before)) new.index.entries)

  pub freed-none : (old : RegionLabels) → HasFreed 0 old old
  freed-none old = record {
    region = refl;
    seats = refl;
    index = λ stood. record {
      is = index-before stood.before modules seat old (first-over stood.before old stood.over) stood.changed
          (without_slots (has_slot (take 0 lost)) (module-at stood.before seat)) refl;
      room = omega arith;
    };
  }

  pub freed-next : (freed : ℕ) (one : SlotLabel) (old mid new : RegionLabels) → freed < length lost
      → one ≡ get_or lost freed one → HasFreed freed old mid → new.region ≡ mid.region → new.seats ≡ mid.seats
      → FollowsLoss (dimm_at modules seat) one mid new → HasFreed (freed + 1) old new
  freed-next freed one old mid new lt is done region seats follows = record {
    region = region ∙ done.region;
    seats = seats ∙ done.seats;
    index = λ stood.
        let dimm = dimm_at modules seat in
        let was = done.index stood in
        let flip = stood.flip no-module in
        let labels = labels_in stood.before in
        let area = module-at stood.before seat in
        let then_area = module-at modules seat in
        let at : ℕ → Labels = λ (i : ℕ). with_module dimm (without_slots (has_slot (take i lost)) area) labels in
        let now : HasLost mid new (position_count dimm old.region)
        (IsIndex (handles old.region) (at (freed + 1)) new.index.entries) =
        subst (λ r. IsIndex (handles r) (at freed) mid.index.entries
        → HasLost mid new (position_count dimm r) (IsIndex (handles r) (at (freed + 1)) new.index.entries))
        done.region (follows (at freed) (at (freed + 1))
        (loses-next area then_area lost flip labels dimm freed one lt is)) was.is in
        let more : new.index.room ≡ mid.index.room + position_count dimm old.region = now.room in
        let before_room : mid.index.room ≡ old.index.room + freed * position_count dimm old.region = was.room in
        record {
          is = now.is;
          room = room-next new.index.room mid.index.room old.index.room freed (position_count dimm old.region) more before_room;
        };
  }
    where
      room-next : (new mid old freed n : ℕ) → new ≡ mid + n → mid ≡ old + freed * n → new ≡ old + (freed + 1) * n
      room-next new mid old freed n a b = let e : suc freed * n ≡ freed * n + n = suc-mul freed n in
          let f : suc freed ≡ freed + 1 = omega arith in
          let g : (freed + 1) * n ≡ freed * n + n = subst (λ m. m * n ≡ freed * n + n) f e in
          omega arith

  pub freed-all : (old new : RegionLabels) → StoodBeforeFree modules seat lost (old ∷ [])
      → HasFreed (length lost) old new → IsOver modules new
  freed-all old new stood done =
      let over = first-over stood.before old stood.over in
      let was = done.index stood in
      let flip = stood.flip no-module in
      over-after stood.before modules seat stood.changed old new over done.region done.seats
      (index-after stood.before modules seat old over stood.changed
      (without_slots (has_slot (take (length lost) lost)) (module-at stood.before seat)) new.index.entries
      (all-lost (module-at stood.before seat) (module-at modules seat) lost flip) was.is)
