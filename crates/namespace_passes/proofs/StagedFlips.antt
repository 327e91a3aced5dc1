-- The label of a position is put into the module there.
use Rattle.std.proofs.Common.{◌≡◌, ◌≢◌, inl, inr, ℕ, ◌+◌, ◌^◌, ◌≤◌, ◌<◌, true, cond, List, ◌∷◌, length, get_or, map, drop, None, refl, sym, ap, subst, ◌∙◌, arith}
use Rattle.std.specs.Prelude.{◌==◌}
use Rattle.std.specs.List.{All, AllZip}
use Rattle.std.proofs.lemmas.Bool.{cases_eq}
use Rattle.std.proofs.lemmas.List.{drop_more, get_or-map, length-map}
use Rattle.rig_trait.specs.Areas.{Areas, SizesKept}
use Rattle.rig_trait.specs.Areas as stored
use Rattle.view_types.specs.declared.namespaces.Namespace.{Namespace}
use Rattle.label_codec.specs.ModuleLabels.{Module}
use Rattle.region_map.specs.declared.platform.Member.{Member}
use Rattle.region_map.specs.declared.platform.Region.{Region}
use Rattle.label_table.specs.Belonging.{member_at}
use Rattle.label_table.specs.Division.{part_size}
use Rattle.label_table.specs.Flips.{HasNone}
use Rattle.label_table.specs.Tables.{is_member, slot_of}
use Rattle.label_table.proofs.Confined.{member-cases}
use Rattle.label_table.proofs.ListTests.{eq_same, list_any-at}
use Rattle.region_labels.specs.declared.modules.LoadedModule.{LoadedModule}
use Rattle.region_labels.specs.declared.modules.ModuleArea.{ModuleArea}
use Rattle.region_labels.specs.declared.modules.ModuleArea.TheVariants.{Missing, WrongSize, Uninit, Foreign, Ready}
use Rattle.region_labels.specs.declared.region.RegionLabels.{RegionLabels}
use Rattle.region_labels.specs.Fates.{platform_of}
use Rattle.region_labels.specs.Modules.{dimm_of, labels_in, module_in, size_in}
use Rattle.region_labels.specs.Regions.{handles}
use Rattle.region_labels.proofs.Seated.{handle-at, length-handles}
use Rattle.region_labels.specs.Changes.{dimm_at}
use Rattle.region_labels.specs.Followed.{handle_at}
use Rattle.region_labels.specs.Rooms.{HasRoomForAll, KeepsRegion, room_after_put}
use Rattle.region_labels.specs.SlotLabels.{AreApart}
use Rattle.region_labels.proofs.ChangedModules.{dimm-at, labels-at}
use Rattle.region_labels.proofs.RoomSums.{all-first, all-others, all-reserved}
use Rattle.module_flips.specs.Flips.{HasFreeIn, IsPutAt, IsSizedIn, first_slot_in, with_put_at}
use Rattle.module_flips.specs.Together.{StaysTogether, free_slots, free_slots_of}
use Rattle.module_flips.proofs.Freed.{apart-at}
use Rattle.namespace_passes.specs.Staged.{IsStagedTo, new_space, staged_label}
use Rattle.namespace_passes.specs.Staging.{CanStage, CanStageAt, IsStaged, StagedBelow}
use Rattle.namespace_passes.proofs.StagedBounds.{all-bounded}
use Rattle.namespace_passes.proofs.Members.{HasPlace, at-member, handles-differ, member-in, place-of}
use Rattle.namespace_passes.proofs.Steps.{none-staged, step}

-- what stands for a module that is not there
pub no_module : LoadedModule
no_module = record { dimm = 0; area = Missing }

-- an area with a free slot is Ready
pub free-in : (stored : ModuleArea) → 0 < free_slots_of stored → HasFreeIn stored
free-in Missing some = absurd (omega arith)
free-in (WrongSize size) some = absurd (omega arith)
free-in (Uninit size) some = absurd (omega arith)
free-in (Foreign size) some = absurd (omega arith)
free-in (Ready area) some = some

-- the module at a seat is that of a position
pub seat-at : (ms : List LoadedModule) (r : Region) (i : ℕ) → i < length r.members → (seat : ℕ) → seat < length ms → ((d : LoadedModule) → (get_or ms seat d).dimm ≡ (member_at r i).handle) → dimm_at ms seat ≡ handle_at r i
seat-at ms r i lt seat seat_lt named = dimm-at ms seat no_module seat_lt ∙ named no_module ∙ sym (handle-at r i lt)

-- what is kept of modules and regions goes on to go together
pub stays-on : (ms : List LoadedModule) (rs : List RegionLabels) (mid : List LoadedModule) (rs_mid : List RegionLabels) (now : List LoadedModule) (rs_now : List RegionLabels)
    → StaysTogether ms rs mid rs_mid → StaysTogether mid rs_mid now rs_now → StaysTogether ms rs now rs_now
stays-on ms rs mid rs_mid now rs_now first second = record {
  dimms = second.dimms ∙ first.dimms;
  sizes = second.sizes ∙ first.sizes;
  slots = second.slots ∙ first.slots;
  same_regions = second.same_regions ∙ first.same_regions;
  together = second.together;
}

-- lists that show the same are of one length
same-length : {A : Type 0} (f : LoadedModule → A) (ms now : List LoadedModule) → map f now ≡ map f ms → length now ≡ length ms
same-length f ms now same = sym (length-map now f) ∙ ap length same ∙ length-map ms f

same-at : {A : Type 0} (f : LoadedModule → A) (e : A) (ms now : List LoadedModule) → map f now ≡ map f ms → (k : ℕ) (d : LoadedModule) → k < length ms → f (get_or now k d) ≡ f (get_or ms k d)
same-at f e ms now same k d lt =
    sym (get_or-map f now k d e (subst (λ n. k < n) (sym (same-length f ms now same)) lt)) ∙ ap (λ xs. get_or xs k e) same ∙ get_or-map f ms k d e lt

-- the rig still has areas of the sizes that are shown
pub sized-on : (ms now : List LoadedModule) (areas areas_now : Areas) → map dimm_of now ≡ map dimm_of ms → map size_in now ≡ map size_in ms → SizesKept areas areas_now → All (IsSizedIn areas) ms → All (IsSizedIn areas_now) now
sized-on ms now areas areas_now dimms sizes kept all k d lt =
    let k_lt : k < length ms = subst (λ n. k < n) (same-length dimm_of ms now dimms) lt in
    kept (get_or now k d).dimm ∙ ap (stored.size_in areas) (same-at dimm_of 0 ms now dimms k d k_lt) ∙ all k d k_lt ∙ sym (same-at size_in None ms now sizes k d k_lt)

module _ (ms : List LoadedModule) (rs : List RegionLabels) (r : Region) (s : Namespace) (can : CanStage ms rs r s) where
  -- the modules of the members are apart
  apart-handles : AreApart (handles r)
  apart-handles = record {
    apart = λ i j lt j_lt.
        let j_in : j < length r.members = subst (λ n. j < n) (length-handles r) j_lt in
        let i_in : i < length r.members = omega (arith, lt, j_in) in
        λ same. handles-differ (platform_of rs) can.together.disjoint r can.region_in i j i_in j_in (omega arith) (sym (handle-at r i i_in) ∙ same ∙ handle-at r j j_in);
  }

  -- before the first flip
  pub none-below : StagedBelow ms rs r s 0 ms rs
  none-below = record {
    together = record { dimms = refl; sizes = refl; slots = refl; same_regions = refl; together = can.together };
    labels = none-staged (platform_of rs) r s (labels_in ms) (all-bounded ms can.together.in_use) can.ready can.some
        (λ k lt. at-member r (λ (m : Member). HasNone s.uuid (labels_in ms m.handle)) can.fresh k lt);
    gave = λ place k d p_lt k_lt. absurd (omega arith);
    left = λ place d p_lt none. refl;
    room = all-reserved (handles r) rs apart-handles can.room;
  }

  module _ (i : ℕ) (now : List LoadedModule) (rs_now : List RegionLabels) (done : StagedBelow ms rs r s i now rs_now) where
    dimm-of : (place : ℕ) (d : LoadedModule) → place < length ms → (get_or now place d).dimm ≡ (get_or ms place d).dimm
    dimm-of place d lt = same-at dimm_of 0 ms now done.together.dimms place d lt

    now-length : length now ≡ length ms
    now-length = same-length dimm_of ms now done.together.dimms

    -- once all have their labels
    pub all-staged : length r.members ≤ i → IsStaged ms rs r (new_space s) now
    all-staged all = record {
      state_is = (done.labels.gained all).state_is;
      gains = (done.labels.gained all).gains;
      free = λ place d lt. elim (member-cases r (get_or ms place d).dimm) [
        | inl found ↦
            let at : HasPlace r found.0 = place-of r found.0 found.1 in
            let gave : free_slots (get_or now place d) + 1 ≡ free_slots (get_or ms place d) = done.gave place at.place d lt (omega (arith, at.within, all)) at.within (sym found.2 ∙ ap (λ (m : Member). m.handle) (sym at.is)) in
            let is : is_member r (get_or ms place d).dimm ≡ true = list_any-at (λ (m : Member). m.handle == (get_or ms place d).dimm) r.members found.0 found.1 (eq_same found.0.handle (get_or ms place d).dimm found.2) in
            let one : slot_of r (get_or ms place d).dimm ≡ 1 = ap (λ b. cond {A = ℕ} b 1 0) is in
            omega (arith, gave, one)
        | inr away ↦
            let left : free_slots (get_or now place d) ≡ free_slots (get_or ms place d) = done.left place d lt (λ k k_lt k_in e. away.1 (member_at r k) (member-in r k k_in) (sym e)) in
            let none : slot_of r (get_or ms place d).dimm ≡ 0 = ap (λ b. cond {A = ℕ} b 1 0) away.0 in
            omega (arith, left, none)
      ];
    }

    module _ (lt : i < length r.members) where
      handles-left : drop i (handles r) ≡ handle_at r i ∷ drop (i + 1) (handles r)
      handles-left = drop_more (handles r) i 0 (subst (λ n. i < n) (sym (length-handles r)) lt)

      room-left : All (HasRoomForAll (handle_at r i ∷ drop (i + 1) (handles r))) rs_now
      room-left = subst (λ hs. All (HasRoomForAll hs) rs_now) handles-left done.room

      free-left : (place : ℕ) (d : LoadedModule) → place < length ms → (get_or ms place d).dimm ≡ (member_at r i).handle → free_slots (get_or now place d) ≡ free_slots (get_or ms place d)
      free-left place d p_lt is = done.left place d p_lt (λ k k_lt k_in e. handles-differ (platform_of rs) can.together.disjoint r can.region_in k i k_in lt (omega arith) (sym e ∙ is))

      address : (member_at r i).dpa_base + s.offset < 2 ^ 64
      address =
          let size : (member_at r i).size ≡ part_size r = at-member r (λ (m : Member). m.size ≡ part_size r) can.same_sizes i lt in
          let end : (member_at r i).dpa_base + (member_at r i).size < 2 ^ 64 = at-member r (λ (m : Member). m.dpa_base + m.size < 2 ^ 64) can.addresses i lt in
          omega (arith, size, end, can.fits)

      -- the next label can be put
      pub can-stage-at : CanStageAt now rs_now r s i
      can-stage-at = record {
        together = done.together.together;
        ready = done.labels.ready;
        few = can.few;
        address = address;
        free = λ place d p_now is.
            let p_lt : place < length ms = subst (λ n. place < n) now-length p_now in
            let was : (get_or ms place d).dimm ≡ (member_at r i).handle = sym (dimm-of place d p_lt) ∙ is in
            let some : 0 < free_slots (get_or ms place d) = can.free place d p_lt (list_any-at (λ (m : Member). m.handle == (get_or ms place d).dimm) r.members (member_at r i) (member-in r i lt) (eq_same (member_at r i).handle (get_or ms place d).dimm (sym was))) in
            let left : free_slots (get_or now place d) ≡ free_slots (get_or ms place d) = free-left place d p_lt was in
            omega (arith, some, left);
        room = all-first (handle_at r i) (drop (i + 1) (handles r)) rs_now room-left;
      }

      module _ (seat : ℕ) (seat_lt : seat < length now) (named : (d : LoadedModule) → (get_or now seat d).dimm ≡ (member_at r i).handle) (d : LoadedModule)
          (within : first_slot_in (get_or now seat d) < (module_in (get_or now seat d)).slots) (was_free : (module_in (get_or now seat d)).at (first_slot_in (get_or now seat d)) ≡ None) where
        seat-handle : dimm_at now seat ≡ (member_at r i).handle
        seat-handle = dimm-at now seat d seat_lt ∙ named d

        there : labels_in now (member_at r i).handle ≡ module_in (get_or now seat d)
        there = ap (labels_in now) (sym seat-handle) ∙ labels-at now seat d done.together.together.once seat_lt

        -- the labels after the flip
        pub next-labels : IsStagedTo (platform_of rs) r s (labels_in ms) (i + 1) (with_put_at (dimm_at now seat) (first_slot_in (get_or now seat d)) (staged_label r s i) None (labels_in now))
        next-labels = subst (λ h. IsStagedTo (platform_of rs) r s (labels_in ms) (i + 1) (with_put_at h (first_slot_in (get_or now seat d)) (staged_label r s i) None (labels_in now))) (sym seat-handle)
            (step (platform_of rs) can.together.disjoint r can.region_in s can.same_sizes can.fits can.long (labels_in ms) i lt (labels_in now) done.labels (first_slot_in (get_or now seat d))
            (subst (λ (m : Module). first_slot_in (get_or now seat d) < m.slots) (sym there) within)
            (subst (λ (m : Module). m.at (first_slot_in (get_or now seat d)) ≡ None) (sym there) was_free))

        module _ (next : List LoadedModule) (rs_next : List RegionLabels) (put : IsPutAt now next seat (staged_label r s i) None)
            (labels : labels_in next ≡ with_put_at (dimm_at now seat) (first_slot_in (get_or now seat d)) (staged_label r s i) None (labels_in now))
            (together : StaysTogether now rs_now next rs_next) (free : (e : LoadedModule) → free_slots (get_or next seat e) + 1 ≡ free_slots (get_or now seat e))
            (regions : AllZip (KeepsRegion (room_after_put (dimm_at now seat) None)) rs_now rs_next) where
          at-seat : (place : ℕ) (e : LoadedModule) → place < length ms → (get_or ms place e).dimm ≡ (member_at r i).handle → place ≡ seat
          at-seat place e p_lt is = elim (cases_eq place seat) [
            | inl same ↦ same
            | inr differ ↦ absurd (apart-at now done.together.together.once place seat e (subst (λ n. place < n) (sym now-length) p_lt) seat_lt differ (dimm-of place e p_lt ∙ is ∙ sym (named e)))
          ]

          elsewhere : (place : ℕ) (e : LoadedModule) → place < length ms → (get_or ms place e).dimm ≢ (member_at r i).handle → get_or next place e ≡ get_or now place e
          elsewhere place e p_lt differ = put.changed.others place e (λ same. differ (sym (dimm-of place e p_lt) ∙ ap (λ k. (get_or now k e).dimm) same ∙ named e))

          pub next-below : StagedBelow ms rs r s (i + 1) next rs_next
          next-below = record {
            together = stays-on ms rs now rs_now next rs_next done.together together;
            labels = subst (IsStagedTo (platform_of rs) r s (labels_in ms) (i + 1)) (sym labels) next-labels;
            gave = λ place k e p_lt k_lt k_in is. elim (cases_eq k i) [
              | inl same ↦
                  let here : (get_or ms place e).dimm ≡ (member_at r i).handle = is ∙ ap (λ j. (member_at r j).handle) same in
                  let left : free_slots (get_or now place e) ≡ free_slots (get_or ms place e) = free-left place e p_lt here in
                  subst (λ p. free_slots (get_or next p e) + 1 ≡ free_slots (get_or now p e)) (sym (at-seat place e p_lt here)) (free e) ∙ left
              | inr differ ↦
                  ap (λ (m : LoadedModule). free_slots m + 1) (elsewhere place e p_lt (λ same. handles-differ (platform_of rs) can.together.disjoint r can.region_in k i k_in lt differ (sym is ∙ same)))
                  ∙ done.gave place k e p_lt (omega arith) k_in is
            ];
            left = λ place e p_lt none.
                ap free_slots (elsewhere place e p_lt (none i (omega arith) lt)) ∙ done.left place e p_lt (λ k k_lt k_in. none k (omega arith) k_in);
            room = all-others (handle_at r i) (drop (i + 1) (handles r)) rs_now rs_next
                (subst (λ h. AllZip (KeepsRegion (room_after_put h None)) rs_now rs_next) (seat-handle ∙ sym (handle-at r i lt)) regions) room-left;
          }
