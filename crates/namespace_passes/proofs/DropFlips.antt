-- The label of one position is freed by a flip of the module there.
use Rattle.std.proofs.Common.{◌≡◌, inl, inr, ℕ, ◌<◌, ◌+◌, Bool, true, false, not, ◌&&◌, cond, List, [], ◌∷◌, length, get_or, Some, None, Result, refl, sym, ap, subst, ◌∙◌, arith}
use Rattle.std.specs.Prelude.{◌==◌, IsTrue}
use Rattle.std.specs.List.{All, AllZip, filter_map}
use Rattle.std.specs.Option.{option_map}
use Rattle.std.proofs.lemmas.Bool.{cases_eq}
use Rattle.std.proofs.lemmas.List.Folds.{list_any_at}
use Rattle.rig_trait.specs.declared.shown.Shown.{Ghosts}
use Rattle.label_codec.specs.declared.label.Label.{Label}
use Rattle.label_codec.specs.ModuleLabels.{Labels, Module, number}
use Rattle.label_area.specs.Flips.{Standing, is_among}
use Rattle.region_map.specs.declared.platform.Member.{Member}
use Rattle.region_map.specs.declared.platform.Region.{Region}
use Rattle.label_table.specs.Belonging.{IsDisjoint, member_at}
use Rattle.label_table.specs.Wholes.{any_label}
use Rattle.label_table.proofs.ListTests.{eq_same}
use Rattle.region_labels.specs.Changes.{IsChangedAt, dimm_at}
use Rattle.region_labels.specs.Rooms.{KeepsRegion}
use Rattle.region_labels.specs.SlotLabels.{slot_labels}
use Rattle.region_labels.proofs.ChangedModules.{dimm-at, handles-same, labels-at, once-after}
use Rattle.region_labels.specs.declared.modules.LoadedModule.{LoadedModule}
use Rattle.region_labels.specs.declared.modules.ModuleArea.{ModuleArea}
use Rattle.region_labels.specs.declared.modules.ModuleArea.TheVariants.{Missing, WrongSize, Uninit, Foreign, Ready}
use Rattle.region_labels.specs.declared.region.RegionLabels.{RegionLabels}
use Rattle.region_labels.specs.Fates.{with_regions}
use Rattle.region_labels.specs.Modules.{labels_in, module_in, size_in}
use Rattle.region_labels.specs.Regions.{IsOver, handles}
use Rattle.region_labels.proofs.Seated.{handle-at, length-handles}
use Rattle.module_flips.specs.Flips.{CanFree, HasLabelsInUse, IsFreedAt, IsOwn, IsReadyArea, is_used_in, without_slots_at}
use Rattle.module_flips.specs.Stops.{IsOneOf}
use Rattle.module_flips.specs.declared.flips.AreaFailed.{AreaFailed}
use Rattle.module_flips.specs.Together.{IsTogether, StaysTogether, slots_in}
use Rattle.module_flips.proofs.Freed.{apart-at}
use Rattle.module_flips.specs.Passes.{IsPass, Kept}
use Rattle.module_flips.proofs.Passes.{pass-as, pass-within}
use Rattle.module_flips.proofs.Together.{same-map, same-regions}
use Rattle.namespace_passes.specs.declared.places.LabelPlace.{LabelPlace}
use Rattle.namespace_passes.specs.Healing.{StandsAt}
use Rattle.namespace_passes.proofs.Bounded.{all-bounded}
use Rattle.namespace_passes.proofs.HealFlips.{no_module}
use Rattle.namespace_passes.specs.Dropping.{GivesSlot, HasGiven, IsBeforeOrLost, LosesLabel}
use Rattle.module_flips.proofs.FreeSlots.{one-freed}
use Rattle.namespace_passes.proofs.Freeing.{loses, one-label-less}

-- an area with a label is Ready
ready-in : (stored : ModuleArea) (dimm slot : ℕ) (l : Label) → (module_in (record { dimm = dimm; area = stored })).at slot ≡ Some l → IsReadyArea stored
ready-in Missing dimm slot l is = absurd (let none : None ≡ Some l = is in cc)
ready-in (WrongSize size) dimm slot l is = absurd (let none : None ≡ Some l = is in cc)
ready-in (Uninit size) dimm slot l is = absurd (let none : None ≡ Some l = is in cc)
ready-in (Foreign size) dimm slot l is = absurd (let none : None ≡ Some l = is in cc)
ready-in (Ready area) dimm slot l is = tt

-- the label in a slot
lost-one : (area : Module) (slot : ℕ) (l : Label) → area.at slot ≡ Some l → record { uuid = l.uuid; slot = slot } ∷ [] ≡ slot_labels area (slot ∷ [])
lost-one area slot l is = sym (ap (λ o. filter_map (λ k. option_map (λ (m : Label). record { uuid = m.uuid; slot = k }) o) (slot ∷ [])) is)

-- a fact of each module stays, where it does of the one at a seat
stays-at : (fact : LoadedModule → Type 0) (before after : List LoadedModule) (seat : ℕ) → IsChangedAt before after seat → All fact before → ((d : LoadedModule) → fact (get_or before seat d) → fact (get_or after seat d)) → All fact after
stays-at fact before after seat changed all here = λ k d lt.
    let k_lt : k < length before = subst (λ n. k < n) changed.each lt in
    elim (cases_eq k seat) [
      | inl same ↦ subst (λ j. fact (get_or after j d)) (sym same) (here d (subst (λ j. fact (get_or before j d)) same (all k d k_lt)))
      | inr differ ↦ subst fact (sym (changed.others k d differ)) (all k d k_lt)
    ]

-- a label that is not freed is in use as before
kept-used : (slot k : ℕ) (was : Module) (in_use : Bool) (l : Label) → (was.at k ≡ Some l → in_use ≡ true) → cond (is_among (slot ∷ []) k) None (was.at k) ≡ Some l → (not (is_among (slot ∷ []) k) && in_use) ≡ true
kept-used slot k was in_use l used live = by (is_among (slot ∷ []) k) live
  where
    by : (b : Bool) → cond b None (was.at k) ≡ Some l → (not b && in_use) ≡ true
    by true gone = absurd (let none : None ≡ Some l = gone in cc)
    by false there = used there

module _ (ms : List LoadedModule) (rs : List RegionLabels) (region : Region) (u : List ℕ) (position : ℕ) (lt : position < length region.members) (together : IsTogether ms rs)
    (place : LabelPlace) (at : StandsAt ms region u position place) where
  abbrev pub L : Labels
  L = labels_in ms

  abbrev pub x : Member
  x = member_at region position

  pub dimm-is : dimm_at ms place.seat ≡ x.handle
  dimm-is = dimm-at ms place.seat no_module at.within ∙ at.handle no_module

  here-is : (d : LoadedModule) → L x.handle ≡ module_in (get_or ms place.seat d)
  here-is d = sym (ap L dimm-is) ∙ labels-at ms place.seat d together.once at.within

  stored : (d : LoadedModule) → (module_in (get_or ms place.seat d)).at place.slot ≡ Some place.label
  stored d = sym (ap (λ (N : Module). N.at place.slot) (here-is d)) ∙ at.is

  used : (d : LoadedModule) → is_used_in (get_or ms place.seat d) place.slot ≡ true
  used d = together.in_use place.seat d at.within place.slot place.label (stored d)

  pub can-free : (d : LoadedModule) → CanFree (get_or ms place.seat d) (place.slot ∷ []) (record { uuid = place.label.uuid; slot = place.slot } ∷ [])
  can-free d = record {
    ready = ready-in (get_or ms place.seat d).area (get_or ms place.seat d).dimm place.slot place.label (stored d);
    own = together.own place.seat d at.within;
    in_use = together.in_use place.seat d at.within;
    used = λ k e k_lt. (let first : k ≡ 0 = omega arith in subst (λ j. IsTrue (is_used_in (get_or ms place.seat d) (get_or (place.slot ∷ []) j e))) (sym first) (used d));
    apart = record { apart = λ i j less j_lt. absurd (omega arith) };
    labels = lost-one (module_in (get_or ms place.seat d)) place.slot place.label (stored d);
  }

  known-there : is_among (handles region) (dimm_at ms place.seat) ≡ true
  known-there =
      let below : position < length (handles region) = subst (λ n. position < n) (sym (length-handles region)) lt in
      list_any_at (λ h. dimm_at ms place.seat == h) (handles region) position 0 below (eq_same (dimm_at ms place.seat) (get_or (handles region) position 0) (dimm-is ∙ sym (handle-at region position lt)))

  -- the module has no label with the uuid any longer
  pub label-lost : LosesLabel region u position L (without_slots_at (dimm_at ms place.seat) (place.slot ∷ []) L)
  label-lost = subst (λ h. LosesLabel region u position L (without_slots_at h (place.slot ∷ []) L)) (sym dimm-is)
      (loses L (all-bounded ms together.in_use) u x.handle place.slot place.label at.slot_within at.is at.has_uuid at.only region position refl)

  -- the flip is a pass of the region
  pub flip-pass : {R T : Type 0} {m : Ghosts R} {old new : R} {result : Result T AreaFailed} {before now : Kept} → IsPass (dimm_at ms place.seat ∷ []) (IsOneOf L (without_slots_at (dimm_at ms place.seat) (place.slot ∷ []) L)) m before old now new result
      → IsPass (handles region) (IsBeforeOrLost region u position L) m before old now new result
  flip-pass pass = pass-within (handles region) known-there (pass-as (λ labels one. elim one [
    | inl e ↦ inl e
    | inr e ↦ inr (subst (LosesLabel region u position L) (sym e) label-lost)
  ]) pass)

  -- Once the slot is freed
  module _ (now : List LoadedModule) (freed : IsFreedAt ms now place.seat (place.slot ∷ [])) where
    pub gives : GivesSlot x.handle ms now
    gives = record {
      gave = λ k d k_lt named. elim (cases_eq k place.seat) [
        | inl same ↦
            let within : place.slot < (module_in (get_or ms place.seat d)).slots = subst (λ (N : Module). place.slot < N.slots) (here-is d) at.slot_within in
            subst (λ j. HasGiven (get_or ms j d) (get_or now j d)) (sym same) (record {
              free = one-freed (get_or ms place.seat d) (get_or now place.seat d) place.slot within (used d) (freed.standing d);
              labels = ap (λ (s : Standing). number any_label s.labels + 1) (freed.standing d) ∙ one-label-less (module_in (get_or ms place.seat d)) place.slot place.label within (stored d);
            })
        | inr differ ↦ absurd (apart-at ms together.once k place.seat d k_lt at.within differ (named ∙ sym (at.handle d)))
      ];
      others = λ k d k_lt differ. freed.changed.others k d (λ same. differ (ap (λ j. (get_or ms j d).dimm) same ∙ at.handle d));
    }

    pub freed-together : (room : RegionLabels → ℕ) (regions_now : List RegionLabels) → All (IsOver now) regions_now → AllZip (KeepsRegion room) rs regions_now → StaysTogether ms rs now regions_now
    freed-together room regions_now over zip = record {
      dimms = handles-same ms now place.seat freed.changed;
      sizes = same-map size_in ms now place.seat freed.changed freed.size no_module None;
      slots = same-map slots_in ms now place.seat freed.changed (λ e. ap (λ (s : Standing). s.labels.slots) (freed.standing e)) no_module 0;
      same_regions = same-regions room rs regions_now zip;
      together = record {
        once = once-after ms now place.seat freed.changed together.once;
        own = stays-at IsOwn ms now place.seat freed.changed together.own (λ e own. freed.own e);
        in_use = stays-at HasLabelsInUse ms now place.seat freed.changed together.in_use still_used;
        disjoint = subst (λ (regions : List Region). IsDisjoint (with_regions regions)) (sym (same-regions room rs regions_now zip)) together.disjoint;
        over = over;
      };
    }
      where
        still_used : (d : LoadedModule) → HasLabelsInUse (get_or ms place.seat d) → HasLabelsInUse (get_or now place.seat d)
        still_used d in_use k l live =
            ap (λ (s : Standing). s.used k) (freed.standing d)
            ∙ kept-used place.slot k (module_in (get_or ms place.seat d)) (is_used_in (get_or ms place.seat d) k) l (λ was. in_use k l was) (sym (ap (λ (s : Standing). s.labels.at k) (freed.standing d)) ∙ live)
