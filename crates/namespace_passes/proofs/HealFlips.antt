-- The label of one position is replaced by a flip of the module there.
use Rattle.std.proofs.Common.{◌≡◌, inl, inr, ℕ, ◌<◌, ◌+◌, true, is_some, List, [], ◌∷◌, length, get_or, map, Some, None, Result, Ok, Err, refl, sym, ap, subst, ◌∙◌, arith}
use Rattle.std.specs.Prelude.{◌==◌, OnErr, OnOk}
use Rattle.std.specs.List.{AllZip}
use Rattle.std.specs.Option.{option_map}
use Rattle.std.proofs.lemmas.Bool.{cases_eq}
use Rattle.std.proofs.lemmas.List.{ext_get_or, get_or-map, length-map}
use Rattle.std.proofs.lemmas.List.Folds.{list_any_at}
use Rattle.rig_trait.specs.declared.shown.Shown.{Ghosts}
use Rattle.label_codec.specs.declared.label.Label.{Label}
use Rattle.label_codec.specs.ModuleLabels.{Labels, Module, number}
use Rattle.label_area.specs.Flips.{Standing, at_slot, is_among}
use Rattle.region_map.specs.declared.platform.Member.{Member}
use Rattle.region_map.specs.declared.platform.Platform.{Platform}
use Rattle.region_map.specs.declared.platform.Region.{Region}
use Rattle.label_table.specs.Belonging.{member_at, no_member}
use Rattle.label_table.specs.Tables.{is_member}
use Rattle.label_table.specs.Wholes.{any_label, labels_with, leading_label}
use Rattle.label_table.proofs.ListTests.{Contains-get_or, eq_same, list_any-at}
use Rattle.region_labels.specs.Changes.{IsChangedAt, dimm_at}
use Rattle.region_labels.specs.Rooms.{KeepsRegion, room_after_put}
use Rattle.region_labels.specs.SlotLabels.{replaced_label}
use Rattle.region_labels.proofs.ChangedModules.{dimm-at, labels-at}
use Rattle.region_labels.specs.declared.modules.LoadedModule.{LoadedModule}
use Rattle.region_labels.specs.declared.modules.ModuleArea.{ModuleArea}
use Rattle.region_labels.specs.declared.modules.ModuleArea.TheVariants.{Missing, WrongSize, Uninit, Foreign, Ready}
use Rattle.region_labels.specs.declared.region.RegionLabels.{RegionLabels}
use Rattle.region_labels.specs.Fates.{platform_of}
use Rattle.region_labels.specs.Modules.{labels_in, module_in}
use Rattle.region_labels.specs.Regions.{handles}
use Rattle.region_labels.proofs.Seated.{handle-at, length-handles}
use Rattle.module_flips.specs.Flips.{HasFreeIn, IsPutAt, IsReplaced, first_slot_in, with_put_at}
use Rattle.module_flips.specs.Passes.{IsPass, Kept}
use Rattle.module_flips.specs.Stops.{IsOneOf}
use Rattle.module_flips.specs.declared.flips.AreaFailed.{AreaFailed}
use Rattle.module_flips.specs.Together.{StaysTogether, free_slots, free_slots_of}
use Rattle.module_flips.proofs.Passes.{pass-as, pass-within}
use Rattle.namespace_passes.specs.declared.places.LabelPlace.{LabelPlace}
use Rattle.namespace_passes.specs.Healing.{CanHeal, StandsAt}
use Rattle.namespace_passes.specs.Passes.{IsStill, label_number}
use Rattle.namespace_passes.proofs.Bounded.{all-bounded}
use Rattle.namespace_passes.proofs.Counts.{put-number}
use Rattle.namespace_passes.proofs.Passing.{still-kept}
use Rattle.namespace_passes.proofs.Replaced.{HasPlaces, IsLedAt}

-- what stands for a module that is not there
abbrev pub no_module : LoadedModule
no_module = record { dimm = 0; area = Missing }

has-free : (area : ModuleArea) → 0 < free_slots_of area → HasFreeIn area
has-free Missing some = absurd (omega (arith, some))
has-free (WrongSize size) some = absurd (omega (arith, some))
has-free (Uninit size) some = absurd (omega (arith, some))
has-free (Foreign size) some = absurd (omega (arith, some))
has-free (Ready area) some = some

-- a fact at Ok follows from others
pub on_ok : {T E A B : Type 0} (r : Result T E) → (A → B) → OnOk r A → OnOk r B
on_ok (Ok t) f a = f a
on_ok (Err e) f a = tt

on_ok4 : {T E A B C D F : Type 0} (r : Result T E) → (A → B → C → D → F) → OnOk r A → OnOk r B → OnOk r C → OnOk r D → OnOk r F
on_ok4 (Ok t) f a b c d = f a b c d
on_ok4 (Err x) f a b c d = tt

on_err2 : {T E A B C : Type 0} (r : Result T E) → (A → B → C) → OnErr r A → OnErr r B → OnErr r C
on_err2 (Ok t) f a b = tt
on_err2 (Err e) f a b = f a b

on_ok_all : {T E A : Type 0} (r : Result T E) (B : A → Type 0) → ((a : A) → OnOk r (B a)) → OnOk r ((a : A) → B a)
on_ok_all (Ok t) B all = all
on_ok_all (Err e) B all = tt

pub either : {T E A : Type 0} (r : Result T E) → OnOk r A → OnErr r A → A
either (Ok t) a b = a
either (Err e) a b = b

-- each module has as many labels, where that at the seat has
counts-same : (ms now : List LoadedModule) (seat : ℕ) → IsChangedAt ms now seat → ((d : LoadedModule) → label_number (get_or now seat d) ≡ label_number (get_or ms seat d)) → map label_number now ≡ map label_number ms
counts-same ms now seat changed same = ext_get_or 0 (map label_number now) (map label_number ms) (length-map now label_number ∙ changed.each ∙ sym (length-map ms label_number)) (λ k k_lt.
    let k_now : k < length now = subst (λ n. k < n) (length-map now label_number) k_lt in
    let k_ms : k < length ms = subst (λ n. k < n) changed.each k_now in
    get_or-map label_number now k no_module 0 k_now ∙ elim (cases_eq k seat) [
      | inl e ↦ ap (λ j. label_number (get_or now j no_module)) e ∙ same no_module ∙ ap (λ j. label_number (get_or ms j no_module)) (sym e)
      | inr differ ↦ ap label_number (changed.others k no_module differ)
    ] ∙ sym (get_or-map label_number ms k no_module 0 k_ms))

-- each module has as many free slots, where that at the seat has
free-same : (ms now : List LoadedModule) (seat : ℕ) → IsChangedAt ms now seat → ((d : LoadedModule) → free_slots (get_or now seat d) + 1 ≡ free_slots (get_or ms seat d) + 1) → map free_slots now ≡ map free_slots ms
free-same ms now seat changed same = ext_get_or 0 (map free_slots now) (map free_slots ms) (length-map now free_slots ∙ changed.each ∙ sym (length-map ms free_slots)) (λ k k_lt.
    let k_now : k < length now = subst (λ n. k < n) (length-map now free_slots) k_lt in
    let k_ms : k < length ms = subst (λ n. k < n) changed.each k_now in
    get_or-map free_slots now k x 0 k_now ∙ elim (cases_eq k seat) [
      | inl e ↦ ap (λ j. free_slots (get_or now j x)) e ∙ (let here : free_slots (get_or now seat x) + 1 ≡ free_slots (get_or ms seat x) + 1 = same x in omega (arith, here)) ∙ ap (λ j. free_slots (get_or ms j x)) (sym e)
      | inr differ ↦ ap free_slots (changed.others k x differ)
    ] ∙ sym (get_or-map free_slots ms k x 0 k_ms))
  where
    x : LoadedModule
    x = no_module

module _ (ms : List LoadedModule) (rs : List RegionLabels) (region : Region) (u : List ℕ) (position : ℕ) (lt : position < length region.members) (can : CanHeal ms rs region u)
    (place : LabelPlace) (at : StandsAt ms region u position place) where
  abbrev pub P : Platform
  P = platform_of rs

  abbrev pub L : Labels
  L = labels_in ms

  abbrev pub x : Member
  x = member_at region position

  pub led-at : (lead : Label) → leading_label region (labels_with u L) ≡ Some lead → IsLedAt P region u L lead position
  led-at lead leads = record {
    disjoint = can.together.disjoint;
    region_in = can.region_in;
    bounded = all-bounded ms can.together.in_use;
    stands = record { whole = can.whole; writable = can.writable };
    leads = leads;
    within = lt;
  }

  dimm-is : (d : LoadedModule) → dimm_at ms place.seat ≡ x.handle
  dimm-is d = dimm-at ms place.seat d at.within ∙ at.handle d

  here-is : (d : LoadedModule) → L x.handle ≡ module_in (get_or ms place.seat d)
  here-is d = sym (ap L (dimm-is d)) ∙ labels-at ms place.seat d can.together.once at.within

  pub free-there : (d : LoadedModule) → HasFreeIn (get_or ms place.seat d).area
  free-there d =
      let member : is_member region x.handle ≡ true = list_any-at (λ (y : Member). y.handle == x.handle) region.members x (Contains-get_or region.members position no_member lt) (eq_same x.handle x.handle refl) in
      has-free (get_or ms place.seat d).area (can.free place.seat d at.within (ap (is_member region) (at.handle d) ∙ member))

  stored : (d : LoadedModule) → (module_in (get_or ms place.seat d)).at place.slot ≡ Some place.label
  stored d = sym (ap (λ (N : Module). N.at place.slot) (here-is d)) ∙ at.is

  pub replaced-there : (d : LoadedModule) → IsReplaced (get_or ms place.seat d) (Some place.slot)
  replaced-there d = ap is_some (stored d)

  pub known-there : is_among (handles region) (dimm_at ms place.seat) ≡ true
  known-there =
      let below : position < length (handles region) = subst (λ n. position < n) (sym (length-handles region)) lt in
      list_any_at (λ h. dimm_at ms place.seat == h) (handles region) position 0 below (eq_same (dimm_at ms place.seat) (get_or (handles region) position 0) (dimm-is no_module ∙ sym (handle-at region position lt)))

  -- The label is replaced by another one.
  module _ (label : Label) (within : (d : LoadedModule) → first_slot_in (get_or ms place.seat d) < (module_in (get_or ms place.seat d)).slots)
      (was_free : (d : LoadedModule) → (module_in (get_or ms place.seat d)).at (first_slot_in (get_or ms place.seat d)) ≡ None) where
    abbrev pub after : LoadedModule → Labels
    after d = with_put_at (dimm_at ms place.seat) (first_slot_in (get_or ms place.seat d)) label (Some place.slot) L

    -- what holds of the labels afterwards, whichever the free slot is
    pub flip-makes : (fact : Labels → Type 0) → ((slot : ℕ) → HasPlaces region u L position place.slot slot place.label → fact (with_put_at x.handle slot label (Some place.slot) L)) → (d : LoadedModule) → fact (after d)
    flip-makes fact made d =
        let slot = first_slot_in (get_or ms place.seat d) in
        subst (λ h. fact (with_put_at h slot label (Some place.slot) L)) (sym (dimm-is d)) (made slot (record {
          within = at.slot_within;
          is = at.is;
          has_own = at.has_uuid;
          only = at.only;
          slot_within = subst (λ (N : Module). slot < N.slots) (sym (here-is d)) (within d);
          free = ap (λ (N : Module). N.at slot) (here-is d) ∙ was_free d;
        }))

    pub flip-still : {T E : Type 0} (result : Result T E) (now : List LoadedModule) (regions_now : List RegionLabels) → OnOk result (IsPutAt ms now place.seat label (Some place.slot)) → OnOk result (StaysTogether ms rs now regions_now)
        → ((d : LoadedModule) → OnOk result (free_slots (get_or now place.seat d) + 1 ≡ free_slots (get_or ms place.seat d) + 1))
        → OnOk result (AllZip (KeepsRegion (room_after_put (dimm_at ms place.seat) (replaced_label (module_in (get_or ms place.seat no_module)) (Some place.slot)))) rs regions_now)
        → OnErr result (now ≡ ms) → OnErr result (regions_now ≡ rs) → IsStill ms rs now regions_now
    flip-still result now regions_now did together free rooms kept kept_regions =
        either result (on_ok4 result made did together (on_ok_all result _ free) rooms) (on_err2 result (λ same same_regions. still-kept ms rs now regions_now can.together same same_regions) kept kept_regions)
      where
        made : IsPutAt ms now place.seat label (Some place.slot) → StaysTogether ms rs now regions_now → ((d : LoadedModule) → free_slots (get_or now place.seat d) + 1 ≡ free_slots (get_or ms place.seat d) + 1)
            → AllZip (KeepsRegion (room_after_put (dimm_at ms place.seat) (replaced_label (module_in (get_or ms place.seat no_module)) (Some place.slot)))) rs regions_now → IsStill ms rs now regions_now
        made put stays gave kept_rooms = record {
          together = stays;
          same_free = free-same ms now place.seat put.changed gave;
          same_counts = counts-same ms now place.seat put.changed (λ d.
              let here = module_in (get_or ms place.seat d) in
              ap (λ (s : Standing). number any_label s.labels) (put.standing d)
              ∙ put-number here (first_slot_in (get_or ms place.seat d)) place.slot (at_slot (first_slot_in (get_or ms place.seat d)) label) place.label (within d) (subst (λ (N : Module). place.slot < N.slots) (here-is d) at.slot_within) (was_free d) (stored d));
          rooms = subst (λ o. AllZip (KeepsRegion (room_after_put (dimm_at ms place.seat) o)) rs regions_now) (ap (option_map (λ (l : Label). record { uuid = l.uuid; slot = place.slot })) (stored no_module)) kept_rooms;
        }

    -- The flip is a pass of the region: what fits the labels before and after it fits.
    pub flip-pass : {R T : Type 0} {m : Ghosts R} {old new : R} {result : Result T AreaFailed} {before now : Kept} (fits : Labels → Type 0) → fits L → fits (after no_module)
        → IsPass (dimm_at ms place.seat ∷ []) (IsOneOf L (after no_module)) m before old now new result → IsPass (handles region) fits m before old now new result
    flip-pass fits before_fits after_fits pass = pass-within (handles region) known-there (pass-as (λ labels one. elim one [
      | inl e ↦ subst fits (sym e) before_fits
      | inr e ↦ subst fits (sym e) after_fits
    ]) pass)
