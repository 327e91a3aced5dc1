-- Slots of the module at a seat are freed.
use Rattle.std.proofs.Common.{◌≡◌, ◌≢◌, inl, inr, ℕ, ◌<◌, false, true, eq-eqb, List, [], ◌∷◌, length, get_or, set, map, refl, sym, ap, subst, ◌∙◌, arith}
use Rattle.std.specs.FinMap.{get}
use Rattle.std.specs.List.{All}
use Rattle.std.specs.Prelude.{◌==◌}
use Rattle.std.specs.Option.{option_map}
use Rattle.std.proofs.lemmas.Bool.{and_parts, cases_eq, cases_lt, ltb-true}
use Rattle.std.proofs.lemmas.List.{get_or-set_other, get_or-set_same, get_or_read, length-map, length-set}
use Rattle.std.proofs.lemmas.List.Folds.{list_any_at}
use Rattle.rig_trait.specs.declared.shown.Shown.{Ghosts}
use Rattle.rig_trait.specs.Frames.{LeavesOnly}
use Rattle.rig_trait.specs.Areas.{Areas, OthersKept}
use Rattle.label_codec.specs.ModuleChanges.{with_module, without_slots}
use Rattle.label_codec.specs.ModuleLabels.{Module}
use Rattle.label_area.specs.Flips.{LeftByFlip, Standing, is_among}
use Rattle.label_area.specs.Modules.{area_kind, module_of}
use Rattle.region_labels.specs.declared.modules.LoadedModule.{LoadedModule}
use Rattle.region_labels.specs.declared.modules.ModuleArea.{ModuleArea}
use Rattle.region_labels.specs.declared.modules.ModuleArea.TheVariants.{Missing, WrongSize, Uninit, Foreign, Ready}
use Rattle.region_labels.specs.declared.region.RegionLabels.{RegionLabels}
use Rattle.region_labels.specs.Modules.{EachOnce, dimm_of, labels_in, module_in}
use Rattle.region_labels.specs.Regions.{IsOver}
use Rattle.region_labels.specs.declared.by_slot.SlotLabel.{SlotLabel}
use Rattle.region_labels.specs.Changes.{IsChangedAt, dimm_at}
use Rattle.region_labels.specs.Flips.{LosesLabels, StoodBeforeFree}
use Rattle.region_labels.specs.SlotLabels.{slot_labels}
use Rattle.region_labels.proofs.AreaFlips.{IsBoundedModule, loses-slots}
use Rattle.region_labels.proofs.ChangedModules.{changed-set, dimm-at, labels-after, labels-at}
use Rattle.module_flips.specs.Flips.{CanFree, HasLabelsInUse, is_used_by, standing_in, with_free, without_slots_at}
use Rattle.module_flips.specs.Stored.{StandsIn, StoredAs}
use Rattle.module_flips.specs.Passes.{LeftByPass}
use Rattle.module_flips.specs.Stops.{IsOneOf}
use Rattle.module_flips.proofs.Standing.{stands}
use Rattle.module_flips.proofs.Turned.{one_flip}

apart : false ≡ true → ⊥
apart e = cc

-- a slot in use is one of the area's
pub used-within : (stored : ModuleArea) (dimm slot : ℕ) → is_used_by stored slot ≡ true → slot < (module_in (record { dimm = dimm; area = stored })).slots
used-within Missing dimm slot used = absurd (apart used)
used-within (WrongSize size) dimm slot used = absurd (apart used)
used-within (Uninit size) dimm slot used = absurd (apart used)
used-within (Foreign size) dimm slot used = absurd (apart used)
used-within (Ready area) dimm slot used = ltb-true slot area.geometry.slots (and_parts _ _ used).0

pub in_use-bounded : (m : LoadedModule) → HasLabelsInUse m → IsBoundedModule (module_in m)
in_use-bounded m in_use = record { within = λ slot label is. used-within m.area m.dimm slot (in_use slot label is) }

-- a module stands in its area as long as that has its bytes
still-stored : (areas now : Areas) (dimm : ℕ) (stored : ModuleArea) → get now dimm ≡ get areas dimm → StoredAs areas dimm stored → StoredAs now dimm stored
still-stored areas now dimm Missing same is = ap area_kind same ∙ is
still-stored areas now dimm (WrongSize size) same is = (ap area_kind same ∙ is.0, ap (option_map length) same ∙ is.1)
still-stored areas now dimm (Uninit size) same is = (ap area_kind same ∙ is.0, ap (option_map length) same ∙ is.1)
still-stored areas now dimm (Foreign size) same is = (ap area_kind same ∙ is.0, ap (option_map length) same ∙ is.1)
still-stored areas now dimm (Ready area) same is =
    let here : get now area.dimm ≡ get areas area.dimm = subst (λ m. get now m ≡ get areas m) (sym is.0) same in (
      is.0,
      record {
        bytes = is.1.bytes;
        is_area = here ∙ is.1.is_area;
        size_is = is.1.size_is;
        current_is = is.1.current_is;
        free_is = is.1.free_is;
        module_is = ap module_of here ∙ is.1.module_is;
      },
    )

-- the modules at two places are two
pub apart-at : (ms : List LoadedModule) → EachOnce ms → (j k : ℕ) (d : LoadedModule) → j < length ms → k < length ms → j ≢ k → (get_or ms j d).dimm ≢ (get_or ms k d).dimm
apart-at ms once j k d j_lt k_lt differ same = elim (cases_lt j k) [
  | inl lt ↦ once.apart j k d lt k_lt same
  | inr le ↦ once.apart k j d (omega (arith, le, differ)) j_lt (sym same)
]

module _ (ms : List LoadedModule) (seat : ℕ) (lt : seat < length ms) (once : EachOnce ms) (x new : LoadedModule) (is : x ≡ get_or ms seat x) (dimm : new.dimm ≡ (get_or ms seat x).dimm) where
  abbrev pub here : LoadedModule
  here = get_or ms seat x

  pub at-seat : (d : LoadedModule) → get_or ms seat d ≡ here
  at-seat d = sym (get_or_read ms seat x lt is d) ∙ is

  pub new-at : (d : LoadedModule) → get_or (set ms seat new) seat d ≡ new
  new-at d = get_or-set_same ms seat new d lt

  pub changed : IsChangedAt ms (set ms seat new) seat
  changed = changed-set ms seat new lt (λ d. dimm ∙ ap dimm_of (sym (at-seat d)))

  pub seat-dimm : dimm_at ms seat ≡ here.dimm
  seat-dimm = dimm-at ms seat here lt ∙ ap dimm_of (at-seat here)

  pub own-labels : labels_in ms (dimm_at ms seat) ≡ module_in here
  own-labels = labels-at ms seat here once lt ∙ ap module_in (at-seat here)

  pub stands-after : (areas now : Areas) → OthersKept (dimm_at ms seat) areas now → All (StandsIn areas) ms → StandsIn now new → All (StandsIn now) (set ms seat new)
  stands-after areas now others all here_stands = λ k d k_lt.
      let k_ms : k < length ms = subst (λ n. k < n) (length-set ms seat new) k_lt in
      elim (cases_eq k seat) [
        | inl e ↦ subst (StandsIn now) (sym (ap (λ j. get_or (set ms seat new) j d) e ∙ new-at d)) here_stands
        | inr differ ↦
            let elsewhere : (get_or ms k d).dimm ≢ dimm_at ms seat = λ same. apart-at ms once k seat d k_ms lt differ (same ∙ seat-dimm ∙ ap dimm_of (sym (at-seat d))) in
            subst (StandsIn now) (sym (get_or-set_other ms seat k new d differ))
            (still-stored areas now (get_or ms k d).dimm (get_or ms k d).area (others (get_or ms k d).dimm elsewhere) (all k d k_ms))
      ]

  module _ (slots : List ℕ) (lost : List SlotLabel) (free : CanFree here slots lost) where
    -- what a stop leaves
    pub either-left : {R : Type 0} (m : Ghosts R) (old after : R) → All (StandsIn (m.areas old)) ms
        → (StandsIn (m.areas old) here → LeavesOnly m old after (LeftByFlip (m.areas old) (m.said old) here.dimm (with_free slots (standing_in here))))
        → LeavesOnly m old after (LeftByPass (dimm_at ms seat ∷ []) (map dimm_of ms) (m.said old) (m.areas old) (IsOneOf (labels_in ms) (without_slots_at (dimm_at ms seat) slots (labels_in ms))))
    either-left m old after all flip = subst (λ h. LeavesOnly m old after (LeftByPass (h ∷ []) (map dimm_of ms) (m.said old) (m.areas old) (IsOneOf (labels_in ms) (without_slots_at (dimm_at ms seat) slots (labels_in ms))))) (sym seat-dimm) (one_flip (map dimm_of ms) (IsOneOf (labels_in ms) (without_slots_at (dimm_at ms seat) slots (labels_in ms))) here.dimm (with_free slots (standing_in here)) (labels_in ms)
        (stands ms (m.areas old) all)
        (list_any_at (λ h. h == here.dimm) (map dimm_of ms) seat 0 (subst (λ n. seat < n) (sym (length-map ms dimm_of)) lt) (eq-eqb (get_or (map dimm_of ms) seat 0) here.dimm seat-dimm))
        (flip (subst (StandsIn (m.areas old)) (at-seat here) (all seat here lt)))
        (inl refl)
        (inr (ap (λ (area : Module). with_module here.dimm area (labels_in ms)) (ap (without_slots (is_among slots)) (sym own-labels)) ∙ ap (λ h. with_module h (without_slots (is_among slots) (labels_in ms (dimm_at ms seat))) (labels_in ms)) (sym seat-dimm))))

    module _ (freed : standing_in new ≡ with_free slots (standing_in here)) where
      now-labels : module_in new ≡ without_slots (is_among slots) (module_in here)
      now-labels = ap (λ (s : Standing). s.labels) freed

      pub labels-freed : labels_in (set ms seat new) ≡ without_slots_at (dimm_at ms seat) slots (labels_in ms)
      labels-freed = labels-after ms (set ms seat new) seat new once changed
          ∙ ap (λ (m : Module). with_module (dimm_at ms seat) m (labels_in ms)) (ap module_in (new-at new) ∙ now-labels ∙ ap (without_slots (is_among slots)) (sym own-labels))

      loses : LosesLabels (module_in here) (module_in new) lost
      loses = subst (λ ls. LosesLabels (module_in here) (module_in new) ls) (sym free.labels)
          (subst (λ m. LosesLabels (module_in here) m (slot_labels (module_in here) slots)) (sym now-labels) (loses-slots (module_in here) (in_use-bounded here free.in_use) slots free.apart))

      pub stood : (regions : List RegionLabels) → All (IsOver ms) regions → StoodBeforeFree (set ms seat new) seat lost regions
      stood regions over = record {
        before = ms;
        over = over;
        changed = changed;
        flip = λ d. subst (λ m. LosesLabels (module_in m) (module_in (get_or (set ms seat new) seat d)) lost) (sym (at-seat d))
            (subst (λ m. LosesLabels (module_in here) (module_in m) lost) (sym (new-at d)) loses);
      }
