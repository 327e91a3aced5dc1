-- What is kept of all modules and regions when slots of one module are freed.
use Rattle.std.proofs.Common.{◌≡◌, ◌⊎◌, inl, inr, ℕ, zero, suc, ◌+◌, ◌<◌, ◌≤◌, Bool, true, false, cond, not, ◌&&◌, ◌++◌, ◌∷◌, [], List, length, get_or, Option, Some, None, refl, sym, ap, subst, ◌∙◌, arith}
use Rattle.std.specs.List.{All, AllZip}
use Rattle.std.proofs.lemmas.Bool.{cases_eq}
use Rattle.std.proofs.lemmas.List.{length-append, length-map}
use Rattle.std.proofs.lemmas.List.Elements.{AllZip-get_or}
use Rattle.std.proofs.lemmas.List.Sorted.{length_permutation}
use Rattle.label_codec.specs.declared.label.Label.{Label}
use Rattle.label_codec.specs.ModuleLabels.{Labels, Module}
use Rattle.label_area.specs.Flips.{Standing, is_among}
use Rattle.region_map.specs.declared.platform.Region.{Region}
use Rattle.label_table.specs.Belonging.{IsDisjoint}
use Rattle.uuid_index.specs.Labels.{entries_below, entries_from, entries_of, entry_at, live_entries}
use Rattle.region_labels.specs.declared.modules.LoadedModule.{LoadedModule}
use Rattle.region_labels.specs.declared.modules.ModuleArea.TheVariants.{Missing}
use Rattle.region_labels.specs.declared.region.RegionLabels.{RegionLabels}
use Rattle.region_labels.specs.Fates.{region_in, with_regions}
use Rattle.region_labels.specs.Modules.{labels_in, module_in, size_in}
use Rattle.region_labels.specs.Regions.{IsOver, handles}
use Rattle.region_labels.specs.declared.by_slot.SlotLabel.{SlotLabel}
use Rattle.region_labels.specs.Changes.{IsChangedAt, dimm_at}
use Rattle.region_labels.specs.Rooms.{KeepsRegion}
use Rattle.region_labels.specs.SlotLabels.{slot_labels}
use Rattle.region_labels.proofs.ChangedModules.{dimm-at, handles-same, once-after}
use Rattle.module_flips.specs.Flips.{CanFree, HasLabelsInUse, IsFreedAt, IsOwn, IsReadyArea, standing_in, with_free, without_slots_at}
use Rattle.module_flips.specs.Together.{IsTogether, StaysTogether, slots_in}
use Rattle.module_flips.proofs.Together.{same-map, same-regions}
use Rattle.module_flips.specs.Sweeps.{ChangesOnly, HasNoMoreEntries, unwanted_slots}
use Rattle.module_flips.proofs.Freeing.{at-there, rest-elsewhere, same-part}
use Rattle.module_flips.proofs.Sweeping.{can-free}

abbrev pub no_module : LoadedModule
no_module = record { dimm = 0; area = Missing }

-- an element does not hang on the default
pub get_or-any : {A : Type 0} (xs : List A) (k : ℕ) → k < length xs → (d e : A) → get_or xs k d ≡ get_or xs k e
get_or-any [] k lt d e = absurd (omega arith)
get_or-any (x ∷ xs) zero lt d e = refl
get_or-any (x ∷ xs) (suc k) lt d e = get_or-any xs k (omega arith) d e

-- labels of which some are gone have no more entries
fewer-below : (position : ℕ) (was now : ℕ → Option Label) → ((k : ℕ) → (now k ≡ was k) ⊎ (now k ≡ None)) → (n : ℕ) → length (entries_below position now n) ≤ length (entries_below position was n)
fewer-below position was now each zero = omega arith
fewer-below position was now each (suc n) =
    let rest : length (entries_below position now n) ≤ length (entries_below position was n) = fewer-below position was now each n in
    let here : length (entry_at position n (now n)) ≤ length (entry_at position n (was n)) = elim (each n) [
      | inl same ↦ subst (λ (o : Option Label). length (entry_at position n o) ≤ length (entry_at position n (was n))) (sym same) (omega arith)
      | inr gone ↦ subst (λ (o : Option Label). length (entry_at position n o) ≤ length (entry_at position n (was n))) (sym gone) (omega arith)
    ] in
    let a : length (entries_below position now n ++ entry_at position n (now n)) ≡ length (entries_below position now n) + length (entry_at position n (now n)) = length-append (entries_below position now n) (entry_at position n (now n)) in
    let b : length (entries_below position was n ++ entry_at position n (was n)) ≡ length (entries_below position was n) + length (entry_at position n (was n)) = length-append (entries_below position was n) (entry_at position n (was n)) in
    omega (arith, rest, here, a, b)

fewer-entries : (was now : Labels) → ((h : ℕ) → (now h).slots ≡ (was h).slots) → ((h k : ℕ) → ((now h).at k ≡ (was h).at k) ⊎ ((now h).at k ≡ None)) → (hs : List ℕ) (position : ℕ)
    → length (entries_from position hs now) ≤ length (entries_from position hs was)
fewer-entries was now slots each [] position = omega arith
fewer-entries was now slots each (h ∷ hs) position =
    let rest : length (entries_from (position + 1) hs now) ≤ length (entries_from (position + 1) hs was) = fewer-entries was now slots each hs (position + 1) in
    let below : length (entries_below position (now h).at (was h).slots) ≤ length (entries_below position (was h).at (was h).slots) = fewer-below position (was h).at (now h).at (each h) (was h).slots in
    let here : length (entries_of position (now h)) ≤ length (entries_of position (was h)) = subst (λ n. length (entries_below position (now h).at n) ≤ length (entries_of position (was h))) (sym (slots h)) below in
    let a : length (entries_of position (now h) ++ entries_from (position + 1) hs now) ≡ length (entries_of position (now h)) + length (entries_from (position + 1) hs now) = length-append (entries_of position (now h)) (entries_from (position + 1) hs now) in
    let b : length (entries_of position (was h) ++ entries_from (position + 1) hs was) ≡ length (entries_of position (was h)) + length (entries_from (position + 1) hs was) = length-append (entries_of position (was h)) (entries_from (position + 1) hs was) in
    omega (arith, rest, here, a, b)

-- slots of a module that are freed leave its labels in slots in use
free-in_use : (slots : List ℕ) (was : Standing) → ((k : ℕ) (l : Label) → was.labels.at k ≡ Some l → was.used k ≡ true) → (k : ℕ) (l : Label) → (with_free slots was).labels.at k ≡ Some l → (with_free slots was).used k ≡ true
free-in_use slots was in_use k l at = by (is_among slots k) at
  where
    by : (b : Bool) → cond b None (was.labels.at k) ≡ Some l → (not b && was.used k) ≡ true
    by true e = absurd (none e)
      where
        none : None ≡ Some l → ⊥
        none f = cc
    by false e = in_use k l e

-- a fact of each module stays, where it does of the one at a seat
stays-at : (fact : LoadedModule → Type 0) (before after : List LoadedModule) (seat : ℕ) → IsChangedAt before after seat → All fact before → ((d : LoadedModule) → fact (get_or before seat d) → fact (get_or after seat d)) → All fact after
stays-at fact before after seat changed all here = λ k d lt.
    let k_lt : k < length before = subst (λ n. k < n) changed.each lt in
    elim (cases_eq k seat) [
      | inl same ↦ subst (λ j. fact (get_or after j d)) (sym same) (here d (subst (λ j. fact (get_or before j d)) same (all k d k_lt)))
      | inr differ ↦ subst fact (sym (changed.others k d differ)) (all k d k_lt)
    ]

module _ (ms : List LoadedModule) (rs : List RegionLabels) (seat : ℕ) (lt : seat < length ms) (together : IsTogether ms rs) where
  -- the slots that pass a test can be freed
  pub can-free-at : (x : LoadedModule) (test : Label → Bool) → ((d : LoadedModule) → IsReadyArea (get_or ms seat d).area) → (slots : List ℕ) (lost : List SlotLabel) (y : LoadedModule)
      → slots ≡ unwanted_slots test (get_or ms seat x) → lost ≡ slot_labels (module_in (get_or ms seat y)) slots → (d : LoadedModule) → CanFree (get_or ms seat d) slots lost
  can-free-at x test ready slots lost y same labels d =
      let here : LoadedModule = get_or ms seat x in
      let here_lost : slot_labels (module_in here) (unwanted_slots test here) ≡ lost = (λ i. slot_labels (module_in (get_or-any ms seat lt x y i)) (sym same i)) ∙ sym labels in
      subst (λ (m : LoadedModule). CanFree m slots lost) (get_or-any ms seat lt x d)
      (subst (λ (ls : List SlotLabel). CanFree here slots ls) here_lost
      (subst (λ ss. CanFree here ss (slot_labels (module_in here) (unwanted_slots test here))) (sym same)
      (can-free here (together.in_use seat x lt) test (ready x) (together.own seat x lt))))

  module _ (slots : List ℕ) (now : List LoadedModule) (freed : IsFreedAt ms now seat slots) where
    pub others-stay : ChangesOnly (dimm_at ms seat) ms now
    others-stay = record {
      each = freed.changed.each;
      others = λ place d differ. elim (cases_eq place seat) [
        | inl e ↦ absurd (differ (ap (λ k. (get_or ms k d).dimm) e ∙ sym (dimm-at ms seat d lt)))
        | inr other ↦ freed.changed.others place d other
      ];
    }

    still_used : (d : LoadedModule) → HasLabelsInUse (get_or ms seat d) → HasLabelsInUse (get_or now seat d)
    still_used d in_use k l at = subst (λ (s : Standing). s.used k ≡ true) (sym (freed.standing d)) (free-in_use slots (standing_in (get_or ms seat d)) in_use k l (sym (ap (λ (s : Standing). s.labels.at k) (freed.standing d)) ∙ at))

    module _ (room : RegionLabels → ℕ) (regions : List RegionLabels) (kept : AllZip (KeepsRegion room) rs regions) (over : All (IsOver now) regions) where
      pub stays-together : StaysTogether ms rs now regions
      stays-together = record {
        dimms = handles-same ms now seat freed.changed;
        sizes = same-map size_in ms now seat freed.changed freed.size no_module None;
        slots = same-map slots_in ms now seat freed.changed (λ d. ap (λ (s : Standing). s.labels.slots) (freed.standing d)) no_module 0;
        same_regions = same-regions room rs regions kept;
        together = record {
          once = once-after ms now seat freed.changed together.once;
          own = stays-at IsOwn ms now seat freed.changed together.own (λ d own. freed.own d);
          in_use = stays-at HasLabelsInUse ms now seat freed.changed together.in_use still_used;
          disjoint = subst (λ (qs : List Region). IsDisjoint (with_regions qs)) (sym (same-regions room rs regions kept)) together.disjoint;
          over = over;
        };
      }

      same-length : length rs ≡ length regions
      same-length = sym (length-map rs region_in) ∙ ap length (sym (same-regions room rs regions kept)) ∙ length-map regions region_in

      -- the indexes have no more entries than before
      pub no-more-entries : labels_in now ≡ without_slots_at (dimm_at ms seat) slots (labels_in ms) → ((r : RegionLabels) → r.index.room ≤ room r) → (place : ℕ) (d : RegionLabels) → place < length rs
          → HasNoMoreEntries (get_or rs place d) (get_or regions place d)
      no-more-entries labels grows place d p_lt =
          let p_now : place < length regions = subst (λ n. place < n) same-length p_lt in
          let old : RegionLabels = get_or rs place d in
          let new : RegionLabels = get_or regions place d in
          let keeps : KeepsRegion room old new = AllZip-get_or (KeepsRegion room) rs regions place d d kept p_lt in
          let left : Labels = without_slots_at (dimm_at ms seat) slots (labels_in ms) in
          let before : length old.index.entries ≡ length (live_entries (handles old.region) (labels_in ms)) = length_permutation _ _ (together.over place d p_lt).index.live in
          let after : length new.index.entries ≡ length (live_entries (handles old.region) left) = length_permutation _ _ (over place d p_now).index.live ∙ (λ i. length (live_entries (handles (keeps.region i)) (labels i))) in
          let less : length (live_entries (handles old.region) left) ≤ length (live_entries (handles old.region) (labels_in ms)) =
          fewer-entries (labels_in ms) left (same-part (labels_in ms) (dimm_at ms seat) (is_among slots) (λ (N : Module). N.slots) refl) gone-or-same (handles old.region) 0 in
          let room_is : new.index.room ≡ room old = keeps.room_is in
          let grown : old.index.room ≤ room old = grows old in
          record { region = keeps.region; entries = omega (arith, before, after, less); room = omega (arith, room_is, grown) }
        where
          by : (b : Bool) (o : Option Label) → (cond b None o ≡ o) ⊎ (cond b None o ≡ None)
          by true o = inr refl
          by false o = inl refl

          gone-or-same : (h k : ℕ) → ((without_slots_at (dimm_at ms seat) slots (labels_in ms) h).at k ≡ (labels_in ms h).at k) ⊎ ((without_slots_at (dimm_at ms seat) slots (labels_in ms) h).at k ≡ None)
          gone-or-same h k = elim (cases_eq h (dimm_at ms seat)) [
            | inl e ↦ subst (λ j. ((without_slots_at (dimm_at ms seat) slots (labels_in ms) j).at k ≡ (labels_in ms j).at k) ⊎ ((without_slots_at (dimm_at ms seat) slots (labels_in ms) j).at k ≡ None)) (sym e) there
            | inr differ ↦ inl (ap (λ (N : Module). N.at k) (rest-elsewhere (labels_in ms) (dimm_at ms seat) (is_among slots) h differ))
          ]
            where
              there : ((without_slots_at (dimm_at ms seat) slots (labels_in ms) (dimm_at ms seat)).at k ≡ (labels_in ms (dimm_at ms seat)).at k) ⊎ ((without_slots_at (dimm_at ms seat) slots (labels_in ms) (dimm_at ms seat)).at k ≡ None)
              there = subst (λ (o : Option Label). (o ≡ (labels_in ms (dimm_at ms seat)).at k) ⊎ (o ≡ None)) (sym (at-there (labels_in ms) (dimm_at ms seat) (is_among slots) k)) (by (is_among slots k) ((labels_in ms (dimm_at ms seat)).at k))
