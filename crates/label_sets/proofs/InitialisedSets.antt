-- What is kept of all modules once the area of one is initialised.
use Rattle.std.proofs.Common.{◌≡◌, ◌⊎◌, inl, inr, ℕ, zero, suc, ◌+◌, ◌<◌, Bool, true, false, cond, eqb, ◌++◌, ◌∷◌, [], List, length, get_or, map, set, Option, Some, None, refl, sym, ap, subst, ◌∙◌, eq-eqb, eqb-true, arith}
use Rattle.std.specs.Prelude.{◌==◌, find, unwrap_or}
use Rattle.std.specs.FinMap.{get}
use Rattle.std.specs.List.{All}
use Rattle.std.specs.List.Sorted.{IsPermutation}
use Rattle.std.specs.Option.{option_map, option_map_or}
use Rattle.std.proofs.lemmas.Bool.{cases_eq, cond-false, cond-true, ne_eqb}
use Rattle.std.proofs.lemmas.List.{ext_get_or, get_or-map, get_or-set_other, get_or-set_same, get_or_default, length-map}
use Rattle.std.proofs.lemmas.List.Folds.{list_any_at}
use Rattle.std.proofs.Math.ListN.{length-set}
use Rattle.rig_trait.specs.declared.shown.Shown.{Ghosts}
use Rattle.rig_trait.specs.Areas.{Areas, OthersKept}
use Rattle.rig_trait.specs.Frames.{LeavesOnly}
use Rattle.rig_trait.specs.Records.{CrashRecord}
use Rattle.rig_trait.proofs.Moments.{weakened}
use Rattle.index_block.specs.declared.geometry.Geometry.{Geometry}
use Rattle.index_block.specs.Bitmap.{is_free_in}
use Rattle.index_block.specs.Geometry.{geometry_of}
use Rattle.label_codec.specs.declared.label.Label.{Label}
use Rattle.label_codec.specs.declared.kind.AreaKind.TheVariants as kind
use Rattle.label_codec.specs.ModuleChanges.{with_module}
use Rattle.label_codec.specs.ModuleLabels.{IsBounded, Labels, Module, is_ready}
use Rattle.label_area.specs.Blocks.{current_block}
use Rattle.label_area.specs.Flips.{LeftByFlip, Standing, standing_of}
use Rattle.label_area.specs.Inits.{IsVacant, LeftByInit, initialised, slots_of}
use Rattle.label_area.specs.LoadedAreas.{LoadedArea}
use Rattle.label_area.specs.Modules as stored
use Rattle.label_area.specs.Modules.{area_kind}
use Rattle.label_area.specs.Slots.{free_bits, is_in_use}
use Rattle.label_area.specs.VacantAreas.{IsVacantArea}
use Rattle.label_area.proofs.Vacant.{unused}
use Rattle.region_map.specs.declared.platform.Platform.{Platform}
use Rattle.label_table.specs.Belonging.{IsDisjoint}
use Rattle.label_table.specs.Settling.{IsInitialised}
use Rattle.label_table.specs.Spaces.{is_pending}
use Rattle.label_table.specs.Tables.{state}
use Rattle.label_table.proofs.Equations.{by_index-same}
use Rattle.label_table.proofs.Initialising.{init-pending, init-table}
use Rattle.uuid_index.specs.declared.entry.Entry.{Entry}
use Rattle.uuid_index.specs.Labels.{IsIndex, entries_below, entries_from, entries_of, entry_at}
use Rattle.region_labels.specs.declared.modules.LoadedModule.{LoadedModule}
use Rattle.region_labels.specs.declared.modules.ModuleArea.TheVariants.{Uninit, Ready}
use Rattle.region_labels.specs.declared.region.RegionLabels.{RegionLabels}
use Rattle.region_labels.specs.Modules.{EachOnce, dimm_of, is_of, labels_in, module_in, module_of, size_in, size_of_area, without_labels}
use Rattle.region_labels.specs.Regions.{IsOver, handles}
use Rattle.region_labels.specs.Changes.{IsChangedAt, dimm_at}
use Rattle.region_labels.proofs.ChangedModules.{changed-set, dimm-at, handles-same, labels-after, labels-at, once-after, over-after}
use Rattle.module_flips.specs.Flips.{HasLabelsInUse, IsOwn}
use Rattle.module_flips.specs.Stored.{StandsIn, StoredAs}
use Rattle.module_flips.specs.Stops.{IsOneOf, LeftIn}
use Rattle.module_flips.proofs.Freed.{stands-after}
use Rattle.module_flips.proofs.Standing.{stands}
use Rattle.module_flips.proofs.Stored.{no_block}
use Rattle.module_flips.proofs.Passes.{in-left}
use Rattle.module_flips.proofs.Turned.{one_flip}
use Rattle.view_types.specs.declared.states.AreaState.{AreaState}
use Rattle.label_sets.specs.declared.init.SetInitFault.{SetInitFault}
use Rattle.label_sets.specs.declared.init.SetInitFault.TheVariants.{Refused, Failed, Memory}
use Rattle.label_sets.specs.Init.{IsInitialisedTo, Refuses, UnlessFailed, is_failure, initialised_state, slots_by_size, vacant_module}

-- the module that stands at a place is found by its handle
pub find-own : (xs : List LoadedModule) (at : ℕ) (d : LoadedModule) → EachOnce xs → at < length xs → find (is_of (get_or xs at d).dimm) xs ≡ Some (get_or xs at d)
find-own [] at d once lt = absurd (omega arith)
find-own (x ∷ xs) zero d once lt = ap (λ b. cond b (Some x) (find (is_of x.dimm) xs)) (eq-eqb x.dimm x.dimm refl)
find-own (x ∷ xs) (suc at) d once lt = by (find-own xs at d rest (omega arith)) (eqb x.dimm (get_or xs at d).dimm) refl
  where
    rest : EachOnce xs
    rest = record { apart = λ i j e less below. once.apart (suc i) (suc j) e (omega arith) (omega arith) }

    by : find (is_of (get_or xs at d).dimm) xs ≡ Some (get_or xs at d) → (b : Bool) → eqb x.dimm (get_or xs at d).dimm ≡ b
        → cond b (Some x) (find (is_of (get_or xs at d).dimm) xs) ≡ Some (get_or xs at d)
    by found false e = found
    by found true e = absurd (once.apart 0 (suc at) d (omega arith) lt (eqb-true x.dimm (get_or xs at d).dimm e))

-- a module without labels has no entries
no-entries : (position : ℕ) (at : ℕ → Option Label) → ((k : ℕ) → at k ≡ None) → (n : ℕ) → entries_below position at n ≡ []
no-entries position at none zero = refl
no-entries position at none (suc n) = λ i. no-entries position at none n i ++ entry_at position n (none n i)

-- labels that differ in modules without labels alone have the same entries
same-entries : (was now : Labels) → ((h : ℕ) → (now h ≡ was h) ⊎ (((k : ℕ) → (now h).at k ≡ None) × ((k : ℕ) → (was h).at k ≡ None))) → (hs : List ℕ) (position : ℕ)
    → entries_from position hs now ≡ entries_from position hs was
same-entries was now each [] position = refl
same-entries was now each (h ∷ hs) position = λ i. here i ++ same-entries was now each hs (position + 1) i
  where
    here : entries_of position (now h) ≡ entries_of position (was h)
    here = elim (each h) [
      | inl e ↦ ap (entries_of position) e
      | inr none ↦ no-entries position (now h).at none.0 (now h).slots ∙ sym (no-entries position (was h).at none.1 (was h).slots)
    ]

-- labels of which one module has a Ready area now, as it had none before
module _ (dimm slots : ℕ) (was now : Labels) (init : IsInitialised dimm slots was now) where
  each-module : (h : ℕ) → (now h ≡ was h) ⊎ (((k : ℕ) → (now h).at k ≡ None) × ((k : ℕ) → (was h).at k ≡ None))
  each-module h = elim (cases_eq h dimm) [
    | inl e ↦ inr (λ k. ap (λ j. (now j).at k) e ∙ init.has_none k, λ k. ap (λ j. (was j).at k) e ∙ init.had_none k)
    | inr differ ↦ inl (init.others h differ)
  ]

  -- an index of the ones is an index of the others
  pub index-kept : (hs : List ℕ) (entries : List Entry) → IsIndex hs was entries → IsIndex hs now entries
  index-kept hs entries index = record {
    live = subst (λ es. IsPermutation es entries) (sym (same-entries was now each-module hs 0)) index.live;
    ordered = index.ordered;
  }

  -- and the state is settled
  pub settles : (P : Platform) → IsDisjoint P → IsBounded was → state P now ≡ initialised_state P dimm slots (state P was)
  settles P disjoint bounded = λ i. record { table = init-table P disjoint was now bounded dimm slots init i; pending = marks i }
    where
      marks : (state P now).pending ≡ (state P was).pending
      marks = λ i n v. by_index-same P false (is_pending now) (is_pending was) (λ r u in_P. init-pending P disjoint was now bounded dimm slots init r u) n v i

pub initialised-with : (dimm slots : ℕ) (L : Labels) → is_ready (L dimm).kind ≡ false → ((k : ℕ) → (L dimm).at k ≡ None) → IsInitialised dimm slots L (with_module dimm (vacant_module slots) L)
initialised-with dimm slots L unready none = record {
  others = λ other differ. cond-false (eqb other dimm) _ _ (ne_eqb other dimm differ);
  was_not_ready = unready;
  had_none = none;
  is_now = ap (λ (m : Module). m.kind) here;
  slots_are = ap (λ (m : Module). m.slots) here;
  has_none = λ k. ap (λ (m : Module). m.at k) here;
}
  where
    here : with_module dimm (vacant_module slots) L dimm ≡ vacant_module slots
    here = cond-true (eqb dimm dimm) _ _ (eq-eqb dimm dimm refl)

-- what an area that is Uninit stands for
uninit-standing : (o : Option (List ℕ)) → area_kind o ≡ kind.Uninit → standing_of o ≡ record { labels = without_labels kind.Uninit; used = λ slot. false }
uninit-standing None is = absurd cc
uninit-standing (Some bytes) is =
    let none : current_block (Some bytes) ≡ None = no_block bytes (λ e. ready-uninit (sym e ∙ is)) in
    λ i. record {
      labels = record { kind = is i; slots = stored.slots_by (none i); at = stored.live_by (none i) bytes };
      used = λ slot. option_map_or (λ c. is_in_use (free_bits c bytes) c.geometry.slots slot) (none i) false;
    }
  where
    ready-uninit : kind.Ready ≡ kind.Uninit → ⊥
    ready-uninit e = cc

-- and one without labels
vacant-standing : (o : Option (List ℕ)) (slots : ℕ) → IsVacant o slots → standing_of o ≡ record { labels = vacant_module slots; used = λ slot. false }
vacant-standing o slots vacant = λ i. record { labels = vacant.module_is i; used = λ slot. unused-slot slot i }
  where
    count : vacant.current.geometry.slots ≡ slots
    count = ap stored.slots_by (sym vacant.current_is) ∙ ap (λ (m : Module). m.slots) vacant.module_is

    unused-slot : (slot : ℕ) → (standing_of o).used slot ≡ false
    unused-slot slot =
        ap (λ current. option_map_or (λ c. is_in_use (free_bits c (unwrap_or o [])) c.geometry.slots slot) current false) vacant.current_is
        ∙ unused (is_free_in (free_bits vacant.current (unwrap_or o [])) slot) vacant.current.geometry.slots slot (λ below. vacant.free slot (subst (λ n. slot < n) count below))

-- the slots of an area by its size
slots-sized : (o : Option (List ℕ)) (size : ℕ) (g : Geometry) → option_map length o ≡ Some size → geometry_of size 256 ≡ Some g → slots_of o ≡ g.slots
slots-sized None size g sized found = absurd cc
slots-sized (Some bytes) size g sized found =
    let long : length bytes ≡ size = some-same (length bytes) size sized in
    ap (λ layout. option_map_or (λ (h : Geometry). h.slots) layout 0) (ap (λ (n : ℕ). geometry_of n 256) long ∙ found)
  where
    some-same : (a b : ℕ) → Some a ≡ Some b → a ≡ b
    some-same a b e = cc

pub slots-by : (size : ℕ) (g : Geometry) → geometry_of size 256 ≡ Some g → g.slots ≡ slots_by_size (Some size)
slots-by size g found = sym (ap (λ layout. option_map_or (λ (h : Geometry). h.slots) layout 0) found)

-- a module that is written back
pub restored : (ms : List LoadedModule) (seat : ℕ) (a b : LoadedModule) → seat < length ms → ((d : LoadedModule) → get_or ms seat d ≡ b) → set (set ms seat a) seat b ≡ ms
restored ms seat a b lt is =
    let long : length (set (set ms seat a) seat b) ≡ length ms = length-set (set ms seat a) seat b ∙ length-set ms seat a in
    let lt_set : seat < length (set ms seat a) = subst (λ n. seat < n) (sym (length-set ms seat a)) lt in
    ext_get_or b (set (set ms seat a) seat b) ms long (λ k k_lt. elim (cases_eq k seat) [
      | inl e ↦ subst (λ j. get_or (set (set ms seat a) seat b) j b ≡ get_or ms j b) (sym e) (get_or-set_same (set ms seat a) seat b b lt_set ∙ sym (is b))
      | inr differ ↦ get_or-set_other (set ms seat a) seat k b b differ ∙ get_or-set_other ms seat k a b differ
    ])

-- what follows of the state that a refusal tells
pub refused-so : (f : SetInitFault) (P Q : AreaState → Type 0) → ((s : AreaState) → P s → Q s) → Refuses P f → Refuses Q f
refused-so (Refused s) P Q so is = so s is
refused-so (Failed dimm) P Q so is = tt
refused-so Memory P Q so is = tt

pub unfailed : (f : SetInitFault) (P : Type 0) → UnlessFailed P f → is_failure f ≡ false → P
unfailed (Refused s) P is e = is
unfailed (Failed dimm) P is e = absurd cc
unfailed Memory P is e = is

-- the area of the module at a seat was Uninit, and is vacant now
module _ (ms : List LoadedModule) (seat dimm size : ℕ) (area : LoadedArea) (lt : seat < length ms) (named : (d : LoadedModule) → (get_or ms seat d).dimm ≡ dimm)
    (uninit : (d : LoadedModule) → (get_or ms seat d).area ≡ Uninit size) (vacant : IsVacantArea dimm size area) (once : EachOnce ms) where
  abbrev pub new : LoadedModule
  new = record { dimm = dimm; area = Ready area }

  abbrev pub now : List LoadedModule
  now = set ms seat new

  changed : IsChangedAt ms now seat
  changed = changed-set ms seat new lt (λ d. sym (named d))

  handle : dimm_at ms seat ≡ dimm
  handle = dimm-at ms seat new lt ∙ named new

  module-was : labels_in ms dimm ≡ without_labels kind.Uninit
  module-was = ap (labels_in ms) (sym handle) ∙ labels-at ms seat new once lt ∙ ap module_of (uninit new)

  pub was-unready : is_ready (labels_in ms dimm).kind ≡ false
  was-unready = ap (λ (m : Module). is_ready m.kind) module-was

  pub had-none : (k : ℕ) → (labels_in ms dimm).at k ≡ None
  had-none k = ap (λ (m : Module). m.at k) module-was

  module-now : module_in new ≡ vacant_module area.geometry.slots
  module-now = λ i. record { kind = kind.Ready; slots = area.geometry.slots; at = λ slot. vacant.no_label slot i }

  labels-now : labels_in now ≡ with_module dimm (vacant_module area.geometry.slots) (labels_in ms)
  labels-now = labels-after ms now seat new once changed ∙ (λ i. with_module (handle i) (here i) (labels_in ms))
    where
      here : module_in (get_or now seat new) ≡ vacant_module area.geometry.slots
      here = ap module_in (get_or-set_same ms seat new new lt) ∙ module-now

  pub initialised-labels : IsInitialised dimm area.geometry.slots (labels_in ms) (labels_in now)
  initialised-labels = subst (IsInitialised dimm area.geometry.slots (labels_in ms)) (sym labels-now) (initialised-with dimm area.geometry.slots (labels_in ms) was-unready had-none)

  each-now : (P : LoadedModule → Type 0) → All P ms → P new → All P now
  each-now P all here k d k_lt = elim (cases_eq k seat) [
    | inl e ↦ subst (λ j. P (get_or now j d)) (sym e) (subst P (sym (get_or-set_same ms seat new d lt)) here)
    | inr differ ↦ subst P (sym (get_or-set_other ms seat k new d differ)) (all k d (subst (λ n. k < n) (length-set ms seat new) k_lt))
  ]

  size-new : size_in new ≡ Some size
  size-new = ap Some vacant.size_is

  sizes-same : map size_in now ≡ map size_in ms
  sizes-same = ext_get_or None (map size_in now) (map size_in ms) (length-map now size_in ∙ length-set ms seat new ∙ sym (length-map ms size_in)) (λ k k_lt.
      let k_now : k < length now = subst (λ n. k < n) (length-map now size_in) k_lt in
      let k_ms : k < length ms = subst (λ n. k < n) (length-set ms seat new) k_now in
      get_or-map size_in now k new None k_now ∙ elim (cases_eq k seat) [
        | inl e ↦ ap (λ j. size_in (get_or now j new)) e ∙ ap size_in (get_or-set_same ms seat new new lt) ∙ size-new ∙ sym (ap size_of_area (uninit new)) ∙ ap (λ j. size_in (get_or ms j new)) (sym e)
        | inr differ ↦ ap size_in (get_or-set_other ms seat k new new differ)
      ] ∙ sym (get_or-map size_in ms k new None k_ms))

  in_use-new : HasLabelsInUse new
  in_use-new slot label at = absurd (none-some (sym (vacant.no_label slot) ∙ at))
    where
      none-some : None ≡ Some label → ⊥
      none-some e = cc

  pub over-now : (rs : List RegionLabels) → All (IsOver ms) rs → All (IsOver now) rs
  over-now rs over k d k_lt =
      let kept : RegionLabels = get_or rs k d in
      let was = over k d k_lt in
      over-after ms now seat changed kept kept was refl refl (index-kept dimm area.geometry.slots (labels_in ms) (labels_in now) initialised-labels (handles kept.region) kept.index.entries was.index)

  pub initialised-to : (rs : List RegionLabels) → All IsOwn ms → All HasLabelsInUse ms → All (IsOver ms) rs → IsInitialisedTo ms now rs dimm area.geometry.slots
  initialised-to rs own in_use over = record {
    others = record {
      each = length-set ms seat new;
      others = λ place d differ. elim (cases_eq place seat) [
        | inl e ↦ absurd (differ (ap (λ k. (get_or ms k d).dimm) e ∙ named d))
        | inr other ↦ get_or-set_other ms seat place new d other
      ];
    };
    dimms = handles-same ms now seat changed;
    sizes = sizes-same;
    labels = initialised-labels;
    once = once-after ms now seat changed once;
    own = each-now IsOwn own vacant.dimm_is;
    in_use = each-now HasLabelsInUse in_use in_use-new;
    over = over-now rs over;
  }

  module _ (areas : Areas) (all : All (StandsIn areas) ms) where
    stored-here : StoredAs areas dimm (Uninit size)
    stored-here = subst (λ h. StoredAs areas h (Uninit size)) (named new) (subst (StoredAs areas (get_or ms seat new).dimm) (uninit new) (all seat new lt))

    pub was-uninit : area_kind (get areas dimm) ≡ kind.Uninit
    was-uninit = stored-here.0

    slots-here : slots_of (get areas dimm) ≡ area.geometry.slots
    slots-here = slots-sized (get areas dimm) size area.geometry stored-here.1 vacant.geometry_is

    -- the modules stand in the areas then
    pub stands-now : OthersKept dimm areas (initialised dimm areas) → All (StandsIn (initialised dimm areas)) now
    stands-now others =
        stands-after ms seat lt once (get_or ms seat new) new (get_or_default ms seat new (get_or ms seat new) lt) (sym (named (get_or ms seat new))) areas (initialised dimm areas)
        (subst (λ h. OthersKept h areas (initialised dimm areas)) (sym handle) others) all (vacant.dimm_is, vacant.shown areas was-uninit stored-here.1)

    abbrev pub after : Standing
    after = record { labels = vacant_module area.geometry.slots; used = λ slot. false }

    to-flip : (said : List ℕ) (c : CrashRecord) → LeftByInit areas said dimm c → LeftByFlip areas said dimm after c
    to-flip said c left = record {
      said_is = left.said_is;
      others = left.others;
      flip = λ fair. elim (left.ready fair was-uninit) [
        | inl still ↦ inl (uninit-standing (get c.areas dimm) still ∙ sym (uninit-standing (get areas dimm) was-uninit))
        | inr done ↦ inr (vacant-standing (get c.areas dimm) area.geometry.slots (subst (IsVacant (get c.areas dimm)) slots-here done))
      ];
    }

  -- what a stop leaves
  pub init-left : {R : Type 0} (m : Ghosts R) (old new : R) → All (StandsIn (m.areas old)) ms → LeavesOnly m old new (LeftByInit (m.areas old) (m.said old) dimm)
      → LeavesOnly m old new (LeftIn (map dimm_of ms) (m.said old) (IsOneOf (labels_in ms) (with_module dimm (vacant_module area.geometry.slots) (labels_in ms))))
  init-left m old later all turn = in-left (one_flip (map dimm_of ms) (IsOneOf (labels_in ms) (with_module dimm (vacant_module area.geometry.slots) (labels_in ms))) dimm (after (m.areas old) all) (labels_in ms)
      (stands ms (m.areas old) all)
      (list_any_at (λ h. h == dimm) (map dimm_of ms) seat 0 (subst (λ n. seat < n) (sym (length-map ms dimm_of)) lt) (eq-eqb (get_or (map dimm_of ms) seat 0) dimm handle))
      (weakened (LeftByInit (m.areas old) (m.said old) dimm) (LeftByFlip (m.areas old) (m.said old) dimm (after (m.areas old) all)) (to-flip (m.areas old) all (m.said old)) turn)
      (inl refl) (inr refl))
