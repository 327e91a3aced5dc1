-- The area of a module is initialised.
use Rattle.std.proofs.Common.{◌≡◌, ◌≢◌, ◌⊎◌, inl, inr, ℕ, Bool, cond, eqb, false, true, List, [], ◌∷◌, Option, Some, None, Result, Ok, Err, find, map, not, refl, sym, ap, subst, ◌∙◌, ◌||◌}
use Rattle.std.specs.Prelude.{◌==◌, IfOk, IfErr, OnErr, OnOk, IsSome, if◌then◌else◌}
use Rattle.std.specs.FinMap.{get}
use Rattle.std.specs.List.{All, list_any}
use Rattle.std.specs.Option.{option_map, option_or}
use Rattle.view_types.specs.declared.refusal.Refusal.{Refusal}
use Rattle.view_types.specs.declared.refusal.Refusal.TheVariants.{UnknownDimm}
use Rattle.view_types.specs.declared.reply.Reply.TheVariants.{Initialised, Refused}
use Rattle.view_types.specs.declared.states.AreaState.{AreaState}
use Rattle.view_types.specs.declared.states.AreaState.TheVariants as states
use Rattle.view_types.specs.Replies.{WhereRefused, is_change}
use Rattle.rig_trait.specs.Areas.{Areas}
use Rattle.rig_trait.specs.Frames.{FailsAt, IsTold, LeavesOnly, Reads, WritesTo}
use Rattle.rig_trait.specs.declared.shown.Shown.{Ghosts}
use Rattle.rig_trait.proofs.Frames.{no_call}
use Rattle.rig_trait.proofs.Moments.{weakened}
use Rattle.label_codec.specs.declared.kind.AreaKind.{AreaKind}
use Rattle.label_codec.specs.declared.kind.AreaKind.TheVariants as kind
use Rattle.label_codec.specs.ModuleLabels.{Labels, Module, is_ready}
use Rattle.label_area.specs.Flips.{is_among}
use Rattle.label_area.specs.Inits as area
use Rattle.label_area.specs.Inits.{LeftByInit}
use Rattle.label_area.specs.Modules.{area_kind, module_at}
use Rattle.region_map.specs.declared.platform.Platform.{Platform}
use Rattle.region_map.specs.declared.platform.Region.{Region}
use Rattle.label_table.specs.Tables.{State, state}
use Rattle.region_labels.specs.declared.modules.LoadedModule.{LoadedModule}
use Rattle.region_labels.specs.Fates.{with_regions}
use Rattle.region_labels.specs.Modules.{dimm_of, is_of, module_or_missing, size_in, without_labels}
use Rattle.region_labels.specs.Statuses.{unready_state}
use Rattle.module_flips.specs.Stops.{HasAreaCause, LeftIn}
use Rattle.module_flips.specs.Stored.{StandsIn, stored_labels}
use Rattle.module_flips.proofs.Standing.{stands}
use Rattle.module_flips.proofs.Turned.{no_flip}
use Rattle.label_sets.specs.declared.init.SetInitFault.{SetInitFault}
use Rattle.label_sets.specs.declared.init.SetInitFault.TheVariants as inits
use Rattle.label_sets.specs.Init.{NamesModule, Refuses, UnlessFailed, initialised_state, is_init_failed, slots_at, state_at}
use Rattle.label_sets.specs.Sets.{StoredSets, labels_in, platform_in, state_in}
use Rattle.label_sets.specs.Views.{area_state}
use Rattle.table_steps.specs.Changes.{IsDoneBy}
use Rattle.table_steps.specs.Initialise.{Initialises, IsInitialised, already_ready, cannot_initialise, initialise_refusals, initialised}
use Rattle.table_steps.specs.Refusals.{first_of, refused_if}
use Rattle.namespace_commands.specs.declared.creation.ChangeFault.{ChangeFault}
use Rattle.namespace_commands.specs.Lists.{IsStateOf}
use Rattle.namespace_commands.proofs.RecoveredSpaces.{state-there}
use Rattle.label_table.proofs.ListTests.{eq_same}
use Rattle.namespace_passes.proofs.Records.{no_write, one_write_more}
use Rattle.label_area.proofs.Initialising.{looking}
use Rattle.namespace_commands.specs.Changes.{IsBeforeOrBehind}
use Rattle.namespace_commands.specs.Create.{WhereMemory, area_failed}
use Rattle.namespace_commands.specs.Releases.{IsAreaOf}
use Rattle.namespace_commands.specs.Initialising.{InitialisesAnyhow, IsInit, Stand, init_answer, init_refusal}

-- the labels of the areas
pub standing : (P : Platform) (sets : StoredSets) → IsStateOf P sets → (areas : Areas) → All (StandsIn areas) sets.modules → labels_in sets ≡ stored_labels P.modules areas
standing P sets in_P areas all = stands sets.modules areas all ∙ ap (λ (hs : List ℕ). stored_labels hs areas) in_P.modules

-- the areas are known where the platform has the module
standing-if-known : {A : Type 0} (b : Bool) → b ≡ true → A ⊎ (b ≡ false) → A
standing-if-known b known (inl stand) = stand
standing-if-known b known (inr absent) = absurd (let differ : true ≡ false = sym known ∙ absent in cc)

-- a module of the platform is kept
found-in : (xs : List LoadedModule) (dimm : ℕ) → list_any (λ handle. handle == dimm) (map dimm_of xs) ≡ true → IsSome (find (is_of dimm) xs)
found-in [] dimm is = absurd (let differ : false ≡ true = is in cc)
found-in (x ∷ xs) dimm is = by (found-in xs dimm) (eqb x.dimm dimm) is
  where
    by : (list_any (λ handle. handle == dimm) (map dimm_of xs) ≡ true → IsSome (find (is_of dimm) xs)) → (b : Bool) → (b || list_any (λ handle. handle == dimm) (map dimm_of xs)) ≡ true
        → IsSome (cond b (Some x) (find (is_of dimm) xs))
    by rest true t = refl
    by rest false t = rest t

pub found : (P : Platform) (sets : StoredSets) → IsStateOf P sets → (dimm : ℕ) → list_any (λ handle. handle == dimm) P.modules ≡ true → IsSome (find (is_of dimm) sets.modules)
found P sets in_P dimm known = found-in sets.modules dimm (ap (list_any (λ handle. handle == dimm)) in_P.modules ∙ known)

-- the refusals behind that of an unknown module
abbrev pub by_kind : ℕ → AreaKind → Option Refusal
by_kind dimm k = option_or (cannot_initialise dimm k) (option_or (already_ready dimm k) None)

refused-kind : (dimm : ℕ) (k : AreaKind) (slots spare : ℕ) → (if is_ready k then states.Ready slots spare else unready_state k) ≢ states.Uninit
    → by_kind dimm k ≡ Some (init_refusal dimm (if is_ready k then states.Ready slots spare else unready_state k))
refused-kind dimm kind.Missing slots spare other = refl
refused-kind dimm kind.WrongSize slots spare other = refl
refused-kind dimm kind.Uninit slots spare other = absurd (other refl)
refused-kind dimm kind.Foreign slots spare other = refl
refused-kind dimm kind.Ready slots spare other = refl

uninit-kind : (k : AreaKind) (slots spare : ℕ) → (if is_ready k then states.Ready slots spare else unready_state k) ≡ states.Uninit → k ≡ kind.Uninit
uninit-kind kind.Missing slots spare is = absurd cc
uninit-kind kind.WrongSize slots spare is = absurd cc
uninit-kind kind.Uninit slots spare is = refl
uninit-kind kind.Foreign slots spare is = absurd cc
uninit-kind kind.Ready slots spare is = absurd cc

-- by the state that is kept of a module
kept-refusal : (P : Platform) (L : Labels) (dimm : ℕ) (o : Option LoadedModule) (told : AreaState) → option_map (area_state P L) o ≡ Some told → told ≢ states.Uninit
    → by_kind dimm (module_or_missing o).kind ≡ Some (init_refusal dimm told)
kept-refusal P L dimm None told is other = absurd cc
kept-refusal P L dimm (Some x) told is other =
    let same : area_state P L x ≡ told = cc in
    subst (λ (t : AreaState). by_kind dimm (module_or_missing (Some x)).kind ≡ Some (init_refusal dimm t)) same
    (refused-kind dimm (module_or_missing (Some x)).kind _ _ (λ e. other (sym same ∙ e)))

kept-uninit : (P : Platform) (L : Labels) (o : Option LoadedModule) → option_map (area_state P L) o ≡ Some states.Uninit → (module_or_missing o).kind ≡ kind.Uninit
kept-uninit P L None is = absurd cc
kept-uninit P L (Some x) is =
    let same : area_state P L x ≡ states.Uninit = cc in
    uninit-kind (module_or_missing (Some x)).kind _ _ same

module _ (P : Platform) (sets : StoredSets) (in_P : IsStateOf P sets) (dimm : ℕ) where
  abbrev pub L : Labels
  L = labels_in sets

  pub init-unknown : (b : Bool) → b ≡ list_any (λ handle. handle == dimm) P.modules → b ≡ false → (slots : ℕ) → Initialises P L dimm slots (Refused (UnknownDimm dimm)) (state P L)
  init-unknown b is not_there slots = subst (λ (known : Bool). IsDoneBy (option_or (refused_if (not known) (UnknownDimm dimm)) (by_kind dimm (L dimm).kind)) (state P L)
      (IsInitialised P L dimm slots) (Refused (UnknownDimm dimm)) (state P L)) (sym not_there ∙ is) (refl, refl)

  module _ (known : list_any (λ handle. handle == dimm) P.modules ≡ true) where
    refusals-are : first_of (initialise_refusals P L dimm) ≡ by_kind dimm (L dimm).kind
    refusals-are = ap (λ (b : Bool). option_or (refused_if (not b) (UnknownDimm dimm)) (by_kind dimm (L dimm).kind)) known

    pub init-refused : (told : AreaState) → state_at sets dimm ≡ Some told → told ≢ states.Uninit → (slots : ℕ) → Initialises P L dimm slots (Refused (init_refusal dimm told)) (state P L)
    init-refused told is other slots =
        subst (λ (o : Option Refusal). IsDoneBy o (state P L) (IsInitialised P L dimm slots) (Refused (init_refusal dimm told)) (state P L))
        (sym (refusals-are ∙ kept-refusal (platform_in sets) L dimm (find (is_of dimm) sets.modules) told is other)) (refl, refl)

    -- the state behind it
    pub after-is : initialised_state (platform_in sets) dimm (slots_at sets dimm) (state_in sets) ≡ initialised P dimm (slots_at sets dimm) (state P L)
    after-is = ap (λ (rs : List Region). initialised_state (with_regions rs) dimm (slots_at sets dimm) (state (with_regions rs) L)) in_P.regions

    none-refuses : (L dimm).kind ≡ kind.Uninit → first_of (initialise_refusals P L dimm) ≡ None
    none-refuses uninit = refusals-are ∙ ap (by_kind dimm) uninit

    pub init-done : (L dimm).kind ≡ kind.Uninit → (slots : ℕ) → slots ≡ slots_at sets dimm → (after : State) → after ≡ initialised P dimm (slots_at sets dimm) (state P L)
        → Initialises P L dimm (slots_at sets dimm) (Initialised dimm slots) after
    init-done uninit slots slots_is after is =
        subst (λ (o : Option Refusal). IsDoneBy o (state P L) (IsInitialised P L dimm (slots_at sets dimm)) (Initialised dimm slots) after)
        (sym (none-refuses uninit)) (ap (Initialised dimm) slots_is, is)

    pub kept-kind : state_at sets dimm ≡ Some states.Uninit → (L dimm).kind ≡ kind.Uninit
    kept-kind is = kept-uninit (platform_in sets) L (find (is_of dimm) sets.modules) is

    module _ {R : Type 0} (m : Ghosts R) (old new : R) (stand : Stand m old sets) where
      abbrev pub fits : Labels → Type 0
      fits = IsBeforeOrBehind P L (Initialises P L dimm (slots_at sets dimm))

      same-labels : (c : Areas) → c ≡ m.areas old → fits (stored_labels P.modules c)
      same-labels c same = subst fits (standing P sets in_P (m.areas old) stand.1 ∙ ap (stored_labels P.modules) (sym same)) (inl refl)

      either-fits : (L dimm).kind ≡ kind.Uninit → (M : Labels) → (state (platform_in sets) M ≡ state_in sets) ⊎ (state (platform_in sets) M ≡ initialised_state (platform_in sets) dimm (slots_at sets dimm) (state_in sets)) → fits M
      either-fits uninit M (inl same) = inl (ap (λ (s : State). s.table) (sym (state-there P sets in_P.regions M) ∙ same ∙ state-there P sets in_P.regions L))
      either-fits uninit M (inr is) = inr (record {
        reply = Initialised dimm (slots_at sets dimm);
        after = initialised P dimm (slots_at sets dimm) (state P L);
        done = init-done uninit (slots_at sets dimm) refl (initialised P dimm (slots_at sets dimm) (state P L)) refl;
        table_is = ap (λ (s : State). s.table) (sym (state-there P sets in_P.regions M) ∙ is ∙ after-is);
      })

      -- what a stop leaves
      pub init-left : LeavesOnly m old new (LeftIn (map dimm_of sets.modules) (m.said old) (λ labels. (state (platform_in sets) labels ≡ state_in sets)
          ⊎ (state (platform_in sets) labels ≡ initialised_state (platform_in sets) dimm (slots_at sets dimm) (state_in sets))))
          → LeavesOnly m old new (LeftByInit (m.areas old) (m.said old) dimm) → LeavesOnly m old new (LeftIn P.modules (m.said old) fits)
      init-left turn left = by (L dimm).kind refl
        where
          unwritten : area_kind (get (m.areas old) dimm) ≢ kind.Uninit → LeavesOnly m old new (LeftIn P.modules (m.said old) fits)
          unwritten other = weakened (LeftByInit (m.areas old) (m.said old) dimm) (LeftIn P.modules (m.said old) fits) (λ c is. record {
            said_is = is.said_is;
            labels = λ fair. same-labels c.areas (is.kept other);
          }) left

          -- the area is of the kind that is kept
          stored-kind : (L dimm).kind ≡ area_kind (get (m.areas old) dimm)
          stored-kind = ap (λ (M : Labels). (M dimm).kind) (standing P sets in_P (m.areas old) stand.1) ∙ ap (λ (b : Bool). (cond {A = Module} b (module_at (m.areas old) dimm) (without_labels kind.Missing)).kind) known

          by : (k : AreaKind) → (L dimm).kind ≡ k → LeavesOnly m old new (LeftIn P.modules (m.said old) fits)
          by kind.Uninit is = subst (λ (hs : List ℕ). LeavesOnly m old new (LeftIn hs (m.said old) fits)) in_P.modules
              (weakened (LeftIn (map dimm_of sets.modules) (m.said old) _) (LeftIn (map dimm_of sets.modules) (m.said old) fits) (λ c one. record {
                said_is = one.said_is;
                labels = λ fair. either-fits is _ (one.labels fair);
              }) turn)
          by kind.Missing is = unwritten (λ e. let same : kind.Missing ≡ kind.Uninit = sym is ∙ stored-kind ∙ e in absurd cc)
          by kind.WrongSize is = unwritten (λ e. let same : kind.WrongSize ≡ kind.Uninit = sym is ∙ stored-kind ∙ e in absurd cc)
          by kind.Foreign is = unwritten (λ e. let same : kind.Foreign ≡ kind.Uninit = sym is ∙ stored-kind ∙ e in absurd cc)
          by kind.Ready is = unwritten (λ e. let same : kind.Ready ≡ kind.Uninit = sym is ∙ stored-kind ∙ e in absurd cc)

-- What `Sets::init` promises.
pub record HasInit {R : Type 0} (m : Ghosts R) (dimm : ℕ) (sets : StoredSets) (old : R) (now : StoredSets) (new : R) (result : Result ℕ SetInitFault) : Type 0 where
  pub slots : IfOk result (λ slots. slots ≡ slots_at sets dimm)
  pub uninit : OnOk result (state_at sets dimm ≡ Some states.Uninit)
  pub state_is : OnOk result (state_in now ≡ initialised_state (platform_in sets) dimm (slots_at sets dimm) (state_in sets))
  pub kept : OnErr result (now ≡ sets)
  pub regions : now.regions ≡ sets.regions
  pub dimms : map dimm_of now.modules ≡ map dimm_of sets.modules
  pub sizes : map size_in now.modules ≡ map size_in sets.modules
  pub not_uninit : IfErr result (Refuses (λ told. told ≢ states.Uninit))
  pub refused : Stand m old sets → IfErr result (Refuses (λ told. state_at sets dimm ≡ Some told))
  pub stands : Stand m old sets → is_init_failed result ≡ false → All (StandsIn (m.areas new)) now.modules
  pub any_moment : Stand m old sets → LeavesOnly m old new (LeftIn (map dimm_of sets.modules) (m.said old) (λ labels. (state (platform_in sets) labels ≡ state_in sets)
      ⊎ (state (platform_in sets) labels ≡ initialised_state (platform_in sets) dimm (slots_at sets dimm) (state_in sets))))
  pub bytes : IsTold m old → OnOk result (m.areas new ≡ area.initialised dimm (m.areas old))
  pub area_left : IsTold m old → LeavesOnly m old new (LeftByInit (m.areas old) (m.said old) dimm)
  pub unwritten : IsTold m old → area_kind (get (m.areas old) dimm) ≢ kind.Uninit → m.areas new ≡ m.areas old
  pub writes_only : WritesTo dimm m old new
  pub reads_only : IfErr result (UnlessFailed (Reads m old new))
  pub cause : FailsAt dimm m old new (is_init_failed result)
  pub names : IfErr result (NamesModule dimm)

module _ {R : Type 0} (m : Ghosts R) (P : Platform) (sets : StoredSets) (in_P : IsStateOf P sets) (dimm : ℕ) (known : list_any (λ handle. handle == dimm) P.modules ≡ true) (old : R) (now : StoredSets) (new : R) where
  init-step : (result : Result ℕ SetInitFault) → HasInit m dimm sets old now new result
      → IfOk (init_answer dimm result) (λ reply. Stand m old sets ⊎ (list_any (λ handle. handle == dimm) P.modules ≡ false) → Initialises P (labels_in sets) dimm (slots_at sets dimm) reply (state P (labels_in now)))
  init-step (Ok slots) has = λ either.
      init-done P sets in_P dimm known (kept-kind P sets in_P dimm known has.uninit) slots has.slots (state P (labels_in now))
      (sym (state-there P now (has.regions ∙ in_P.regions) (labels_in now)) ∙ has.state_is ∙ after-is P sets in_P dimm known)
  init-step (Err (inits.Refused told)) has = λ either.
      let stand : Stand m old sets = standing-if-known (list_any (λ handle. handle == dimm) P.modules) known either in
      subst (λ (s : StoredSets). Initialises P (labels_in sets) dimm (slots_at sets dimm) (Refused (init_refusal dimm told)) (state P (labels_in s))) (sym has.kept)
      (init-refused P sets in_P dimm known told (has.refused stand) has.not_uninit (slots_at sets dimm))
  init-step (Err (inits.Failed failed)) has = tt
  init-step (Err inits.Memory) has = tt

  -- whatever the area holds
  init-anyhow : (result : Result ℕ SetInitFault) → HasInit m dimm sets old now new result
      → IfOk (init_answer dimm result) (λ reply. InitialisesAnyhow P (labels_in sets) dimm (slots_at sets dimm) reply (state P (labels_in now)))
  init-anyhow (Ok slots) has = inl (init-done P sets in_P dimm known (kept-kind P sets in_P dimm known has.uninit) slots has.slots (state P (labels_in now))
      (sym (state-there P now (has.regions ∙ in_P.regions) (labels_in now)) ∙ has.state_is ∙ after-is P sets in_P dimm known))
  init-anyhow (Err (inits.Refused told)) has = inr (record { known = known; found = told; other = has.not_uninit; reply_is = refl; kept = ap (λ (s : StoredSets). state P (labels_in s)) has.kept })
  init-anyhow (Err (inits.Failed failed)) has = tt
  init-anyhow (Err inits.Memory) has = tt

  init-stands : (result : Result ℕ SetInitFault) → HasInit m dimm sets old now new result → Stand m old sets → OnOk (init_answer dimm result) (All (StandsIn (m.areas new)) now.modules)
  init-stands (Ok slots) has stand = has.stands stand refl
  init-stands (Err (inits.Refused told)) has stand = has.stands stand refl
  init-stands (Err (inits.Failed failed)) has stand = tt
  init-stands (Err inits.Memory) has stand = tt

  init-kept : (result : Result ℕ SetInitFault) → HasInit m dimm sets old now new result → IfOk (init_answer dimm result) (WhereRefused (now ≡ sets))
  init-kept (Ok slots) has = tt
  init-kept (Err (inits.Refused told)) has = has.kept
  init-kept (Err (inits.Failed failed)) has = tt
  init-kept (Err inits.Memory) has = tt

  init-read : (result : Result ℕ SetInitFault) → HasInit m dimm sets old now new result → IfOk (init_answer dimm result) (WhereRefused (Reads m old new))
  init-read (Ok slots) has = tt
  init-read (Err (inits.Refused told)) has = has.reads_only
  init-read (Err (inits.Failed failed)) has = tt
  init-read (Err inits.Memory) has = tt

  init-memory : (result : Result ℕ SetInitFault) → HasInit m dimm sets old now new result → IfErr (init_answer dimm result) (WhereMemory (now ≡ sets))
  init-memory (Ok slots) has = tt
  init-memory (Err (inits.Refused told)) has = tt
  init-memory (Err (inits.Failed failed)) has = tt
  init-memory (Err inits.Memory) has = has.kept

  init-read-memory : (result : Result ℕ SetInitFault) → HasInit m dimm sets old now new result → IfErr (init_answer dimm result) (WhereMemory (Reads m old new))
  init-read-memory (Ok slots) has = tt
  init-read-memory (Err (inits.Refused told)) has = tt
  init-read-memory (Err (inits.Failed failed)) has = tt
  init-read-memory (Err inits.Memory) has = has.reads_only

  init-areas : (result : Result ℕ SetInitFault) → HasInit m dimm sets old now new result → IsTold m old
      → IfOk (init_answer dimm result) (λ reply. is_change reply ≡ true → m.areas new ≡ area.initialised dimm (m.areas old))
  init-areas (Ok slots) has told = λ change. has.bytes told
  init-areas (Err (inits.Refused why)) has told = λ change. absurd (let differ : false ≡ true = change in cc)
  init-areas (Err (inits.Failed failed)) has told = tt
  init-areas (Err inits.Memory) has told = tt

  init-cause : (result : Result ℕ SetInitFault) → HasInit m dimm sets old now new result → HasAreaCause (dimm ∷ []) m old new (area_failed (init_answer dimm result))
  init-cause (Ok slots) has = record { faults = has.cause.faults; failed_dimm = has.cause.failed_dimm }
  init-cause (Err (inits.Refused told)) has = record { faults = has.cause.faults; failed_dimm = has.cause.failed_dimm }
  init-cause (Err (inits.Failed failed)) has = record {
    fails = subst (λ h. FailsAt h m old new true) (sym has.names) has.cause;
    known = subst (λ h. is_among (dimm ∷ []) h ≡ true) (sym has.names) (ap (λ b. b || false) (eq_same dimm dimm refl));
  }
  init-cause (Err inits.Memory) has = record { faults = has.cause.faults; failed_dimm = has.cause.failed_dimm }

  init-among : (result : Result ℕ SetInitFault) → HasInit m dimm sets old now new result → IfErr (init_answer dimm result) (IsAreaOf P)
  init-among (Ok slots) has = tt
  init-among (Err (inits.Refused told)) has = tt
  init-among (Err (inits.Failed failed)) has = subst (λ h. list_any (λ handle. handle == h) P.modules ≡ true) (sym has.names) known
  init-among (Err inits.Memory) has = tt

  pub init-is-done : (result : Result ℕ SetInitFault) → HasInit m dimm sets old now new result → IsInit m P dimm sets old now new (init_answer dimm result)
  init-is-done result has = record {
    step = init-step result has;
    anyhow = init-anyhow result has;
    refused = init-kept result has;
    unwritten = init-read result has;
    memory = init-memory result has;
    unwritten_memory = init-read-memory result has;
    regions = has.regions;
    dimms = has.dimms;
    sizes = has.sizes;
    stands = init-stands result has;
    any_moment = λ stand. init-left P sets in_P dimm known m old new stand (has.any_moment stand) (has.area_left stand.0);
    area = λ told. record { written = init-areas result has told; kept = has.unwritten told };
    area_left = has.area_left;
    writes_among = one_write_more (dimm ∷ []) dimm (ap (λ b. b || false) (eq_same dimm dimm refl)) (no_write {m = m} (dimm ∷ []) old) has.writes_only;
    cause = init-cause result has;
    among = init-among result has;
  }

-- The platform does not have the module.
pub unknown-done : {R : Type 0} (m : Ghosts R) (P : Platform) (sets : StoredSets) → IsStateOf P sets → (dimm : ℕ) (rig : R) → list_any (λ handle. handle == dimm) P.modules ≡ false
    → IsInit m P dimm sets rig sets rig (Ok (Refused (UnknownDimm dimm)))
unknown-done m P sets in_P dimm rig not_there = record {
  step = λ either. init-unknown P sets in_P dimm (list_any (λ handle. handle == dimm) P.modules) refl not_there (slots_at sets dimm);
  anyhow = inl (init-unknown P sets in_P dimm (list_any (λ handle. handle == dimm) P.modules) refl not_there (slots_at sets dimm));
  refused = refl;
  unwritten = no_call m rig;
  memory = tt;
  unwritten_memory = tt;
  regions = refl;
  dimms = refl;
  sizes = refl;
  stands = λ stand. stand.1;
  any_moment = λ stand. no_flip {m = m} {old = rig} P.modules (IsBeforeOrBehind P (labels_in sets) (Initialises P (labels_in sets) dimm (slots_at sets dimm))) (labels_in sets)
      (standing P sets in_P (m.areas rig) stand.1) (inl refl);
  area = λ told. record { written = λ change. absurd (let differ : false ≡ true = change in cc); kept = λ other. refl };
  area_left = λ told. looking {m = m} dimm (no_call m rig);
  writes_among = no_write {m = m} (dimm ∷ []) rig;
  cause = record { faults = refl; failed_dimm = refl };
  among = tt;
}
