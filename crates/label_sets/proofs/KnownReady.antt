-- A region that is known to be Ready stays so where the table stays, or loses a namespace.
use Rattle.std.proofs.Common.{◌≡◌, inl, inr, ℕ, List, Option, Some, None, map, refl, sym, ap, subst, ◌∙◌}
use Rattle.std.specs.Option.{option_and_then}
use Rattle.std.specs.Prelude.{◌==◌, IfSome, slice_index_or}
use Rattle.std.specs.List.{Contains}
use Rattle.view_types.specs.declared.states.Status.TheVariants as statuses
use Rattle.region_map.specs.declared.platform.Region.{Region}
use Rattle.region_map.specs.Platforms.{region_at}
use Rattle.label_table.specs.Belonging.{IsDisjoint}
use Rattle.label_table.specs.Statuses.{AreaNotReady, Clash, RegionReady, RegionStatus, Unusable, status}
use Rattle.label_table.specs.Tables.{ChangesAt, State, state, table, without_namespace}
use Rattle.label_table.proofs.ListTests.{Contains-get_or, both, eq_same, eq_true, never, some_is}
use Rattle.label_table.proofs.StatusLaws.{ready-without, status-elsewhere, status-kept}
use Rattle.region_labels.specs.declared.modules.LoadedModule.{LoadedModule}
use Rattle.region_labels.specs.declared.region.RegionLabels.{RegionLabels}
use Rattle.region_labels.specs.Fates.{platform_of, region_in}
use Rattle.region_labels.specs.Modules.{labels_in}
use Rattle.region_labels.specs.Statuses.{shown_status}
use Rattle.namespace_passes.specs.Dropping.{IsBeforeOrWithout}
use Rattle.label_sets.specs.declared.sets.Sets.TheInside.{Inside}
use Rattle.label_sets.specs.Healing.{CanHealIn}
use Rattle.label_sets.specs.Kept.{IsKnownReady, IsReadyIn, shown}
use Rattle.label_sets.specs.Lookups.{in_region}
use Rattle.label_sets.specs.Sets.{StoredSets}
use Rattle.label_sets.specs.Sets as sets
use Rattle.label_sets.specs.Staging.{OfRegion}
use Rattle.label_sets.specs.Views.{IsPlaceOf}
use Rattle.label_sets.proofs.FreeRoom.{element}

module _ (ms : List LoadedModule) (rs : List RegionLabels) (disjoint : IsDisjoint (platform_of rs)) (now : List LoadedModule) (regions_now : List RegionLabels) (same_regions : map region_in regions_now ≡ map region_in rs) where
  pub ready-kept : (ready : Option ℕ) → IsKnownReady ms rs ready → table (platform_of rs) (labels_in now) ≡ table (platform_of rs) (labels_in ms) → IsKnownReady now regions_now ready
  ready-kept None known same = tt
  ready-kept (Some place) known same =
      subst (λ (qs : List Region). IsReadyIn (labels_in now) qs place) (sym same_regions)
      (known.0, λ d. status-kept (platform_of rs) disjoint (labels_in ms) (labels_in now) same (slice_index_or (map region_in rs) place d) (Contains-get_or (map region_in rs) place d known.0) ∙ known.1 d)

  -- A region that loses a namespace stays Ready, and the others have their status.
  module _ (r : Region) (in_P : Contains (map region_in rs) r) (u : List ℕ) where
    abbrev IsGone : Type 0
    IsGone = state (platform_of rs) (labels_in now) ≡ without_namespace r u (state (platform_of rs) (labels_in ms))

    gone-changes : IsGone → ChangesAt (platform_of rs) r u None (labels_in ms) (labels_in now)
    gone-changes gone = record {
      disjoint = disjoint;
      region_in = in_P;
      kinds = ap (λ (s : State). s.table.kind) gone;
      spaces = ap (λ (s : State). s.table.space) gone;
    }

    ready-there : IsGone → (q : Region) → Contains (map region_in rs) q → status (labels_in ms) q ≡ RegionReady → status (labels_in now) q ≡ RegionReady
    ready-there gone q in_q ready = elim (both (r.index == q.index)) [
      | inl t ↦
          let same : q ≡ r = some_is (sym (disjoint.indexes q in_q) ∙ ap (region_at (platform_of rs)) (sym (eq_true r.index q.index t)) ∙ disjoint.indexes r in_P) in
          subst (λ (p : Region). status (labels_in now) p ≡ RegionReady) (sym same)
          (ready-without (platform_of rs) r u (labels_in ms) (labels_in now) (gone-changes gone) (subst (λ (p : Region). status (labels_in ms) p ≡ RegionReady) same ready))
      | inr n ↦
          status-elsewhere (platform_of rs) r u None (labels_in ms) (labels_in now) (gone-changes gone) q in_q (λ same. never (r.index == q.index) (eq_same r.index q.index (ap (λ (p : Region). p.index) (sym same))) n)
          ∙ ready
    ]

    pub ready-dropped : (ready : Option ℕ) → IsKnownReady ms rs ready → IsBeforeOrWithout (platform_of rs) r u (labels_in ms) (labels_in now) → IsKnownReady now regions_now ready
    ready-dropped ready known (inl same) = ready-kept ready known (ap (λ (s : State). s.table) same)
    ready-dropped None known (inr gone) = tt
    ready-dropped (Some place) known (inr gone) =
        subst (λ (qs : List Region). IsReadyIn (labels_in now) qs place) (sym same_regions)
        (known.0, λ d. ready-there gone (slice_index_or (map region_in rs) place d) (Contains-get_or (map region_in rs) place d known.0) (known.1 d))

-- a region that can be healed is Ready
pub ready-healed : (before : StoredSets) (index : ℕ) (uuid : List ℕ) (place : Option ℕ) → IsPlaceOf before.regions index place → OfRegion before index (CanHealIn before uuid) → IfSome place (IsReadyIn (sets.labels_in before) before.regions)
ready-healed before index uuid None is heal = tt
ready-healed before index uuid (Some place) is heal = (is.0, λ d. (heal (slice_index_or before.regions place d) (is.1 d)).ready)

-- a status that is shown as Ready is so
pub shown-ready : (s : RegionStatus) → shown_status s ≡ statuses.Ready → s ≡ RegionReady
shown-ready RegionReady is = refl
shown-ready (Unusable rule) is = absurd cc
shown-ready (AreaNotReady handle kind) is = absurd cc
shown-ready (Clash first second) is = absurd cc

-- the region with an index is Ready, where its status is told so
pub ready-told : (now : StoredSets) (index : ℕ) (place : Option ℕ) → IsPlaceOf now.regions index place
    → Some statuses.Ready ≡ in_region now index (λ (r : Region). Some (shown_status (status (sets.labels_in now) r))) → IfSome place (IsReadyIn (sets.labels_in now) now.regions)
ready-told now index None is told = tt
ready-told now index (Some place) is told = (
  is.0,
  λ d.
      let r = slice_index_or now.regions place d in
      let same : Some statuses.Ready ≡ Some (shown_status (status (sets.labels_in now) r)) = told ∙ ap (option_and_then (λ (r : Region). Some (shown_status (status (sets.labels_in now) r)))) (is.1 d) in
      shown-ready (status (sets.labels_in now) r) (sym (some_is same)),
)

-- the place that is known to be Ready is that of the region with an index
pub told-known : (inside : Inside) (now : StoredSets) → shown inside ≡ now → (index place : ℕ) → IsPlaceOf (map region_in inside.regions.items) index (Some place)
    → IsReadyIn (labels_in inside.modules.items) (map region_in inside.regions.items) place → Some statuses.Ready ≡ in_region now index (λ (r : Region). Some (shown_status (status (sets.labels_in now) r)))
told-known inside now same index place is ready =
    let d : Region = (element (map region_in inside.regions.items) place ready.0).0 in
    subst (λ (s : StoredSets). Some statuses.Ready ≡ in_region s index (λ (r : Region). Some (shown_status (status (sets.labels_in s) r)))) same
    (ap (λ s. Some (shown_status s)) (sym (ready.1 d)) ∙ ap (option_and_then (λ (r : Region). Some (shown_status (status (labels_in inside.modules.items) r)))) (sym (is.1 d)))
