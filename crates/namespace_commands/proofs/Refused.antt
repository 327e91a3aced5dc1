-- What look-ups by the index of a region tell of why a create is refused.
use Rattle.std.proofs.Common.{◌≡◌, ℕ, Bool, List, true, false, find, Option, Some, None, refl, sym, ap, subst, ◌∙◌}
use Rattle.std.specs.Prelude.{if◌then◌else◌, is_some, option_map}
use Rattle.std.specs.Option.{option_and_then, option_or}
use Rattle.view_types.specs.declared.extents.Extent.{Extent}
use Rattle.view_types.specs.declared.refusal.Refusal.{Refusal}
use Rattle.view_types.specs.declared.refusal.Refusal.TheVariants.{NameInUse, NoSlots, Unhealed, UuidInUse}
use Rattle.label_codec.specs.ModuleLabels.{Labels}
use Rattle.region_map.specs.declared.platform.Member.{Member}
use Rattle.region_map.specs.declared.platform.Platform.{Platform}
use Rattle.region_map.specs.declared.platform.Region.{Region}
use Rattle.region_map.specs.Platforms.{IsSound, region_at}
use Rattle.label_table.specs.Division.{AreFreeExtents}
use Rattle.label_table.specs.Statuses.{RegionReady, RegionStatus, status}
use Rattle.region_labels.specs.declared.positions.ModuleSpare.{ModuleSpare}
use Rattle.region_labels.specs.Positions.{IsFirstWithoutSpare}
use Rattle.region_labels.specs.ListedSpaces.{listed_spaces, shows_pending}
use Rattle.label_sets.specs.Lookups.{LacksSpare, LacksSpareIn, in_region, uuid_of}
use Rattle.label_sets.specs.Sets.{StoredSets, labels_in, platform_in}
use Rattle.label_sets.proofs.Platforms.{each-once}
use Rattle.label_table.proofs.StatusLaws.{ready-parts}
use Rattle.region_labels.specs.Holders.{IsHolder}
use Rattle.region_labels.specs.Fates.{with_regions}
use Rattle.std.specs.List.Sorted.{IsStrictlyIncreasing}
use Rattle.view_types.specs.declared.refusal.Refusal.TheVariants.{UnknownRegion, Unusable}
use Rattle.region_labels.specs.Statuses.{shown_status}
use Rattle.namespace_commands.specs.Lists.{refusal_by}
use Rattle.namespace_commands.proofs.Firsts.{or_more}
use Rattle.namespace_commands.proofs.Unread.{unread-is}
use Rattle.table_steps.specs.Refusals.{region_not_ready, unknown_region, unusable}
use Rattle.table_steps.specs.declared.new_namespace.NewNamespace.{NewNamespace}
use Rattle.table_steps.specs.Create.{AreFreeOf, AreFreeWhere, bad_size_in, is_named, is_unnamed, name_in_use_in, no_space_in, uuid_in_use}
use Rattle.table_steps.specs.Refusals.{any_pending, first_below, first_of, no_slots_in, not_ready_by, unhealed_in}
use Rattle.table_steps.proofs.KnownRegions.{known-region}
use Rattle.label_table.specs.Namespaces.{namespaces}
use Rattle.label_table.specs.Spaces.{Space}
use Rattle.region_labels.specs.declared.named.Named.{Named}
use Rattle.region_labels.specs.Named.{named_in}
use Rattle.namespace_commands.specs.Create.{IsCreateRefusal, first_named}
use Rattle.namespace_commands.specs.Lists.{IsStateOf}
use Rattle.namespace_commands.proofs.Holding.{uuid-told}
use Rattle.namespace_commands.proofs.LookUps.{names-told, pending-told, slots-told, unhealed-told}

module _ (sets : StoredSets) (index : ℕ) (r : Region) (found : region_at (platform_in sets) index ≡ Some r) where
  lacks : (least : ℕ) (short : Option ModuleSpare) → LacksSpare sets index least short → IsFirstWithoutSpare (platform_in sets) (labels_in sets) r least short
  lacks least short is = subst (λ (o : Option Region). LacksSpareIn (platform_in sets) (labels_in sets) least o short) found is

  pending-is : (first : Option (List ℕ)) → first ≡ in_region sets index (λ (q : Region). option_map uuid_of (find shows_pending (listed_spaces (labels_in sets) q))) → any_pending (labels_in sets) r ≡ is_some first
  pending-is first is = pending-told uuid_of (labels_in sets) r
      ∙ ap is_some (sym (is ∙ ap (λ (o : Option Region). option_and_then (λ (q : Region). option_map uuid_of (find shows_pending (listed_spaces (labels_in sets) q))) o) found))

  -- a namespace of the region is pending, or none
  pub unhealed-is : (first : Option (List ℕ)) → first ≡ in_region sets index (λ (q : Region). option_map uuid_of (find shows_pending (listed_spaces (labels_in sets) q))) → (short : Option ModuleSpare) → LacksSpare sets index 1 short
      → unhealed_in (platform_in sets) (labels_in sets) r ≡ (if is_some first then option_map (λ (m : ModuleSpare). Unhealed m.dimm) short else None)
  unhealed-is first is short lack = unhealed-told (platform_in sets) (labels_in sets) r short (lacks 1 short lack) ∙ ap (λ b. if b then option_map (λ (m : ModuleSpare). Unhealed m.dimm) short else None) (pending-is first is)

  pub healed-is : (first : Option (List ℕ)) → first ≡ in_region sets index (λ (q : Region). option_map uuid_of (find shows_pending (listed_spaces (labels_in sets) q))) → first ≡ None → unhealed_in (platform_in sets) (labels_in sets) r ≡ None
  healed-is first is none = ap (λ (b : Bool). if b then option_map (λ (x : Member). Unhealed x.handle) (first_below (platform_in sets) (labels_in sets) 1 r) else None) (pending-is first is ∙ ap is_some none)

  pub slots-is : (least : ℕ) (short : Option ModuleSpare) → LacksSpare sets index least short → no_slots_in (platform_in sets) (labels_in sets) least r ≡ option_map (λ (m : ModuleSpare). NoSlots m.dimm m.spare) short
  slots-is least short lack = slots-told (platform_in sets) (labels_in sets) r least short (lacks least short lack)

-- a namespace of the region has the name, or none
pub name-is : (sets : StoredSets) (index : ℕ) (r : Region) → region_at (platform_in sets) index ≡ Some r → (name : List ℕ) → is_unnamed name ≡ false → (named : Option Named) → named ≡ in_region sets index (λ (q : Region). Some (named_in (labels_in sets) q name))
    → name_in_use_in (labels_in sets) name r ≡ option_map NameInUse (option_and_then first_named named)
name-is sets index r found name some named is =
    names-told (labels_in sets) r name ∙ ap (λ (b : Bool). if b then None else option_map NameInUse (first_named (named_in (labels_in sets) r name))) some
    ∙ ap (λ (o : Option Named). option_map NameInUse (option_and_then first_named o)) (sym (is ∙ ap (option_and_then (λ (q : Region). Some (named_in (labels_in sets) q name))) found))

pub unnamed-is : (sets : StoredSets) (r : Region) (name : List ℕ) → is_unnamed name ≡ true → name_in_use_in (labels_in sets) name r ≡ None
unnamed-is sets r name none = ap (λ (b : Bool). if b then None else option_map (λ (space : Space). NameInUse space.uuid) (find (is_named name) (namespaces (labels_in sets) r))) none

-- the regions of the state are those of the platform, and look-ups ask nothing else of it
holder-is : (P : Platform) (L : Labels) (u : List ℕ) (sets : StoredSets) (found : Option ℕ) → IsHolder (with_regions P.regions) L u sets.modules found → IsHolder P L u sets.modules found
holder-is P L u sets None is = is
holder-is P L u sets (Some handle) is = record { holder = is.holder; listed = is.listed; is = is.is; holds = is.holds; least = is.least }

pub uuid-is : (P : Platform) → IsSound P → (sets : StoredSets) → IsStateOf P sets → (u : List ℕ) (found : Option ℕ) → IsHolder (platform_in sets) (labels_in sets) u sets.modules found → uuid_in_use P (labels_in sets) u ≡ option_map UuidInUse found
uuid-is P sound sets state u found is =
    let sorted : IsStrictlyIncreasing P.modules = sound.platform_of.modules.order in
    uuid-told P sets.modules (each-once sets.modules (subst IsStrictlyIncreasing (sym state.modules) sorted)) sorted state.modules u found
    (holder-is P (labels_in sets) u sets found (subst (λ (rs : List Region). IsHolder (with_regions rs) (labels_in sets) u sets.modules found) state.regions is))

abbrev pub Or_all : (a b c d e f : Option Refusal) → Option Refusal
Or_all a b c d e f = option_or (option_or (option_or (option_or (option_or a b) c) d) e) f

or-all : (a b c d e f : Option Refusal) → option_or a (option_or b (option_or c (option_or d (option_or e (option_or f None))))) ≡ Or_all a b c d e f
or-all (Some a) b c d e f = refl
or-all None (Some b) c d e f = refl
or-all None None (Some c) d e f = refl
or-all None None None (Some d) e f = refl
or-all None None None None (Some e) f = refl
or-all None None None None None (Some f) = refl
or-all None None None None None None = refl

module _ (P : Platform) (sets : StoredSets) (state : IsStateOf P sets) (asked : NewNamespace) where
  abbrev L : Labels
  L = labels_in sets

  -- its region is found in the state
  pub found-in : (o : Option Region) → region_at P asked.region ≡ o → region_at (platform_in sets) asked.region ≡ o
  found-in o known = ap (λ (rs : List Region). region_at (with_regions rs) asked.region) state.regions ∙ known

  pub found-there : (o : Option Region) → region_at (platform_in sets) asked.region ≡ o → region_at P asked.region ≡ o
  found-there o known = sym (ap (λ (rs : List Region). region_at (with_regions rs) asked.region) state.regions) ∙ known

  pub no-region : region_at P asked.region ≡ None → IsCreateRefusal P L asked (Some (UnknownRegion asked.region))
  no-region none = λ free are. rw none refl

  pub not-ready : (r : Region) → region_at P asked.region ≡ Some r → (refusal : Refusal) → refusal_by (shown_status (status L r)) ≡ Some refusal → IsCreateRefusal P L asked (Some refusal)
  not-ready r known refusal is = λ free are.
      or_more (unknown_region P asked.region) (unusable P asked.region) (region_not_ready P L asked.region) _ refusal (unread-is P L asked.region r known ∙ is)

  module _ (r : Region) (known : region_at P asked.region ≡ Some r) (ready : status L r ≡ RegionReady) where
    pub free-extents : (free : List Extent) → AreFreeOf P L (region_at P asked.region) free → AreFreeExtents P L r free
    free-extents free are = subst (λ (s : RegionStatus). AreFreeWhere s P L r free) ready (subst (λ (o : Option Region). AreFreeOf P L o free) known are)

    pub ready-refusal : (u b n i s t : Option Refusal) → u ≡ unhealed_in (platform_in sets) L r → b ≡ bad_size_in asked.size r → n ≡ name_in_use_in L asked.name r → i ≡ uuid_in_use P L asked.uuid
        → ((free : List Extent) → AreFreeExtents (platform_in sets) L r free → s ≡ no_space_in free asked.size r) → t ≡ no_slots_in (platform_in sets) L 2 r → IsCreateRefusal P L asked (Or_all u b n i s t)
    ready-refusal u b n i s t u_is b_is n_is i_is s_is t_is = λ free are.
        let extents : AreFreeExtents (platform_in sets) L r free = subst (λ (rs : List Region). AreFreeExtents (with_regions rs) L r free) (sym state.regions) (free-extents free are) in
        let u_now : u ≡ unhealed_in P L r = u_is ∙ ap (λ (rs : List Region). unhealed_in (with_regions rs) L r) state.regions in
        let t_now : t ≡ no_slots_in P L 2 r = t_is ∙ ap (λ (rs : List Region). no_slots_in (with_regions rs) L 2 r) state.regions in
        let usable : r.rule ≡ None = (ready-parts L r ready).usable in
        ap first_of (known-region P L free asked r known)
        ∙ (λ j. option_or (option_map Unusable (usable j)) (option_or (not_ready_by (ready j))
        (option_or (sym u_now j) (option_or (sym b_is j) (option_or (sym n_is j) (option_or (sym i_is j) (option_or (sym (s_is free extents) j) (option_or (sym t_now j) None))))))))
        ∙ or-all u b n i s t
