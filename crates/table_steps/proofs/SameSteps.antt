-- The step of a command is told by the state alone: labels that stand for one state have the same refusals and the same
-- step.
use Rattle.std.proofs.Common.{◌≡◌, ℕ, Bool, List, [], ◌∷◌, Option, Some, None, find, refl, sym, ap, subst, ◌∙◌}
use Rattle.std.specs.Prelude.{if◌then◌else◌, option_map, ◌==◌}
use Rattle.std.specs.List.{Contains}
use Rattle.view_types.specs.declared.extents.Extent.{Extent}
use Rattle.view_types.specs.Intervals.{AreMaximal, IsFirstFit}
use Rattle.view_types.specs.declared.refusal.Refusal.TheVariants.{NameInUse, UuidInUse}
use Rattle.view_types.specs.declared.reply.Reply.{Reply}
use Rattle.view_types.specs.declared.reply.Reply.TheVariants.{Initialised}
use Rattle.label_codec.specs.ModuleLabels.{Labels}
use Rattle.region_map.specs.declared.platform.Platform.{Platform}
use Rattle.region_map.specs.declared.platform.Region.{Region}
use Rattle.region_map.specs.Platforms.{region_at}
use Rattle.label_table.specs.Belonging.{IsDisjoint}
use Rattle.label_table.specs.Division.{alignment, part_size}
use Rattle.label_table.specs.Spaces.{Space}
use Rattle.label_table.specs.Statuses.{AreaNotReady, Clash, RegionReady, RegionStatus, Unusable, status}
use Rattle.label_table.specs.Tables.{State, state, table}
use Rattle.label_table.proofs.ListTests.{find-some}
use Rattle.cmd_words.specs.declared.parts.Change.{Change}
use Rattle.cmd_words.specs.declared.parts.Change.TheVariants.{Create, Destroy, InitLabels, ReleaseHeld, Rename}
use Rattle.table_steps.specs.declared.new_namespace.NewNamespace.{NewNamespace}
use Rattle.table_steps.specs.Changes.{IsDoneBy}
use Rattle.table_steps.specs.Create.{AreFreeOf, AreFreeWhere, Creates, IsCreated, asked_by, bad_size_in, create_refusals, is_named, is_unnamed, keeps_uuid, name_in_use_in, no_space_in, part_length, uuid_in_use, with_made}
use Rattle.table_steps.specs.Initialise.{Initialises, already_ready, cannot_initialise, initialised}
use Rattle.table_steps.specs.Refusals.{by_region, first_of, unknown_dimm, unknown_region, unusable}
use Rattle.table_steps.specs.Steps.{Does}
use Rattle.table_steps.proofs.SameChanges.{destroys-same, done-same, releases-same, renames-same}
use Rattle.table_steps.proofs.SameRegions.{by_region-same, free-same, lists, not_ready-same, slots-same, statuses, unhealed-same}
use Rattle.table_steps.proofs.Uuids.{keeps-same}

-- the initialisation of an area, by the state
abbrev InitialisesFrom : Platform → State → ℕ → ℕ → Reply → State → Type 0
InitialisesFrom P s dimm slots reply after =
    IsDoneBy (first_of (unknown_dimm P dimm ∷ cannot_initialise dimm (s.table.kind dimm) ∷ already_ready dimm (s.table.kind dimm) ∷ [])) s
    (λ told now. (told ≡ Initialised dimm slots) × (now ≡ initialised P dimm slots s)) reply after

pub initialises-same : (P : Platform) (L M : Labels) → state P M ≡ state P L → (dimm slots : ℕ) (reply : Reply) (after : State) → Initialises P L dimm slots reply after → Initialises P M dimm slots reply after
initialises-same P L M same dimm slots reply after does = subst (λ s. InitialisesFrom P s dimm slots reply after) (sym same) does

module _ (P : Platform) (disjoint : IsDisjoint P) (L M : Labels) (same : state P M ≡ state P L) where
  tables : table P M ≡ table P L
  tables = ap (λ (s : State). s.table) same

  module _ (q : Region) (in_P : Contains P.regions q) where
    names-same : (name : List ℕ) → name_in_use_in M name q ≡ name_in_use_in L name q
    names-same name = λ i. if is_unnamed name then None else option_map (λ (s : Space). NameInUse s.uuid) (find (is_named name) (lists P disjoint L M same q in_P i))

    free_where : (free : List Extent) → AreFreeWhere (status L q) P L q free → AreFreeWhere (status M q) P M q free
    free_where free are = subst (λ (s : RegionStatus). AreFreeWhere s P M q free) (sym (statuses P disjoint L M same q in_P)) (by (status L q) are)
      where
        by : (s : RegionStatus) → AreFreeWhere s P L q free → AreFreeWhere s P M q free
        by RegionReady are = subst (λ (f : ℕ → Bool). AreMaximal (part_size q) f free) (sym (free-same P disjoint L M same q in_P)) are
        by (Unusable rule) are = are
        by (AreaNotReady m k) are = are
        by (Clash one other) are = are

  uuids-same : (u : List ℕ) → uuid_in_use P M u ≡ uuid_in_use P L u
  uuids-same u = let keeps : (m : ℕ) → keeps_uuid P M u m ≡ keeps_uuid P L u m = keeps-same P disjoint L M tables u in λ i. option_map UuidInUse (find (λ m. keeps m i) P.modules)

  pub refusals-same : (free : List Extent) (a : NewNamespace) → create_refusals P M free a ≡ create_refusals P L free a
  refusals-same free a =
      let statuses_are = not_ready-same P disjoint L M same a.region in
      let unhealed_are = unhealed-same P disjoint L M same a.region in
      let names_are = by_region-same P a.region (name_in_use_in M a.name) (name_in_use_in L a.name) (λ q in_P. names-same q in_P a.name) in
      let uuids_are = uuids-same a.uuid in
      let slots_are = slots-same P disjoint L M same a.region 2 in
      λ i. unknown_region P a.region ∷ unusable P a.region ∷ statuses_are i ∷ unhealed_are i ∷ by_region P a.region (bad_size_in a.size) ∷ names_are i ∷ uuids_are i
      ∷ by_region P a.region (no_space_in free a.size) ∷ slots_are i ∷ []

  created-same : (a : NewNamespace) (reply : Reply) (after : State) → IsCreated P L a reply after → IsCreated P M a reply after
  created-same a reply after c = record {
    region = c.region;
    found = c.found;
    offset = c.offset;
    first = subst (λ (f : ℕ → Bool). IsFirstFit f (part_length a c.region) alignment c.offset)
        (sym (free-same P disjoint L M same c.region (find-some (λ (r : Region). r.index == a.region) P.regions c.region c.found).0)) c.first;
    after_is = c.after_is ∙ ap (with_made a c.region c.offset) (sym same);
    reply_is = c.reply_is;
  }

  free_of : (index : ℕ) (free : List Extent) → AreFreeOf P L (region_at P index) free → AreFreeOf P M (region_at P index) free
  free_of index free are = by (region_at P index) refl are
    where
      by : (o : Option Region) → region_at P index ≡ o → AreFreeOf P L o free → AreFreeOf P M o free
      by None e are = are
      by (Some q) e are = free_where q (find-some (λ (r : Region). r.index == index) P.regions q e).0 free are

  pub creates-same : (a : NewNamespace) (reply : Reply) (after : State) → Creates P L a reply after → Creates P M a reply after
  creates-same a reply after c = record {
    free = c.free;
    free_are = free_of a.region c.free c.free_are;
    is_done = done-same (IsCreated P L a) (IsCreated P M a) (state P L) (state P M) same
        (first_of (create_refusals P L c.free a)) (first_of (create_refusals P M c.free a)) (ap first_of (refusals-same c.free a)) (created-same a) reply after c.is_done;
  }

  pub does-same : (slots : ℕ → ℕ) (change : Change) (own : List ℕ) (reply : Reply) (after : State) → Does P slots L change own reply after → Does P slots M change own reply after
  does-same slots (InitLabels dimm) own reply after does = initialises-same P L M same dimm (slots dimm) reply after does
  does-same slots (Create region size name abstraction sector uuid) own reply after does = creates-same (asked_by region size name abstraction sector uuid own) reply after does
  does-same slots (Destroy region key) own reply after does = destroys-same P disjoint L M same region key reply after does
  does-same slots (Rename region key name) own reply after does = renames-same P disjoint L M same region key name reply after does
  does-same slots (ReleaseHeld dimm uuid) own reply after does = releases-same P disjoint L M same dimm uuid reply after does
