-- Each command has a step.
use Rattle.std.proofs.Common.{◌≡◌, ℕ, ◌≤◌, false, ◌&&◌, not, List, [], Option, Some, None, refl}
use Rattle.std.specs.Prelude.{◌==◌, is_none, nat_lt}
use Rattle.view_types.specs.declared.extents.Extent.{Extent}
use Rattle.view_types.specs.declared.refusal.Refusal.{Refusal}
use Rattle.view_types.specs.declared.refusal.Refusal.TheVariants.{UnknownRegion}
use Rattle.view_types.specs.declared.reply.Reply.{Reply}
use Rattle.view_types.specs.declared.reply.Reply.TheVariants.{Destroyed, Initialised, Refused, Released, Renamed}
use Rattle.label_codec.specs.ModuleLabels.{Labels, has}
use Rattle.region_map.specs.declared.platform.Platform.{Platform}
use Rattle.region_map.specs.declared.platform.Region.{Region}
use Rattle.region_map.specs.Platforms.{region_at}
use Rattle.label_table.specs.Division.{is_common_free, is_held_at, namespaces_over, part_size}
use Rattle.label_table.specs.Fates.{held_count}
use Rattle.label_table.specs.Statuses.{AreaNotReady, Clash, RegionReady, RegionStatus, Unusable, status}
use Rattle.label_table.specs.Tables.{State, state}
use Rattle.label_table.proofs.ListTests.{lt_not}
use Rattle.cmd_words.specs.declared.parts.Change.{Change}
use Rattle.cmd_words.specs.declared.parts.Change.TheVariants.{Create, Destroy, InitLabels, ReleaseHeld, Rename}
use Rattle.table_steps.specs.declared.new_namespace.NewNamespace.{NewNamespace}
use Rattle.table_steps.specs.Changes.{IsDoneBy}
use Rattle.table_steps.specs.Create.{AreFreeOf, AreFreeWhere, Creates, IsCreated, asked_by, create_refusals, created, with_made}
use Rattle.table_steps.specs.Destroy.{IsDestroyed, destroy_refusals, with_destroyed}
use Rattle.table_steps.specs.Initialise.{IsInitialised, initialise_refusals, initialised}
use Rattle.table_steps.specs.Refusals.{first_of, refused_if}
use Rattle.table_steps.specs.Release.{IsReleased, release_refusals, released}
use Rattle.table_steps.specs.Rename.{IsRenamed, rename_refusals, with_renamed}
use Rattle.table_steps.specs.Steps.{Does}
use Rattle.table_steps.proofs.AcceptedChanges.{IsUnrefusedChange, known, unrefused-destroy, unrefused-rename}
use Rattle.table_steps.proofs.FreeLists.{maximal}
use Rattle.table_steps.proofs.Lists.{first-none}
use Rattle.table_steps.proofs.Places.{place}

module _ (P : Platform) (L : Labels) where
  past : (r : Region) (o : ℕ) → part_size r ≤ o → is_common_free P L r o ≡ false
  past r o ge = let n : nat_lt o (part_size r) ≡ false = lt_not o (part_size r) ge in λ i. n i && (namespaces_over L r o == 0 && not (is_held_at P L r o))

  some_free : (o : Option Region) → (free : List Extent) × AreFreeOf P L o free
  some_free None = ([], refl)
  some_free (Some r) = by (status L r)
    where
      by : (s : RegionStatus) → (free : List Extent) × AreFreeWhere s P L r free
      by RegionReady = maximal (part_size r) (is_common_free P L r) (past r)
      by (Unusable rule) = ([], refl)
      by (AreaNotReady m k) = ([], refl)
      by (Clash one other) = ([], refl)

  abbrev Some_step : (Reply → State → Type 0) → Type 0
  Some_step does = (reply : Reply) × (after : State) × does reply after

  done-some : (accepted : Reply → State → Type 0) (before : State) (o : Option Refusal) → (o ≡ None → Some_step accepted) → Some_step (IsDoneBy o before accepted)
  done-some accepted before (Some refusal) some = (Refused refusal, before, (refl, refl))
  done-some accepted before None some = some refl

  creates-some : (a : NewNamespace) → Some_step (Creates P L a)
  creates-some a =
      let frees = some_free (region_at P a.region) in
      let step = done-some (IsCreated P L a) (state P L) (first_of (create_refusals P L frees.0 a)) (λ e. known (region_at P a.region) refl frees.0 frees.1 e) in
      (step.0, step.1, record { free = frees.0; free_are = frees.1; is_done = step.2 })
    where
      known : (o : Option Region) → region_at P a.region ≡ o → (free : List Extent) → AreFreeOf P L (region_at P a.region) free → first_of (create_refusals P L free a) ≡ None → Some_step (IsCreated P L a)
      known None is free are e = absurd (let no : refused_if (is_none (region_at P a.region)) (UnknownRegion a.region) ≡ None = (first-none (create_refusals P L free a) e).0 in
          let yes : refused_if (is_none (region_at P a.region)) (UnknownRegion a.region) ≡ Some (UnknownRegion a.region) = λ i. refused_if (is_none (is i)) (UnknownRegion a.region) in cc)
      known (Some r) is free are e =
          let at = place P L free a r is are e in
          let after = with_made a r at.0 (state P L) in
          (created a r at.0 after, after, record { region = r; found = is; offset = at.0; first = at.1; after_is = refl; reply_is = refl })

  pub does-some : (slots : ℕ → ℕ) (change : Change) (own : List ℕ) → Some_step (Does P slots L change own)
  does-some slots (InitLabels dimm) own =
      done-some (IsInitialised P L dimm (slots dimm)) (state P L) (first_of (initialise_refusals P L dimm))
      (λ e. (Initialised dimm (slots dimm), initialised P dimm (slots dimm) (state P L), (refl, refl)))
  does-some slots (Create region size name abstraction sector uuid) own = creates-some (asked_by region size name abstraction sector uuid own)
  does-some slots (Destroy region key) own = done-some (IsDestroyed P L region key) (state P L) (first_of (destroy_refusals P L region key)) destroys
    where
      destroys : first_of (destroy_refusals P L region key) ≡ None → Some_step (IsDestroyed P L region key)
      destroys none =
          let found = known P region (first-none (destroy_refusals P L region key) none).0 in
          let change : IsUnrefusedChange P L key found.0 = unrefused-destroy P L region key found.0 found.1 none in
          (Destroyed change.own.uuid, with_destroyed found.0 change.own.uuid (state P L), record { region = found.0; found = found.1; space = change.own; only = change.one.only; after_is = refl; reply_is = refl })
  does-some slots (Rename region key name) own = done-some (IsRenamed P L region key name) (state P L) (first_of (rename_refusals P L region key name)) renames
    where
      renames : first_of (rename_refusals P L region key name) ≡ None → Some_step (IsRenamed P L region key name)
      renames none =
          let found = known P region (first-none (rename_refusals P L region key name) none).0 in
          let change : IsUnrefusedChange P L key found.0 = (unrefused-rename P L region key name found.0 found.1 none).change in
          (Renamed change.own.uuid name, with_renamed found.0 name change.own (state P L), record { region = found.0; found = found.1; space = change.own; only = change.one.only; after_is = refl; reply_is = refl })
  does-some slots (ReleaseHeld dimm uuid) own =
      done-some (IsReleased P L dimm uuid) (state P L) (first_of (release_refusals P L dimm uuid))
      (λ none. (Released (held_count P L dimm (has uuid)), released P dimm uuid (state P L), record { after_is = refl; reply_is = refl }))
