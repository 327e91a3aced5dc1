-- A namespace that can be changed, once its region is recovered; and what the passes behind that make of the state.
use Rattle.std.proofs.Common.{◌≡◌, ◌≢◌, inl, inr, ℕ, ◌<◌, Bool, true, false, ◌&&◌, List, get_or, Option, Some, None, refl, sym, ap, subst, ◌∙◌}
use Rattle.std.specs.Prelude.{◌==◌, if◌then◌else◌, option_map}
use Rattle.std.specs.Str.{bytes_eq}
use Rattle.std.specs.List.{All, Contains}
use Rattle.std.specs.Option.{option_map_or}
use Rattle.view_types.specs.declared.namespaces.Namespace.{Namespace}
use Rattle.label_codec.specs.ModuleLabels.{Labels}
use Rattle.region_map.specs.declared.platform.Member.{Member}
use Rattle.region_map.specs.declared.platform.Platform.{Platform}
use Rattle.region_map.specs.declared.platform.Region.{Region}
use Rattle.region_map.specs.Platforms.{IsSound, region_at}
use Rattle.label_table.specs.Belonging.{IsDisjoint}
use Rattle.label_table.specs.Fates.{spare}
use Rattle.label_table.specs.Spaces as spaces
use Rattle.label_table.specs.Tables.{State, Table, changed_at, is_member, is_named, table, with_changed_space, without_namespace, without_space}
use Rattle.label_table.specs.Wholes.{any_read_only, is_whole, is_whole_by, labels_with, leading_label}
use Rattle.label_table.proofs.Equations.{space-of_table}
use Rattle.label_table.proofs.ListTests.{eq_other, eq_true, list_any-found}
use Rattle.label_table.proofs.SoundPlatforms.{sound-disjoint}
use Rattle.label_table.proofs.StatusLaws.{status-kept}
use Rattle.region_labels.specs.declared.modules.LoadedModule.{LoadedModule}
use Rattle.region_labels.specs.Fates.{with_regions}
use Rattle.region_labels.specs.Statuses.{space_in}
use Rattle.module_flips.specs.Together.{free_slots}
use Rattle.namespace_passes.specs.Renaming.{renamed_space, with_name}
use Rattle.label_sets.specs.Healing.{CanHealIn}
use Rattle.label_sets.specs.Sets.{StoredSets, labels_in, platform_in, state_in}
use Rattle.label_sets.proofs.Stageable.{region-listed}
use Rattle.recovery.specs.Recovery.{IsRecovered}
use Rattle.table_steps.specs.Destroy.{with_destroyed}
use Rattle.table_steps.specs.Rename.{renamed, with_renamed}
use Rattle.table_steps.proofs.Destroyed.{destroyed-is}
use Rattle.table_steps.proofs.Renamed.{renamed-is}
use Rattle.namespace_commands.specs.Commands.{IsNamedIn, IsTableOrNamed, IsTableOrWithout}
use Rattle.namespace_commands.specs.Keys.{CanChange}
use Rattle.namespace_commands.proofs.PutSpaces.{shows}
use Rattle.namespace_commands.proofs.RecoveredSpaces.{state-there}

mark-gone : (b mark : Bool) → mark ≡ false → (if b then false else mark) ≡ false
mark-gone true mark none = refl
mark-gone false mark none = none

-- The marks of other regions are not changed by those of one namespace.
elsewhere : (r : Region) (u : List ℕ) (mark : Bool) (marks : ℕ → List ℕ → Bool) (i : ℕ) (v : List ℕ) → i ≢ r.index → changed_at r u mark marks i v ≡ marks i v
elsewhere r u mark marks i v other =
    let away : (r.index == i) ≡ false = eq_other r.index i (λ e. other (sym e)) in
    λ j. if away j && bytes_eq u v then mark else marks i v

-- A namespace that can be changed, in the table of the state.
module _ (P : Platform) (sets : StoredSets) (same : P.regions ≡ sets.regions) (r : Region) (known : region_at P r.index ≡ Some r) (s : Namespace) (can : CanChange P (labels_in sets) s r) where
  -- What the namespace shows in the table of the state
  shown : (state_in sets).table.space r.index s.uuid ≡ Some (space_in s)
  shown = ap (λ (t : State). t.table.space r.index s.uuid) (state-there P sets (sym same) (labels_in sets)) ∙ ap (λ (o : Option Region). option_map_or (λ (q : Region). spaces.space (labels_in sets) q s.uuid) o None) known ∙ can.stands

  pub name-table : (name : List ℕ) → with_name r s.uuid name (state_in sets).table ≡ with_changed_space r (renamed name (space_in s)) (state_in sets).table
  name-table name = λ i. record {
    kind = (state_in sets).table.kind;
    spare = (state_in sets).table.spare;
    held = (state_in sets).table.held;
    space = changed_at r s.uuid (option_map (renamed_space name) (shown i)) (state_in sets).table.space;
  }

module _ (P : Platform) (sound : IsSound P) (sets mid : StoredSets) (same : P.regions ≡ sets.regions) (r : Region) (known : region_at P r.index ≡ Some r) (s : Namespace) (can : CanChange P (labels_in sets) s r)
    (regions : mid.regions ≡ sets.regions) (recovered : IsRecovered sets mid r) where
  abbrev L : Labels
  L = labels_in sets

  abbrev M : Labels
  M = labels_in mid

  abbrev u : List ℕ
  u = s.uuid

  disjoint : IsDisjoint P
  disjoint = sound-disjoint P sound

  listed : Contains P.regions r
  listed = region-listed P r.index r known

  tables : table P M ≡ table P L
  tables = sym (ap (λ (t : State). t.table) (state-there P mid (regions ∙ sym same) M)) ∙ recovered.same_table ∙ ap (λ (t : State). t.table) (state-there P sets (sym same) L)

  still_stands : spaces.space M r u ≡ Some (space_in s)
  still_stands = space-of_table P disjoint L M tables r u listed ∙ can.stands

  still_shows : (is_whole M r u ≡ true) × (any_read_only r (labels_with u M) ≡ s.read_only)
  still_shows = shows r (labels_with u M) (space_in s) (is_whole_by r (labels_with u M)) (leading_label r (labels_with u M)) still_stands

  has-free : All (λ (x : LoadedModule). is_member r x.dimm ≡ true → 0 < free_slots x) mid.modules
  has-free k d lt member =
      let x : LoadedModule = get_or mid.modules k d in
      let free : free_slots x ≡ (state_in mid).table.spare x.dimm = recovered.free k d lt member in
      let kept : (state_in mid).table.spare x.dimm ≡ spare P L x.dimm =
      ap (λ (t : Table). t.spare x.dimm) recovered.same_table ∙ ap (λ (t : State). t.table.spare x.dimm) (state-there P sets (sym same) L) in
      let found = list_any-found (λ (y : Member). y.handle == x.dimm) r.members member in
      let own : found.0.handle ≡ x.dimm = eq_true found.0.handle x.dimm found.2 in
      subst (λ n. 0 < n) (sym (free ∙ kept)) (subst (λ h. 0 < spare P L h) own (can.spares found.0 found.1))

  pub can-heal : CanHealIn mid u r
  can-heal = record {
    ready = status-kept P disjoint L M tables r listed ∙ can.ready;
    whole = still_shows.0;
    writable = still_shows.1 ∙ can.writable;
    free = has-free;
  }

  -- What recovery keeps, and what is behind it.
  there : (N : Labels) → table (platform_in sets) N ≡ table (platform_in mid) N
  there N = ap (λ (rs : List Region). table (with_regions rs) N) (sym regions)

  pub freed-fits : (N : Labels) → IsTableOrWithout mid r u N → IsTableOrWithout sets r u N
  freed-fits N (inl kept) = inl (there N ∙ kept ∙ recovered.same_table)
  freed-fits N (inr gone) = inr (there N ∙ gone ∙ ap (without_space r u) recovered.same_table)

  pub named-fits : (name : List ℕ) (N : Labels) → IsTableOrNamed mid r u name N → IsTableOrNamed sets r u name N
  named-fits name N (inl kept) = inl (there N ∙ kept ∙ recovered.same_table)
  named-fits name N (inr named) = inr (there N ∙ named ∙ ap (with_name r u name) recovered.same_table)

  -- the namespace is not pending behind it, and no other of its region
  cleared : (now : StoredSets) → (state_in now).pending ≡ changed_at r u false (state_in mid).pending → (v : List ℕ) → (state_in now).pending r.index v ≡ false
  cleared now marks v = ap (λ (f : ℕ → List ℕ → Bool). f r.index v) marks ∙ mark-gone (is_named r u r.index v) ((state_in mid).pending r.index v) (recovered.none_pending v)

  others : (now : StoredSets) → (state_in now).pending ≡ changed_at r u false (state_in mid).pending → (i : ℕ) (v : List ℕ) → i ≢ r.index → (state_in now).pending i v ≡ (state_in sets).pending i v
  others now marks i v other = ap (λ (f : ℕ → List ℕ → Bool). f i v) marks ∙ elsewhere r u false (state_in mid).pending i v other ∙ recovered.others i v other

  pub freed-state : (now : StoredSets) → state_in now ≡ without_namespace r u (state_in mid) → state_in now ≡ with_destroyed r u (state_in sets)
  freed-state now is =
      let marks = ap (λ (t : State). t.pending) is in
      destroyed-is r u (state_in sets) (state_in now) (ap (λ (t : State). t.table) is ∙ ap (without_space r u) recovered.same_table) (cleared now marks) (others now marks)

  pub named-state : (name : List ℕ) (now : StoredSets) → IsNamedIn mid now r u name → state_in now ≡ with_renamed r name (space_in s) (state_in sets)
  named-state name now is =
      renamed-is r name (space_in s) (state_in sets) (state_in now) (is.table_is ∙ ap (with_name r u name) recovered.same_table ∙ name-table P sets same r known s can name) (cleared now is.marks) (others now is.marks)
