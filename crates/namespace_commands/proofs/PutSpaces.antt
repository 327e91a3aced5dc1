-- A namespace that is staged, and then healed: what holds between the two passes, and at the end.
use Rattle.std.proofs.Common.{◌≡◌, inl, inr, ℕ, ◌+◌, ◌<◌, ◌≤◌, Bool, true, false, not, ◌&&◌, cond, List, length, get_or, map, Option, Some, None, refl, sym, ap, subst, ◌∙◌, arith}
use Rattle.std.specs.Prelude.{◌==◌, if◌then◌else◌, nat_lt}
use Rattle.std.specs.List.{All, Contains}
use Rattle.std.specs.Option.{option_map_or}
use Rattle.std.specs.Str.{bytes_eq}
use Rattle.std.proofs.lemmas.Bool.{and_from, and_parts}
use Rattle.std.proofs.lemmas.List.{get_or-map}
use Rattle.view_types.specs.declared.namespaces.Namespace.{Namespace}
use Rattle.label_codec.specs.declared.label.Label.{Label}
use Rattle.label_codec.specs.ModuleLabels.{Labels}
use Rattle.region_map.specs.declared.platform.Platform.{Platform}
use Rattle.region_map.specs.declared.platform.Region.{Region}
use Rattle.region_map.specs.Platforms.{region_at}
use Rattle.label_table.specs.Belonging.{IsDisjoint}
use Rattle.label_table.specs.Division.{is_held_at, namespaces_over, part_size}
use Rattle.label_table.specs.Spaces.{Space, space, space_if}
use Rattle.label_table.specs.Statuses.{RegionReady, status}
use Rattle.label_table.specs.Tables.{State, changed_at, is_member, is_named, slot_of, state, table, with_namespace}
use Rattle.label_table.specs.Wholes.{any_read_only, is_whole, is_whole_by, labels_with, leading_label}
use Rattle.label_table.proofs.Equations.{changed_at-twice}
use Rattle.label_table.proofs.ListTests.{eq_same, eq_true, uuid_same}
use Rattle.label_table.proofs.StatusLaws.{ready-with}
use Rattle.region_labels.specs.declared.modules.LoadedModule.{LoadedModule}
use Rattle.region_labels.specs.Fates.{with_regions}
use Rattle.region_labels.specs.Modules.{dimm_of}
use Rattle.module_flips.specs.Together.{free_slots}
use Rattle.label_sets.specs.Healing.{CanHealIn, IsHealedIn}
use Rattle.label_sets.specs.Sets.{StoredSets, labels_in, platform_in, state_in}
use Rattle.label_sets.specs.Staging.{CanStageIn, GivesSlots, IsOpenRange}
use Rattle.label_sets.proofs.Written.{same-count}
use Rattle.namespace_passes.specs.Staged.{IsBeforeOrWith, new_space}
use Rattle.namespace_commands.specs.Create.{CanPutIn, IsPutIn, IsTableOrWith}

some-is : {x y : Space} → Some x ≡ Some y → x ≡ y
some-is e = cc

pub shows : (r : Region) (own : Labels) (new : Space) (b : Bool) (o : Option Label) → space_if r own b o ≡ Some new → (b ≡ true) × (any_read_only r own ≡ new.read_only)
shows r own new false o e = absurd cc
shows r own new true None e = absurd cc
shows r own new true (Some l) e = (refl, ap (λ (s : Space). s.read_only) (some-is e))

-- A namespace stands behind a state, as it does after a pass.
module _ (P : Platform) (disjoint : IsDisjoint P) (r : Region) (in_P : Contains P.regions r) (L M : Labels) (s : Namespace) (stands : state P M ≡ with_namespace r (new_space s) (state P L)) where
  abbrev new : Space
  new = new_space s

  there : space M r s.uuid ≡ Some new
  there =
      let found : region_at P r.index ≡ Some r = disjoint.indexes r in_P in
      let here : is_named r s.uuid r.index s.uuid ≡ true = and_from (r.index == r.index) (bytes_eq s.uuid s.uuid) (eq_same r.index r.index refl) (uuid_same s.uuid) in
      sym (ap (λ (o : Option Region). option_map_or (λ (q : Region). space M q s.uuid) o None) found)
      ∙ ap (λ (t : State). t.table.space r.index s.uuid) stands
      ∙ ap (λ (b : Bool). if b then Some new else (table P L).space r.index s.uuid) here

  stands-whole : is_whole M r s.uuid ≡ true
  stands-whole = (shows r (labels_with s.uuid M) new (is_whole_by r (labels_with s.uuid M)) (leading_label r (labels_with s.uuid M)) there).0

  stands-writable : any_read_only r (labels_with s.uuid M) ≡ false
  stands-writable = (shows r (labels_with s.uuid M) new (is_whole_by r (labels_with s.uuid M)) (leading_label r (labels_with s.uuid M)) there).1

  stands-ready : status L r ≡ RegionReady → 0 < s.length → IsOpenRange P L r s → status M r ≡ RegionReady
  stands-ready ready long is_open = ready-with P r new L M (record {
    disjoint = disjoint;
    region_in = in_P;
    kinds = ap (λ (t : State). t.table.kind) stands;
    spaces = ap (λ (t : State). t.table.space) stands;
  }) long (λ o ge lt.
      let parts = and_parts (nat_lt o (part_size r)) (namespaces_over L r o == 0 && not (is_held_at P L r o)) (is_open o ge lt) in
      inl (eq_true (namespaces_over L r o) 0 (and_parts (namespaces_over L r o == 0) (not (is_held_at P L r o)) parts.1).0)) ready

slot-least : (b : Bool) → cond {A = ℕ} b 1 0 ≤ 1
slot-least true = omega arith
slot-least false = omega arith

-- each module of the region has given one of two free slots
left-free : (sets mid : StoredSets) (r : Region) → map dimm_of mid.modules ≡ map dimm_of sets.modules → GivesSlots sets mid r → All (λ (loaded : LoadedModule). is_member r loaded.dimm ≡ true → 1 < free_slots loaded) sets.modules
    → All (λ (loaded : LoadedModule). is_member r loaded.dimm ≡ true → 0 < free_slots loaded) mid.modules
left-free sets mid r dimms gives free k d lt member =
    let before : k < length sets.modules = subst (λ n. k < n) (same-count dimm_of mid.modules sets.modules dimms) lt in
    let same : (get_or mid.modules k d).dimm ≡ (get_or sets.modules k d).dimm =
    sym (get_or-map dimm_of mid.modules k d 0 lt) ∙ ap (λ (xs : List ℕ). get_or xs k 0) dimms ∙ get_or-map dimm_of sets.modules k d 0 before in
    let two : 1 < free_slots (get_or sets.modules k d) = free k d before (sym (ap (is_member r) same) ∙ member) in
    let given : free_slots (get_or mid.modules k d) + slot_of r (get_or sets.modules k d).dimm ≡ free_slots (get_or sets.modules k d) = gives k d before in
    let one : slot_of r (get_or sets.modules k d).dimm ≤ 1 = slot-least (is_member r (get_or sets.modules k d).dimm) in
    omega (arith, two, given, one)

module _ (sets : StoredSets) (r : Region) (s : Namespace) where
  pub stages : CanPutIn sets s r → CanStageIn sets s r
  stages can = record {
    ready = can.ready;
    fresh = can.fresh;
    free = λ k d lt member. let two : 1 < free_slots (get_or sets.modules k d) = can.free k d lt member in omega (arith, two);
    is_open = can.is_open;
    long = can.long;
  }

  -- what a stop within the first pass leaves
  pub stage-fits : (M : Labels) → IsBeforeOrWith (platform_in sets) r (new_space s) (labels_in sets) M → IsTableOrWith sets r (new_space s) M
  stage-fits M (inl same) = inl (ap (λ (t : State). t.table) same)
  stage-fits M (inr with) = inr (ap (λ (t : State). t.table) with)

  module _ (mid : StoredSets) (regions : mid.regions ≡ sets.regions) (staged : state_in mid ≡ with_namespace r (new_space s) (state_in sets)) where
    pub can-heal : IsDisjoint (platform_in sets) → Contains sets.regions r → CanPutIn sets s r → map dimm_of mid.modules ≡ map dimm_of sets.modules → GivesSlots sets mid r → CanHealIn mid s.uuid r
    can-heal disjoint in_P can dimms gives =
        let P = platform_in sets in
        let stands : state P (labels_in mid) ≡ with_namespace r (new_space s) (state_in sets) = ap (λ (rs : List Region). state (with_regions rs) (labels_in mid)) (sym regions) ∙ staged in
        record {
          ready = stands-ready P disjoint r in_P (labels_in sets) (labels_in mid) s stands can.ready can.long can.is_open;
          whole = stands-whole P disjoint r in_P (labels_in sets) (labels_in mid) s stands;
          writable = stands-writable P disjoint r in_P (labels_in sets) (labels_in mid) s stands;
          free = left-free sets mid r dimms gives can.free;
        }

    -- what one within the second leaves
    pub heal-fits : (M : Labels) → table (platform_in mid) M ≡ (state_in mid).table → IsTableOrWith sets r (new_space s) M
    heal-fits M same = inr (ap (λ (rs : List Region). table (with_regions rs) M) (sym regions) ∙ same ∙ ap (λ (t : State). t.table) staged)

    pub put-is : (after : StoredSets) → IsHealedIn mid after s.uuid r → IsPutIn sets after (new_space s) r
    put-is after healed = record {
      table_is = healed.same_table ∙ ap (λ (t : State). t.table) staged;
      marks = healed.marks ∙ ap (λ (t : State). changed_at r s.uuid false t.pending) staged ∙ changed_at-twice r s.uuid false true (state_in sets).pending;
    }
