-- The pending namespaces of a region are healed, one after the other.
use Rattle.std.proofs.Common.{◌≡◌, ℕ, ◌<◌, ◌≤◌, true, false, List, length, get_or, map, Some, None, sym, ap, subst, ◌∙◌, arith}
use Rattle.std.specs.Prelude.{◌==◌, count_by}
use Rattle.std.specs.List.{All}
use Rattle.region_map.specs.declared.platform.Member.{Member}
use Rattle.region_map.specs.declared.platform.Platform.{Platform}
use Rattle.region_map.specs.declared.platform.Region.{Region}
use Rattle.region_map.specs.Platforms.{IsSound, region_at}
use Rattle.label_table.specs.Belonging.{member_at, no_member}
use Rattle.label_table.specs.Namespaces.{namespaces}
use Rattle.label_table.specs.Spaces.{Space, is_pending}
use Rattle.label_table.specs.Statuses.{RegionReady, status}
use Rattle.label_table.specs.Tables.{State, is_member}
use Rattle.label_table.proofs.ListTests.{eq_true, list_any-found}
use Rattle.region_labels.specs.Modules.{dimm_of}
use Rattle.module_flips.specs.Together.{free_slots}
use Rattle.module_flips.proofs.Passes.{at-place, each-length}
use Rattle.label_sets.specs.Healing.{CanHealIn, IsHealedIn}
use Rattle.label_sets.specs.Sets.{StoredSets, labels_in, platform_in, state_in}
use Rattle.module_flips.proofs.FreedModules.{get_or-any}
use Rattle.recovery.specs.Recovery.{HasSpareFree, IsRecovered, pending_count, unhealed_at}
use Rattle.recovery.specs.Steps.{AreHealed, CanHealPending}
use Rattle.recovery.proofs.Counting.{count-le}
use Rattle.recovery.proofs.Full.{spare-each, unhealed-some}
use Rattle.recovery.proofs.Pending.{mark-gone, mark-of, mark-was, pending-less, pending-some, pending-whole, pending-writable, spaces-kept, status-still, found-still}

-- a pending namespace can be healed
pub can-heal : (sets : StoredSets) (r : Region) (u : List ℕ) → CanHealPending sets r → is_pending (labels_in sets) r u ≡ true → CanHealIn sets u r
can-heal sets r u can pending = record {
  ready = can.ready;
  whole = pending-whole (labels_in sets) r u pending;
  writable = pending-writable (labels_in sets) r u pending;
  free = can.free (pending-some (labels_in sets) r u pending);
}

module _ (P : Platform) (sound : IsSound P) (sets now : StoredSets) (same : P.regions ≡ sets.regions) (r : Region) (found : region_at (platform_in sets) r.index ≡ Some r)
    (regions : now.regions ≡ sets.regions) (same_table : (state_in now).table ≡ (state_in sets).table) where
  -- one less is pending after a heal
  pub healed-less : (u : List ℕ) → is_pending (labels_in sets) r u ≡ true → IsHealedIn sets now u r → pending_count (labels_in now) r < pending_count (labels_in sets) r
  healed-less u pending healed =
      let still = found-still P sound sets now same r r.index found regions same_table in
      pending-less (labels_in sets) r (labels_in now) u (spaces-kept P sound sets now same r r.index found regions same_table) pending
      (mark-gone sets now r u healed.marks found still) (mark-was sets now r u healed.marks found still)

  -- the rest can be healed then
  pub can-still : CanHealPending sets r → map free_slots now.modules ≡ map free_slots sets.modules → map dimm_of now.modules ≡ map dimm_of sets.modules
      → pending_count (labels_in now) r ≤ pending_count (labels_in sets) r → CanHealPending now r
  can-still can same_free dimms fewer = record {
    ready = status-still P sound sets now same r r.index found regions same_table ∙ can.ready;
    free = λ some k d lt member.
        let lt_s : k < length sets.modules = subst (λ n. k < n) (each-length dimm_of sets.modules now.modules dimms) lt in
        subst (λ n. 0 < n) (sym (at-place free_slots sets.modules now.modules same_free k d lt))
        (can.free (omega (arith, some, fewer)) k d lt_s (sym (ap (is_member r) (at-place dimm_of sets.modules now.modules dimms k d lt)) ∙ member));
  }

  -- after the sweeps, by which the state stays, there is a free slot for each spare one
  module _ (same_state : state_in now ≡ state_in sets) (dimms : map dimm_of now.modules ≡ map dimm_of sets.modules) (swept : All (HasSpareFree now r) now.modules) where
    pending-back : (u : List ℕ) → is_pending (labels_in now) r u ≡ true → is_pending (labels_in sets) r u ≡ true
    pending-back u e = sym (mark-of sets r found u) ∙ ap (λ (t : State). t.pending r.index u) (sym same_state) ∙ mark-of now r (found-still P sound sets now same r r.index found regions same_table) u ∙ e

    no-more : pending_count (labels_in now) r ≤ pending_count (labels_in sets) r
    no-more = subst (λ (ss : List Space). count_by (λ (s : Space). is_pending (labels_in now) r s.uuid) ss ≤ pending_count (labels_in sets) r) (sym (spaces-kept P sound sets now same r r.index found regions same_table))
        (count-le (λ (s : Space). is_pending (labels_in sets) r s.uuid) (λ (s : Space). is_pending (labels_in now) r s.uuid) (λ s. pending-back s.uuid) (namespaces (labels_in sets) r))

    pub can-after : status (labels_in sets) r ≡ RegionReady → unhealed_at sets r ≡ None → CanHealPending now r
    can-after ready none = record {
      ready = status-still P sound sets now same r r.index found regions same_table ∙ ready;
      free = λ some k d lt member.
          let dimm = (get_or now.modules k d).dimm in
          let there = list_any-found (λ (x : Member). x.handle == dimm) r.members member in
          let j : ℕ = there.1.0 in
          let j_lt : j < length r.members = there.1.1 in
          let at : member_at r j ≡ there.0 = get_or-any r.members j j_lt no_member there.0 ∙ there.1.2 in
          let named : (member_at r j).handle ≡ dimm = ap (λ (x : Member). x.handle) at ∙ eq_true there.0.handle dimm there.2 in
          let was : 0 < pending_count (labels_in sets) r = let few = no-more in omega (arith, some, few) in
          let has : 0 < (state_in sets).table.spare (member_at r j).handle = spare-each (state_in sets).table.spare r.members (sym (unhealed-some sets r was) ∙ none) j j_lt in
          subst (λ n. 0 < n) (sym (swept k d lt member ∙ ap (λ (t : State). t.table.spare dimm) same_state ∙ ap (state_in sets).table.spare (sym named))) has;
    }

-- the region is recovered
pub recovered : (sets mid now : StoredSets) (r : Region) → state_in mid ≡ state_in sets → All (HasSpareFree mid r) mid.modules → (state_in now).table ≡ (state_in mid).table → map dimm_of now.modules ≡ map dimm_of mid.modules → AreHealed mid now r → IsRecovered sets now r
recovered sets mid now r same swept same_table dimms healed = record {
  same_table = same_table ∙ ap (λ (t : State). t.table) same;
  none_pending = healed.none_pending;
  others = λ index u other. healed.others index u other ∙ ap (λ (t : State). t.pending index u) same;
  free = λ k d lt member.
      let lt_mid : k < length mid.modules = subst (λ n. k < n) (each-length dimm_of mid.modules now.modules dimms) lt in
      let named : (get_or now.modules k d).dimm ≡ (get_or mid.modules k d).dimm = at-place dimm_of mid.modules now.modules dimms k d lt in
      at-place free_slots mid.modules now.modules healed.same_free k d lt
      ∙ swept k d lt_mid (sym (ap (is_member r) named) ∙ member)
      ∙ ap (state_in mid).table.spare (sym named)
      ∙ (λ i. (sym same_table i).spare (get_or now.modules k d).dimm);
}

-- where no uuid is pending, the state tells so
pub none-left : (sets : StoredSets) (r : Region) → region_at (platform_in sets) r.index ≡ Some r → ((u : List ℕ) → is_pending (labels_in sets) r u ≡ false) → (u : List ℕ) → (state_in sets).pending r.index u ≡ false
none-left sets r found none u = mark-of sets r found u ∙ none u
