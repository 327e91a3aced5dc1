-- What passes over the labels of a namespace need of what is kept, and what is kept after them.
use Rattle.std.proofs.Common.{◌≡◌, ℕ, Bool, true, List, map, Option, Some, Result, sym, ap, subst, ◌∙◌}
use Rattle.std.specs.Prelude.{vec_capacity}
use Rattle.std.specs.List.{All, AllZip, Contains}
use Rattle.std.specs.Vec.{with_items}
use Rattle.rig_trait.specs.declared.shown.Shown.{Ghosts}
use Rattle.label_codec.specs.ModuleLabels.{Labels}
use Rattle.extent_alloc.specs.Free.{FreeSpace}
use Rattle.region_map.specs.declared.platform.Platform.{Platform}
use Rattle.region_map.specs.declared.platform.Region.{Region}
use Rattle.region_map.specs.Platforms.{IsSound, region_at}
use Rattle.region_map.proofs.Disjoint.{usable_region}
use Rattle.label_table.specs.Tables.{table}
use Rattle.label_table.proofs.StatusLaws.{ready-parts}
use Rattle.region_labels.specs.declared.modules.LoadedModule.{LoadedModule}
use Rattle.region_labels.specs.declared.region.RegionLabels.{RegionLabels}
use Rattle.region_labels.specs.Fates.{platform_of, region_in, with_regions}
use Rattle.region_labels.specs.Modules.{dimm_of, labels_in}
use Rattle.region_labels.specs.Rooms.{KeepsRegion}
use Rattle.module_flips.specs.declared.flips.AreaFailed.{AreaFailed}
use Rattle.module_flips.specs.Passes.{IsPass, Kept, kept_of}
use Rattle.module_flips.specs.Together.{IsTogether, StaysTogether}
use Rattle.namespace_passes.specs.Dropping.{CanDrop, IsBeforeOrWithout}
use Rattle.namespace_passes.specs.Healing.{CanHeal, IsHealed}
use Rattle.namespace_passes.specs.Passes.{label_number, room_in}
use Rattle.label_sets.specs.declared.sets.Sets.TheInside.{Inside}
use Rattle.label_sets.specs.Dropping.{CanDropIn}
use Rattle.label_sets.specs.Healing.{CanHealIn, IsHealedIn}
use Rattle.label_sets.specs.Kept.{HasFewMembers, IsKept, IsKnownFree, IsKnownReady, shown}
use Rattle.label_sets.specs.Room.{HasRoom}
use Rattle.module_flips.specs.Sweeps.{HasSlotsWithin}
use Rattle.label_sets.specs.Sets.{StoredSets, kept_in, platform_in}
use Rattle.label_sets.specs.Staging.{OfRegion}
use Rattle.label_sets.proofs.KnownReady.{ready-dropped, ready-kept}
use Rattle.label_sets.proofs.EntryCounts.{counts-at, room-kept}
use Rattle.label_sets.proofs.FreeAfter.{known-kept}
use Rattle.label_sets.proofs.Stageable.{one-size-of, region-listed}
use Rattle.label_sets.proofs.Written.{back-is, few-still, same-count, slots-still}

-- The region that the platform has with an index is one of those that are kept.
module _ (P : Platform) (inside : Inside) (kept : IsKept inside) (sets : StoredSets) (same : shown inside ≡ sets) (regions : P.regions ≡ sets.regions) (index : ℕ) (r : Region) (there : region_at P index ≡ Some r) (ms : List LoadedModule) (rs : List RegionLabels)
    (m : ms ≡ inside.modules.items) (n : rs ≡ inside.regions.items) where
  regions-are : P.regions ≡ map region_in inside.regions.items
  regions-are = regions ∙ sym (ap (λ (s : StoredSets). s.regions) same)

  listed : Contains P.regions r
  listed = region-listed P index r there

  pub kept-listed : Contains (map region_in rs) r
  kept-listed = subst (λ xs. Contains xs r) (regions-are ∙ ap (map region_in) (sym n)) listed

  pub found-there : region_at (platform_in sets) index ≡ Some r
  found-there = ap (λ (xs : List Region). region_at (with_regions xs) index) (sym regions) ∙ there

  all-together : IsTogether ms rs
  all-together =
      subst (λ xs. IsTogether xs rs) (sym m)
      (subst (IsTogether inside.modules.items) (sym n) (record { once = kept.once; own = kept.own; in_use = kept.in_use; disjoint = kept.disjoint; over = kept.over }))

  pub can-heal : IsSound P → (uuid : List ℕ) → OfRegion sets index (CanHealIn sets uuid) → CanHeal ms rs r uuid
  can-heal sound uuid heal =
      let can : CanHealIn (shown inside) uuid r = subst (λ (s : StoredSets). CanHealIn s uuid r) (sym same) (heal r found-there) in
      subst (λ xs. CanHeal xs rs r uuid) (sym m) (record {
        together = subst (λ xs. IsTogether xs rs) m all-together;
        region_in = kept-listed;
        same_sizes = one-size-of P r (usable_region P r sound listed (ready-parts (labels_in inside.modules.items) r can.ready).usable);
        whole = can.whole;
        writable = can.writable;
        free = can.free;
      })

  pub can-drop : (uuid : List ℕ) → OfRegion sets index (CanDropIn sets uuid) → CanDrop ms rs r uuid
  can-drop uuid drop =
      let can : CanDropIn (shown inside) uuid r = subst (λ (s : StoredSets). CanDropIn s uuid r) (sym same) (drop r found-there) in
      subst (λ xs. CanDrop xs rs r uuid) (sym m) (record {
        together = subst (λ xs. IsTogether xs rs) m all-together;
        region_in = kept-listed;
        whole = can.whole;
        stale = can.stale;
      })

-- Modules and regions that stay together are written back over what was kept.
module _ (inside : Inside) (kept : IsKept inside) (ms : List LoadedModule) (rs : List RegionLabels) (m : ms ≡ inside.modules.items) (n : rs ≡ inside.regions.items)
    (now : List LoadedModule) (regions_now : List RegionLabels) (together : StaysTogether ms rs now regions_now) where
  pub modules-back : now ≡ (with_items inside.modules now).items
  modules-back = sym (back-is inside.modules now ms m (same-count dimm_of now ms together.dimms))

  pub regions-back : regions_now ≡ (with_items inside.regions regions_now).items
  regions-back = sym (back-is inside.regions regions_now rs n (same-count region_in regions_now rs together.same_regions))

  pub same-regions : map region_in regions_now ≡ map region_in inside.regions.items
  same-regions = together.same_regions ∙ ap (map region_in) n

  -- what holds of the lists holds of what is kept before and after
  pub seen : (sets : StoredSets) → shown inside ≡ sets → (Holds : StoredSets → StoredSets → Type 0) (room : Bool)
      → Holds (record { regions = map region_in rs; modules = ms; room = inside.room }) (record { regions = map region_in rs; modules = now; room = room })
      → Holds sets (record { regions = map region_in (with_items inside.regions regions_now).items; modules = (with_items inside.modules now).items; room = room })
  seen sets same Holds room holds =
      let before : ◌≡◌ {A = StoredSets} (record { regions = map region_in rs; modules = ms; room = inside.room }) sets = (λ i. record { regions = map region_in (n i); modules = m i; room = inside.room }) ∙ same in
      let regions : map region_in rs ≡ map region_in (with_items inside.regions regions_now).items = sym together.same_regions ∙ ap (map region_in) regions-back in
      let after : ◌≡◌ {A = StoredSets} (record { regions = map region_in rs; modules = now; room = room }) (record { regions = map region_in (with_items inside.regions regions_now).items; modules = (with_items inside.modules now).items; room = room }) =
      (λ i. record { regions = regions i; modules = modules-back i; room = room }) in
      subst (λ (s : StoredSets). Holds s (record { regions = map region_in (with_items inside.regions regions_now).items; modules = (with_items inside.modules now).items; room = room })) before
      (subst (λ (t : StoredSets). Holds (record { regions = map region_in rs; modules = ms; room = inside.room }) t) after holds)

  pub still-kept : (free : Option (List FreeSpace)) (ready : Option ℕ) (room : Bool) → IsKnownFree now regions_now free → IsKnownReady now regions_now ready → (room ≡ true → HasRoom regions_now free) → IsKept (record {
    modules = with_items inside.modules now;
    regions = with_items inside.regions regions_now;
    free = free;
    ready = ready;
    slots = inside.slots;
    lost = inside.lost;
    room = room;
  })
  still-kept free ready room known is_ready has =
      let items = (with_items inside.regions regions_now).items in
      let all : IsTogether (with_items inside.modules now).items items = subst (λ xs. IsTogether xs items) modules-back (subst (IsTogether now) regions-back together.together) in
      record {
        once = all.once;
        own = all.own;
        in_use = all.in_use;
        disjoint = all.disjoint;
        over = all.over;
        free = subst (λ xs. IsKnownFree xs items free) modules-back (subst (λ ys. IsKnownFree now ys free) regions-back known);
        ready = subst (λ xs. IsKnownReady xs items ready) modules-back (subst (λ ys. IsKnownReady now ys ready) regions-back is_ready);
        few = subst (All HasFewMembers) regions-back (few-still regions_now inside.regions.items same-regions kept.few);
        slots = subst (All (HasSlotsWithin (vec_capacity inside.slots))) modules-back (slots-still _ now inside.modules.items (together.slots ∙ ap (map _) m) kept.slots);
        lost = subst (All (HasSlotsWithin (vec_capacity inside.lost))) modules-back (slots-still _ now inside.modules.items (together.slots ∙ ap (map _) m) kept.lost);
        room = λ e. subst (λ ys. HasRoom ys free) regions-back (has e);
      }

  -- the table stayed
  pub free-after : table (platform_of rs) (labels_in now) ≡ table (platform_of rs) (labels_in ms) → IsKnownFree now regions_now inside.free
  free-after same_table =
      known-kept inside.modules.items inside.regions.items kept.disjoint now regions_now same-regions inside.free kept.free
      (subst (λ xs. table (platform_of inside.regions.items) (labels_in now) ≡ table (platform_of inside.regions.items) (labels_in xs)) m
      (subst (λ ys. table (platform_of ys) (labels_in now) ≡ table (platform_of ys) (labels_in ms)) n same_table))

  pub ready-after : (ready : Option ℕ) → IsKnownReady inside.modules.items inside.regions.items ready → table (platform_of rs) (labels_in now) ≡ table (platform_of rs) (labels_in ms) → IsKnownReady now regions_now ready
  ready-after ready known same_table =
      ready-kept inside.modules.items inside.regions.items kept.disjoint now regions_now same-regions ready known
      (subst (λ xs. table (platform_of inside.regions.items) (labels_in now) ≡ table (platform_of inside.regions.items) (labels_in xs)) m
      (subst (λ ys. table (platform_of ys) (labels_in now) ≡ table (platform_of ys) (labels_in ms)) n same_table))

  -- the namespace of a region went, or the state stayed
  pub ready-after-drop : (r : Region) → Contains (map region_in rs) r → (u : List ℕ) → IsBeforeOrWithout (platform_of rs) r u (labels_in ms) (labels_in now) → IsKnownReady now regions_now inside.ready
  ready-after-drop r in_P u either =
      ready-dropped inside.modules.items inside.regions.items kept.disjoint now regions_now same-regions r (subst (λ ys. Contains (map region_in ys) r) n in_P) u inside.ready kept.ready
      (subst (λ xs. IsBeforeOrWithout (platform_of inside.regions.items) r u (labels_in xs) (labels_in now)) m
      (subst (λ ys. IsBeforeOrWithout (platform_of ys) r u (labels_in ms) (labels_in now)) n either))

  -- no module has more labels
  pub room-after : AllZip (KeepsRegion room_in) rs regions_now → map label_number now ≡ map label_number ms → inside.room ≡ true → HasRoom regions_now inside.free
  room-after rooms counts e =
      room-kept inside.modules.items now inside.regions.items regions_now inside.free (kept.room e) same-regions kept.over together.together.over
      (subst (λ ys. AllZip (KeepsRegion room_in) ys regions_now) n rooms)
      (counts-at inside.modules.items now (counts ∙ ap (map label_number) m) (together.dimms ∙ ap (map dimm_of) m))

-- A pass over the lists in what is kept is one over what is seen of it.
pub pass-seen : {R T : Type 0} {m : Ghosts R} {old new : R} {result : Result T AreaFailed} {hs : List ℕ} (inside : Inside) (sets : StoredSets) → shown inside ≡ sets → (ms : List LoadedModule) (rs : List RegionLabels) → ms ≡ inside.modules.items → rs ≡ inside.regions.items
    → (now : List LoadedModule) (regions_now : List RegionLabels) (fits : StoredSets → Labels → Type 0) → IsPass hs (fits (record { regions = map region_in rs; modules = ms; room = inside.room })) m (kept_of ms rs) old (kept_of now regions_now) new result
    → IsPass hs (fits sets) m (kept_in sets) old (record { modules = (with_items inside.modules now).items; regions = map region_in (with_items inside.regions regions_now).items }) new result
pass-seen {R} {T} {m} {old} {new} {result} {hs} inside sets view ms rs same same_regions now regions_now fits pass =
    let before : ◌≡◌ {A = StoredSets} (record { regions = map region_in rs; modules = ms; room = inside.room }) sets = (λ i. record { regions = map region_in (same_regions i); modules = same i; room = inside.room }) ∙ view in
    let modules : now ≡ (with_items inside.modules now).items = sym (back-is inside.modules now ms same (same-count dimm_of now ms pass.dimms)) in
    let regions : regions_now ≡ (with_items inside.regions regions_now).items = sym (back-is inside.regions regions_now rs same_regions (same-count region_in regions_now rs pass.regions)) in
    let after : ◌≡◌ {A = Kept} (kept_of now regions_now) (record { modules = (with_items inside.modules now).items; regions = map region_in (with_items inside.regions regions_now).items }) = (λ i. record { modules = modules i; regions = map region_in (regions i) }) in
    subst (λ (s : StoredSets). IsPass hs (fits s) m (kept_in s) old (record { modules = (with_items inside.modules now).items; regions = map region_in (with_items inside.regions regions_now).items }) new result) before
    (subst (λ (k : Kept). IsPass hs (fits (record { regions = map region_in rs; modules = ms; room = inside.room })) m (kept_of ms rs) old k new result) after pass)

-- what a heal makes of the lists, it makes of the state
pub healed-in : (ms : List LoadedModule) (rs : List RegionLabels) (r : Region) (u : List ℕ) (now : List LoadedModule) (regions_now : List RegionLabels) → StaysTogether ms rs now regions_now → (room : Bool) → IsHealed ms rs r u now
    → IsHealedIn (record { regions = map region_in rs; modules = ms; room = room }) (record { regions = map region_in rs; modules = now; room = room }) u r
healed-in ms rs r u now regions_now together room healed = record {
  same_table = healed.same_table;
  marks = healed.marks;
  alike = healed.alike;
  heal = healed.heal;
  others = healed.others;
  elsewhere = healed.elsewhere;
  same_free = healed.same_free;
}
