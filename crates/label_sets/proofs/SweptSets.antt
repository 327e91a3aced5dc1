-- What is kept beside the modules after one of them was swept, or gave up held labels.
use Rattle.std.proofs.Common.{◌≡◌, inl, inr, ℕ, ◌<◌, ◌≤◌, List, length, get_or, map, Option, sym, ap, subst, ◌∙◌, arith}
use Rattle.std.specs.Prelude.{true, vec_capacity}
use Rattle.std.specs.List.{All}
use Rattle.std.specs.Vec.{with_items}
use Rattle.std.specs.declared.vec.Vec.{Vec}
use Rattle.std.proofs.lemmas.Bool.{cases_eq}
use Rattle.std.proofs.lemmas.Option.{IfSome_then}
use Rattle.extent_alloc.specs.Free.{FreeSpace}
use Rattle.region_map.specs.declared.platform.Platform.{Platform}
use Rattle.region_map.specs.declared.platform.Region.{Region}
use Rattle.region_labels.specs.declared.modules.LoadedModule.{LoadedModule}
use Rattle.region_labels.specs.declared.region.RegionLabels.{RegionLabels}
use Rattle.region_labels.specs.Fates.{region_in}
use Rattle.region_labels.specs.Modules.{EachOnce, dimm_of, labels_in, module_in}
use Rattle.region_labels.specs.Changes.{dimm_at}
use Rattle.region_labels.proofs.ChangedModules.{dimm-at}
use Rattle.module_flips.proofs.Freed.{apart-at}
use Rattle.module_flips.specs.Together.{IsTogether, StaysTogether}
use Rattle.module_flips.specs.Sweeps.{HasNoMoreEntries, HasSlotsWithin, IsSwept}
use Rattle.module_flips.proofs.FreedModules.{no_module}
use Rattle.namespace_passes.proofs.Passing.{still-kept}
use Rattle.label_sets.specs.declared.sets.Sets.TheInside.{Inside}
use Rattle.label_sets.specs.Kept.{IsKept, IsKnownFree, IsKnownReady}
use Rattle.label_sets.specs.Room.{HasRoom}
use Rattle.label_sets.proofs.Written.{back-is, few-still, same-count, slots-still}

-- the seat's module is the one with a device handle
pub seat-named : (ms was : List LoadedModule) (seat dimm : ℕ) → was ≡ ms → seat < length was → ((d : LoadedModule) → (get_or was seat d).dimm ≡ dimm) → dimm_at ms seat ≡ dimm
seat-named ms was seat dimm same lt named = ap (λ xs. dimm_at xs seat) (sym same) ∙ dimm-at was seat no_module lt ∙ named no_module

-- more room is room
pub within-more : (least most : ℕ) (ms : List LoadedModule) → least ≤ most → All (HasSlotsWithin least) ms → All (HasSlotsWithin most) ms
within-more least most ms le all k d lt = let here : (module_in (get_or ms k d)).slots ≤ least = all k d lt in omega (arith, here, le)

-- indexes without more entries have room for as much
pub room-left : (rs now : List RegionLabels) (free : Option (List FreeSpace)) → map region_in now ≡ map region_in rs → ((place : ℕ) (d : RegionLabels) → place < length rs → HasNoMoreEntries (get_or rs place d) (get_or now place d))
    → HasRoom rs free → HasRoom now free
room-left rs now free same keeps has = record {
  labels = λ place d lt.
      let kept : HasNoMoreEntries (get_or rs place d) (get_or now place d) = keeps place d (was place lt) in
      let members : length (get_or now place d).region.members ≡ length (get_or rs place d).region.members = ap (λ (r : Region). length r.members) kept.region in
      let before : length (get_or rs place d).region.members ≤ (get_or rs place d).index.room = has.labels place d (was place lt) in
      let more : (get_or rs place d).index.room ≤ (get_or now place d).index.room = kept.room in
      omega (arith, members, before, more);
  extents = IfSome_then free has.extents (λ spaces rooms place d e lt.
      let kept : HasNoMoreEntries (get_or rs place d) (get_or now place d) = keeps place d (was place lt) in
      let before : length (get_or rs place d).index.entries < (get_or spaces place e).spare = rooms place d e (was place lt) in
      let less : length (get_or now place d).index.entries ≤ length (get_or rs place d).index.entries = kept.entries in
      omega (arith, before, less));
}
  where
    was : (k : ℕ) → k < length now → k < length rs
    was k lt = subst (λ n. k < n) (same-count region_in now rs same) lt

-- what is written back over vectors is what was made of the lists in them
pub written-back : {Z : Type 0} (fact : List LoadedModule → List RegionLabels → List LoadedModule → List RegionLabels → Type 0) (modules : Vec LoadedModule Z) (regions : Vec RegionLabels Z) (ms : List LoadedModule) (rs : List RegionLabels)
    (now : List LoadedModule) (regions_now : List RegionLabels) → ms ≡ modules.items → rs ≡ regions.items → StaysTogether ms rs now regions_now → fact ms rs now regions_now
    → fact modules.items regions.items (with_items modules now).items (with_items regions regions_now).items
written-back fact modules regions ms rs now regions_now same same_regions stays is =
    let m : now ≡ (with_items modules now).items = sym (back-is modules now ms same (same-count dimm_of now ms stays.dimms)) in
    let r : regions_now ≡ (with_items regions regions_now).items = sym (back-is regions regions_now rs same_regions (same-count region_in regions_now rs stays.same_regions)) in
    subst (λ xs. fact xs regions.items (with_items modules now).items (with_items regions regions_now).items) same
    (subst (λ ys. fact ms ys (with_items modules now).items (with_items regions regions_now).items) same_regions
    (subst (λ xs. fact ms rs xs (with_items regions regions_now).items) m (subst (λ ys. fact ms rs now ys) r is)))

-- Modules and regions that go together as before are kept as before, with the free extents and the room that are known.
pub kept-still : (before now : Inside) → IsKept before → StaysTogether before.modules.items before.regions.items now.modules.items now.regions.items → IsKnownFree now.modules.items now.regions.items now.free
    → IsKnownReady now.modules.items now.regions.items now.ready → vec_capacity before.slots ≤ vec_capacity now.slots → vec_capacity before.lost ≤ vec_capacity now.lost → (now.room ≡ true → HasRoom now.regions.items now.free) → IsKept now
kept-still before now kept stays free ready slots lost room = record {
  once = stays.together.once;
  own = stays.together.own;
  in_use = stays.together.in_use;
  disjoint = stays.together.disjoint;
  over = stays.together.over;
  free = free;
  ready = ready;
  few = few-still now.regions.items before.regions.items stays.same_regions kept.few;
  slots = within-more (vec_capacity before.slots) (vec_capacity now.slots) now.modules.items slots (slots-still (vec_capacity before.slots) now.modules.items before.modules.items stays.slots kept.slots);
  lost = within-more (vec_capacity before.lost) (vec_capacity now.lost) now.modules.items lost (slots-still (vec_capacity before.lost) now.modules.items before.modules.items stays.slots kept.lost);
  room = room;
}

pub kept-together : (inside : Inside) → IsKept inside → IsTogether inside.modules.items inside.regions.items
kept-together inside kept = record { once = kept.once; own = kept.own; in_use = kept.in_use; disjoint = kept.disjoint; over = kept.over }

-- where modules and regions did not change, all is kept
pub kept-unchanged : (before now : Inside) → IsKept before → now.modules.items ≡ before.modules.items → now.regions.items ≡ before.regions.items → now.free ≡ before.free → now.ready ≡ before.ready → vec_capacity before.slots ≤ vec_capacity now.slots
    → vec_capacity before.lost ≤ vec_capacity now.lost → now.room ≡ before.room → IsKept now
kept-unchanged before now kept m r free ready slots lost room =
    kept-still before now kept (still-kept before.modules.items before.regions.items now.modules.items now.regions.items (kept-together before kept) m r).together
    (subst (IsKnownFree now.modules.items now.regions.items) (sym free)
    (subst (λ ys. IsKnownFree now.modules.items ys before.free) (sym r) (subst (λ xs. IsKnownFree xs before.regions.items before.free) (sym m) kept.free)))
    (subst (IsKnownReady now.modules.items now.regions.items) (sym ready)
    (subst (λ ys. IsKnownReady now.modules.items ys before.ready) (sym r) (subst (λ xs. IsKnownReady xs before.regions.items before.ready) (sym m) kept.ready)))
    slots lost (λ has. subst (HasRoom now.regions.items) (sym free) (subst (λ ys. HasRoom ys before.free) (sym r) (kept.room (sym room ∙ has))))

-- the module with a handle is swept, where the one at its seat is
pub swept-named : (P : Platform) (ms now : List LoadedModule) (seat dimm : ℕ) → map dimm_of now ≡ map dimm_of ms → EachOnce now → ((d : LoadedModule) → IsSwept P (labels_in now) (get_or now seat d)) → seat < length ms → dimm_at ms seat ≡ dimm
    → (place : ℕ) (d : LoadedModule) → place < length now → (get_or now place d).dimm ≡ dimm → IsSwept P (labels_in now) (get_or now place d)
swept-named P ms now seat dimm dimms once swept lt named place d p_lt is = elim (cases_eq place seat) [
  | inl e ↦ subst (λ k. IsSwept P (labels_in now) (get_or now k d)) (sym e) (swept d)
  | inr differ ↦
      let now_lt : seat < length now = subst (λ n. seat < n) (sym (same-count dimm_of now ms dimms)) lt in
      let at_seat : dimm_at now seat ≡ dimm_at ms seat = ap (λ hs. get_or hs seat 0) dimms in
      absurd (apart-at now once place seat d p_lt now_lt differ (is ∙ sym named ∙ sym at_seat ∙ dimm-at now seat d now_lt))
]
