-- Turns that replace labels, one behind the other, keep what each of them keeps.
use Rattle.std.proofs.Common.{◌≡◌, ℕ, ◌<◌, List, [], ◌∷◌, length, map, refl, sym, ap, subst, ◌∙◌, arith}
use Rattle.std.specs.List.{AllZip, Contains}
use Rattle.label_codec.specs.declared.label.Label.{Label}
use Rattle.label_codec.specs.ModuleLabels.{Labels}
use Rattle.region_map.specs.declared.platform.Platform.{Platform}
use Rattle.region_map.specs.declared.platform.Region.{Region}
use Rattle.label_table.specs.Tables.{is_member, table}
use Rattle.region_labels.specs.Rooms.{KeepsRegion}
use Rattle.region_labels.specs.declared.modules.LoadedModule.{LoadedModule}
use Rattle.region_labels.specs.declared.region.RegionLabels.{RegionLabels}
use Rattle.region_labels.specs.Fates.{with_regions}
use Rattle.region_labels.specs.Modules.{dimm_of, labels_in}
use Rattle.module_flips.specs.Together.{IsTogether, StaysTogether, free_slots}
use Rattle.module_flips.proofs.Passes.{at-place, each-length}
use Rattle.namespace_passes.specs.Healing.{CanHeal, CanTurn}
use Rattle.namespace_passes.specs.Namespaces.{IsHealedTo, IsOpen}
use Rattle.namespace_passes.specs.Passes.{HasTableOf, IsStill, room_in}

rooms-still : (rs : List RegionLabels) → AllZip (KeepsRegion room_in) rs rs
rooms-still [] = tt
rooms-still (r ∷ rs) = (record { region = refl; seats = refl; room_is = refl }, rooms-still rs)

rooms-on : (xs ys zs : List RegionLabels) → AllZip (KeepsRegion room_in) xs ys → AllZip (KeepsRegion room_in) ys zs → AllZip (KeepsRegion room_in) xs zs
rooms-on [] [] [] a b = tt
rooms-on [] [] (z ∷ zs) a b = absurd b
rooms-on [] (y ∷ ys) zs a b = absurd a
rooms-on (x ∷ xs) [] zs a b = absurd a
rooms-on (x ∷ xs) (y ∷ ys) [] a b = absurd b
rooms-on (x ∷ xs) (y ∷ ys) (z ∷ zs) a b = (record { region = b.0.region ∙ a.0.region; seats = b.0.seats ∙ a.0.seats; room_is = b.0.room_is ∙ a.0.room_is }, rooms-on xs ys zs a.1 b.1)

pub still-kept : (ms : List LoadedModule) (rs : List RegionLabels) (now : List LoadedModule) (regions_now : List RegionLabels) → IsTogether ms rs → now ≡ ms → regions_now ≡ rs → IsStill ms rs now regions_now
still-kept ms rs now regions_now together kept kept_regions =
    subst (λ (xs : List LoadedModule). IsStill ms rs xs regions_now) (sym kept)
    (subst (λ (xs : List RegionLabels). IsStill ms rs ms xs) (sym kept_regions) (record {
      together = record { dimms = refl; sizes = refl; slots = refl; same_regions = refl; together = together };
      same_free = refl;
      same_counts = refl;
      rooms = rooms-still rs;
    }))

-- A namespace that still stands can still be healed.
pub can-still : (ms : List LoadedModule) (rs : List RegionLabels) (now : List LoadedModule) (regions_now : List RegionLabels) (region : Region) (u : List ℕ) → CanHeal ms rs region u → StaysTogether ms rs now regions_now
    → map free_slots now ≡ map free_slots ms → IsOpen (labels_in now) region u → CanHeal now regions_now region u
can-still ms rs now regions_now region u can stays same_free is_open = record {
  together = stays.together;
  region_in = subst (λ (xs : List Region). Contains xs region) (sym stays.same_regions) can.region_in;
  same_sizes = can.same_sizes;
  whole = is_open.whole;
  writable = is_open.writable;
  free = λ k d lt member.
      let lt_ms : k < length ms = subst (λ n. k < n) (each-length dimm_of ms now stays.dimms) lt in
      subst (λ n. 0 < n) (sym (at-place free_slots ms now same_free k d lt))
      (can.free k d lt_ms (sym (ap (is_member region) (at-place dimm_of ms now stays.dimms k d lt)) ∙ member));
}

pub stays-on : {ms mid now : List LoadedModule} {rs rs_mid rs_now : List RegionLabels} → StaysTogether ms rs mid rs_mid → StaysTogether mid rs_mid now rs_now → StaysTogether ms rs now rs_now
stays-on {ms} {mid} {now} {rs} {rs_mid} {rs_now} first second = record {
  dimms = second.dimms ∙ first.dimms;
  sizes = second.sizes ∙ first.sizes;
  slots = second.slots ∙ first.slots;
  same_regions = second.same_regions ∙ first.same_regions;
  together = second.together;
}

-- two turns
pub still-on : {ms mid now : List LoadedModule} {rs rs_mid rs_now : List RegionLabels} → IsStill ms rs mid rs_mid → IsStill mid rs_mid now rs_now → IsStill ms rs now rs_now
still-on {ms} {mid} {now} {rs} {rs_mid} {rs_now} first second = record {
  together = stays-on first.together second.together;
  same_free = second.same_free ∙ first.same_free;
  same_counts = second.same_counts ∙ first.same_counts;
  rooms = rooms-on rs rs_mid rs_now first.rooms second.rooms;
}

-- what stands for the table after turns that kept it, stands for the one before them
pub table-still : (ms : List LoadedModule) (rs : List RegionLabels) (mid : List LoadedModule) (rs_mid : List RegionLabels) → StaysTogether ms rs mid rs_mid → HasTableOf ms rs (labels_in mid) → (labels : Labels) → HasTableOf mid rs_mid labels → HasTableOf ms rs labels
table-still ms rs mid rs_mid stays same labels has =
    subst (λ (P : Platform). table P labels ≡ table P (labels_in mid)) (ap with_regions stays.same_regions) has ∙ same

-- The next turn can be made.
pub can-turn : (ms : List LoadedModule) (rs : List RegionLabels) (now : List LoadedModule) (regions_now : List RegionLabels) (region : Region) (u : List ℕ) (lead : Label) (position end : ℕ)
    → CanHeal ms rs region u → IsStill ms rs now regions_now → (P : Platform) (start : Labels) → IsHealedTo P region u lead end start (labels_in now)
    → (position ≡ 0 → end ≡ length region.members) → CanTurn now regions_now region u lead position
can-turn ms rs now regions_now region u lead position end can still P start to last = record {
  can = can-still ms rs now regions_now region u can still.together still.same_free to.stands;
  leads = to.leads;
  last = λ first other some lt. to.alike other some (let e : end ≡ length region.members = last first in omega (arith, e, lt)) lt;
}
