-- The free slots of the modules, and the room in the indexes of the regions, as one label after the other is freed.
use Rattle.std.proofs.Common.{◌≡◌, ◌≢◌, inl, inr, ℕ, ◌+◌, ◌*◌, ◌<◌, ◌≤◌, true, false, List, [], ◌∷◌, ◌++◌, length, get_or, take, map, refl, sym, ap, subst, ◌∙◌, arith}
use Rattle.std.specs.Prelude.{◌==◌}
use Rattle.std.specs.List.{AllZip, Contains}
use Rattle.std.proofs.lemmas.Bool.{cases_eq}
use Rattle.std.proofs.lemmas.List.{take_all, take_more}
use Rattle.std.proofs.lemmas.List.Sums.{sum_by_push}
use Rattle.region_map.specs.declared.platform.Member.{Member}
use Rattle.region_map.specs.declared.platform.Platform.{Platform}
use Rattle.region_map.specs.declared.platform.Region.{Region}
use Rattle.label_table.specs.Belonging.{IsDisjoint, member_at, no_member}
use Rattle.label_table.specs.Tables.{is_member, slot_of}
use Rattle.label_table.proofs.Confined.{member-cases}
use Rattle.label_table.proofs.Equations.{slot_of-member, slot_of-other}
use Rattle.label_table.proofs.ListTests.{Contains-get_or, eq_same, list_any-at}
use Rattle.region_labels.specs.Rooms.{KeepsRegion, position_count, room_after_free, room_for}
use Rattle.region_labels.specs.declared.modules.LoadedModule.{LoadedModule}
use Rattle.region_labels.specs.declared.region.RegionLabels.{RegionLabels}
use Rattle.region_labels.specs.Modules.{dimm_of}
use Rattle.region_labels.specs.Regions.{handles}
use Rattle.region_labels.proofs.Seated.{handle-at, length-handles}
use Rattle.module_flips.specs.Together.{free_slots}
use Rattle.namespace_passes.specs.Passes.{label_number}
use Rattle.namespace_passes.proofs.Leading.{member-named}
use Rattle.module_flips.proofs.Passes.{at-place, each-length}
use Rattle.namespace_passes.specs.Dropping.{GivesSlot, HasGiven, room_after_drop}

-- The modules at the positions below one have given a label each, and all others are as they were.
pub record HaveGivenTo (r : Region) (end : ℕ) (before after : List LoadedModule) : Type 0 where
  pub gave : (place : ℕ) (d : LoadedModule) → place < length before → (k : ℕ) → k < end → k < length r.members → (get_or before place d).dimm ≡ (member_at r k).handle
      → HasGiven (get_or before place d) (get_or after place d)
  pub left : (place : ℕ) (d : LoadedModule) → place < length before → ((k : ℕ) → k < end → k < length r.members → (get_or before place d).dimm ≢ (member_at r k).handle)
      → get_or after place d ≡ get_or before place d

pub given-start : (r : Region) (ms : List LoadedModule) → HaveGivenTo r 0 ms ms
given-start r ms = record { gave = λ place d p_lt k below lt. absurd (omega (arith, below)); left = λ place d p_lt away. refl }

pub given-more : (P : Platform) → IsDisjoint P → (r : Region) → Contains P.regions r → (i : ℕ) → i < length r.members → (ms mid now : List LoadedModule) → map dimm_of mid ≡ map dimm_of ms
    → HaveGivenTo r i ms mid → GivesSlot (member_at r i).handle mid now → HaveGivenTo r (i + 1) ms now
given-more P disjoint r r_in i lt ms mid now dimms to gives = record {
  gave = λ place d p_lt k below k_lt named. elim (cases_eq k i) [
    | inl e ↦
        let here : (get_or ms place d).dimm ≡ (member_at r i).handle = named ∙ ap (λ j. (member_at r j).handle) e in
        subst (λ (m : LoadedModule). HasGiven m (get_or now place d)) (to.left place d p_lt (λ j j_below j_lt other. apart j i j_lt lt (λ f. absurd (omega (arith, j_below, f))) (sym other ∙ here)))
        (gives.gave place d (mid-lt place p_lt) (same place d p_lt ∙ here))
    | inr differ ↦
        subst (HasGiven (get_or ms place d)) (sym (gives.others place d (mid-lt place p_lt) (λ other. apart k i k_lt lt differ (sym named ∙ sym (same place d p_lt) ∙ other))))
        (to.gave place d p_lt k (omega (arith, below, differ)) k_lt named)
  ];
  left = λ place d p_lt away.
      gives.others place d (mid-lt place p_lt) (λ other. away i (omega arith) lt (sym (same place d p_lt) ∙ other))
      ∙ to.left place d p_lt (λ k below k_lt. away k (omega (arith, below)) k_lt);
}
  where
    mid-lt : (place : ℕ) → place < length ms → place < length mid
    mid-lt place p_lt = subst (λ n. place < n) (sym (each-length dimm_of ms mid dimms)) p_lt

    same : (place : ℕ) (d : LoadedModule) → place < length ms → (get_or mid place d).dimm ≡ (get_or ms place d).dimm
    same place d p_lt = at-place dimm_of ms mid dimms place d (mid-lt place p_lt)

    apart : (j k : ℕ) → j < length r.members → k < length r.members → j ≢ k → (member_at r j).handle ≢ (member_at r k).handle
    apart j k j_lt k_lt differ e = differ (disjoint.positions r j k r_in j_lt k_lt e)

module _ (r : Region) (end : ℕ) (all : length r.members ≤ end) (ms now : List LoadedModule) (to : HaveGivenTo r end ms now) where
  -- the modules of other regions
  pub kept-elsewhere : (place : ℕ) (d : LoadedModule) → place < length ms → is_member r (get_or ms place d).dimm ≡ false → get_or now place d ≡ get_or ms place d
  kept-elsewhere place d p_lt away = to.left place d p_lt (λ k below k_lt e. absurd (apart (sym away
      ∙ list_any-at (λ (y : Member). y.handle == (get_or ms place d).dimm) r.members (member_at r k) (Contains-get_or r.members k no_member k_lt) (eq_same (member_at r k).handle (get_or ms place d).dimm (sym e)))))
    where
      apart : false ≡ true → ⊥
      apart e = cc

  pub all-given : (place : ℕ) (d : LoadedModule) → place < length ms
      → (free_slots (get_or now place d) ≡ free_slots (get_or ms place d) + slot_of r (get_or ms place d).dimm)
      × (label_number (get_or now place d) + slot_of r (get_or ms place d).dimm ≡ label_number (get_or ms place d))
  all-given place d p_lt = elim (member-cases r (get_or ms place d).dimm) [
    | inl found ↦
        let in_x = found.1 in
        let gave : HasGiven (get_or ms place d) (get_or now place d) = to.gave place d p_lt in_x.0 (omega (arith, all, in_x.1)) in_x.1 (sym found.2 ∙ ap (λ (m : Member). m.handle) (sym (member-named r found.0 in_x))) in
        let one : slot_of r (get_or ms place d).dimm ≡ 1 = ap (slot_of r) (sym found.2) ∙ slot_of-member r found.0 in_x in
        (omega (arith, gave.free, one), omega (arith, gave.labels, one))
    | inr away ↦
        let same : get_or now place d ≡ get_or ms place d = kept-elsewhere place d p_lt away.0 in
        let free : free_slots (get_or now place d) ≡ free_slots (get_or ms place d) = ap free_slots same in
        let labels : label_number (get_or now place d) ≡ label_number (get_or ms place d) = ap label_number same in
        let none : slot_of r (get_or ms place d).dimm ≡ 0 = slot_of-other r (get_or ms place d).dimm away.0 in
        (omega (arith, free, none), omega (arith, labels, none))
  ]

-- the room after the modules of some handles have lost a label each
abbrev pub room_after_some : List ℕ → RegionLabels → ℕ
room_after_some dimms kept = kept.index.room + room_for dimms kept.region

pub room-start : (rs : List RegionLabels) → AllZip (KeepsRegion (room_after_some [])) rs rs
room-start [] = tt
room-start (x ∷ xs) = (record { region = refl; seats = refl; room_is = (let same : x.index.room ≡ x.index.room + 0 = omega arith in same) }, room-start xs)

room-push : (dimms : List ℕ) (dimm : ℕ) (old mid now : List RegionLabels) → AllZip (KeepsRegion (room_after_some dimms)) old mid → AllZip (KeepsRegion (room_after_free dimm 1)) mid now
    → AllZip (KeepsRegion (room_after_some (dimms ++ dimm ∷ []))) old now
room-push dimms dimm [] [] [] a b = tt
room-push dimms dimm [] [] (z ∷ zs) a b = absurd b
room-push dimms dimm [] (y ∷ ys) zs a b = absurd a
room-push dimms dimm (x ∷ xs) [] zs a b = absurd a
room-push dimms dimm (x ∷ xs) (y ∷ ys) [] a b = absurd b
room-push dimms dimm (x ∷ xs) (y ∷ ys) (z ∷ zs) a b = (record { region = b.0.region ∙ a.0.region; seats = b.0.seats ∙ a.0.seats; room_is = room }, room-push dimms dimm xs ys zs a.1 b.1)
  where
    room : z.index.room ≡ x.index.room + room_for (dimms ++ dimm ∷ []) x.region
    room =
        let first : y.index.room ≡ x.index.room + room_for dimms x.region = a.0.room_is in
        let more : z.index.room ≡ y.index.room + 1 * position_count dimm y.region = b.0.room_is in
        let same : position_count dimm y.region ≡ position_count dimm x.region = ap (position_count dimm) a.0.region in
        let push : room_for (dimms ++ dimm ∷ []) x.region ≡ room_for dimms x.region + position_count dimm x.region = sum_by_push (λ h. position_count h x.region) dimms dimm in
        omega (arith, first, more, same, push)

pub room-more : (r : Region) (i : ℕ) → i < length r.members → (old mid now : List RegionLabels) → AllZip (KeepsRegion (room_after_some (take i (handles r)))) old mid → AllZip (KeepsRegion (room_after_free (member_at r i).handle 1)) mid now
    → AllZip (KeepsRegion (room_after_some (take (i + 1) (handles r)))) old now
room-more r i lt old mid now a b =
    subst (λ hs. AllZip (KeepsRegion (room_after_some hs)) old now) (sym (take_more (handles r) i 0 (subst (λ n. i < n) (sym (length-handles r)) lt)))
    (room-push (take i (handles r)) (get_or (handles r) i 0) old mid now a (subst (λ h. AllZip (KeepsRegion (room_after_free h 1)) mid now) (sym (handle-at r i lt)) b))

pub room-all : (r : Region) (end : ℕ) → length r.members ≤ end → (old now : List RegionLabels) → AllZip (KeepsRegion (room_after_some (take end (handles r)))) old now → AllZip (KeepsRegion (room_after_drop r)) old now
room-all r end all old now a = subst (λ hs. AllZip (KeepsRegion (room_after_some hs)) old now) (take_all end (handles r) (subst (λ n. n ≤ end) (sym (length-handles r)) all)) a
