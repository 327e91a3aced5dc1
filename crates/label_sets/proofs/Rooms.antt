-- Room that is made leaves all else as it is.
use Rattle.std.proofs.Common.{◌≡◌, ℕ, ◌+◌, ◌<◌, ◌∷◌, [], List, Option, None, Some, length, get_or, map, take, set, refl, sym, ap, subst, ◌∙◌, inl, inr, arith}
use Rattle.std.specs.Prelude.{IfSome}
use Rattle.std.specs.List.{All}
use Rattle.std.specs.Option.{option_map}
use Rattle.std.specs.Vec.{with_items}
use Rattle.std.specs.declared.vec.Vec.{Vec}
use Rattle.std.proofs.lemmas.Bool.{cases_lt}
use Rattle.std.proofs.lemmas.Grind.{take-set_at, get_or-set_at}
use Rattle.std.proofs.lemmas.List.{get_or-map, get_or-set_other, length-map, with_items_is}
use Rattle.std.proofs.lemmas.List.Elements.{All-push}
use Rattle.std.proofs.lemmas.Option.{same_Some}
use Rattle.extent_alloc.specs.Free.{FreeSpace}
use Rattle.region_map.specs.declared.platform.Platform.{Platform}
use Rattle.region_map.specs.declared.platform.Region.{Region}
use Rattle.region_labels.specs.declared.modules.LoadedModule.{LoadedModule}
use Rattle.region_labels.specs.declared.region.RegionLabels.{RegionLabels}
use Rattle.region_labels.specs.Fates.{platform_of, region_in, with_regions}
use Rattle.region_labels.specs.Modules.{labels_in}
use Rattle.region_labels.specs.Regions.{IsOver}
use Rattle.label_table.specs.Division.{AreFreeExtents, part_size}
use Rattle.label_sets.specs.Kept.{AllFree, HasFewMembers, IsFree, IsKnownFree}
use Rattle.label_sets.specs.Room.{HasExtentRoom, HasLabelRoom, HasRoom, HaveExtentRoom, without_room, without_spare}

-- two lists that agree after a function, at a place
at-place : {A B : Type 0} (f : A → B) (xs ys : List A) → map f xs ≡ map f ys → (place : ℕ) (d e : A) → place < length xs → (place < length ys) × (f (get_or xs place d) ≡ f (get_or ys place e))
at-place f xs ys same place d e lt =
    let lens : length xs ≡ length ys = sym (length-map xs f) ∙ ap length same ∙ length-map ys f in
    let below : place < length ys = omega arith in
    (below, sym (get_or-map f xs place d (f d) lt) ∙ ap (λ zs. get_or zs place (f d)) same ∙ get_or-map f ys place e (f d) below)

pub same-length : {A B : Type 0} (f : A → B) (xs ys : List A) → map f xs ≡ map f ys → length xs ≡ length ys
same-length f xs ys same = sym (length-map xs f) ∙ ap length same ∙ length-map ys f

-- a list that is written back over a vector's
module _ {X Y Z : Type 0} (f : X → Y) (v : Vec X Z) (ws : List X) (same : map f ws ≡ map f v.items) where
  pub written-is : (with_items v ws).items ≡ ws
  written-is = with_items_is v ws (same-length f ws v.items same ∙ sym v.ok.0)

  pub written-same : map f (with_items v ws).items ≡ map f v.items
  written-same = ap (map f) written-is ∙ same

module _ (now was : List RegionLabels) (same : map without_room now ≡ map without_room was) where
  -- the same region, seats and entries
  kept-at : (place : ℕ) (d : RegionLabels) → place < length now → without_room (get_or now place d) ≡ without_room (get_or was place d)
  kept-at place d lt = (at-place without_room now was same place d d lt).1

  pub same-regions : map region_in now ≡ map region_in was
  same-regions = regions now was same
    where
      regions : (xs ys : List RegionLabels) → map without_room xs ≡ map without_room ys → map region_in xs ≡ map region_in ys
      regions xs ys e = sym (through xs) ∙ ap (map region_in) e ∙ through ys
        where
          through : (zs : List RegionLabels) → map region_in (map without_room zs) ≡ map region_in zs
          through [] = refl
          through (z ∷ zs) = ap (λ rs. z.region ∷ rs) (through zs)

  pub still-over : (modules : List LoadedModule) → All (IsOver modules) was → All (IsOver modules) now
  still-over modules over place d lt =
      let before : IsOver modules (get_or was place d) = over place d (at-place without_room now was same place d d lt).0 in
      over-kept (get_or was place d) (get_or now place d) (sym (kept-at place d lt)) before
    where
      over-kept : (a b : RegionLabels) → without_room a ≡ without_room b → IsOver modules a → IsOver modules b
      over-kept a b e is = let there : IsOver modules (without_room b) = subst (IsOver modules) e (record { once = is.once; seats = is.seats; index = is.index }) in
          record { once = there.once; seats = there.seats; index = there.index }

  pub still-few : All HasFewMembers was → All HasFewMembers now
  still-few few place d lt = subst HasFewMembers (sym (kept-at place d lt)) (few place d (at-place without_room now was same place d d lt).0)

  pub still-free : (modules : List LoadedModule) (free : List FreeSpace) → AllFree modules was free → AllFree modules now free
  still-free modules free all = record {
    each = all.each ∙ same-length without_room was now (sym same);
    is = λ place d e lt.
        let before : IsFree modules was (get_or was place d) (get_or free place e) = all.is place d e (at-place without_room now was same place d d lt).0 in
        let r : (get_or was place d).region ≡ (get_or now place d).region = ap region_in (sym (kept-at place d lt)) in
        let P : platform_of was ≡ platform_of now = ap with_regions (sym same-regions) in
        record {
          extents = subst (λ (region : Region). AreFreeExtents (platform_of now) (labels_in modules) region (get_or free place e).extents) r
              (subst (λ (P : Platform). AreFreeExtents P (labels_in modules) (get_or was place d).region (get_or free place e).extents) P before.extents);
          whole = before.whole ∙ ap part_size r;
        };
  }

-- the same free space, with more room
pub still-free-spare : (modules : List LoadedModule) (regions : List RegionLabels) (now was : List FreeSpace) → map without_spare now ≡ map without_spare was → AllFree modules regions was → AllFree modules regions now
still-free-spare modules regions now was same all = record {
  each = same-length without_spare now was same ∙ all.each;
  is = λ place d e lt.
      let len : length now ≡ length was = same-length without_spare now was same in
      let len_was : length was ≡ length regions = all.each in
      let before : IsFree modules regions (get_or regions place d) (get_or was place e) = all.is place d e lt in
      let at : without_spare (get_or was place e) ≡ without_spare (get_or now place e) = sym (at-place without_spare now was same place e e (omega arith)).1 in
      record {
        extents = subst (λ (f : FreeSpace). AreFreeExtents (platform_of regions) (labels_in modules) (get_or regions place d).region f.extents) at before.extents;
        whole = subst (λ (f : FreeSpace). f.whole ≡ part_size (get_or regions place d).region) at before.whole;
      };
}

-- a region more has room in its index
pub room-more : (now : List RegionLabels) (at : ℕ) (kept : RegionLabels) → at < length now → All HasLabelRoom (take at now) → HasLabelRoom kept → All HasLabelRoom (take (at + 1) (set now at kept))
room-more now at kept lt before here = subst (All HasLabelRoom) (sym (take-set_at now at (at + 1) kept refl lt)) (All-push HasLabelRoom (take at now) kept before here)

-- and one more in its free space
pub spare-more : (regions : List RegionLabels) (free : List FreeSpace) (at : ℕ) (new : FreeSpace) → at < length free → ((place : ℕ) (d : RegionLabels) (e : FreeSpace) → place < at → HasExtentRoom (get_or regions place d) (get_or free place e))
    → ((d : RegionLabels) → HasExtentRoom (get_or regions at d) new) → (place : ℕ) (d : RegionLabels) (e : FreeSpace) → place < at + 1 → HasExtentRoom (get_or regions place d) (get_or (set free at new) place e)
spare-more regions free at new lt before here place d e below = elim (cases_lt place at) [
  | inl less ↦ subst (λ (f : FreeSpace). HasExtentRoom (get_or regions place d) f) (sym (get_or-set_other free at place new e (λ same. absurd (omega arith)))) (before place d e less)
  | inr more ↦
      let same : place ≡ at = omega arith in
      subst (λ (f : FreeSpace). HasExtentRoom (get_or regions place d) f) (sym (get_or-set_at free at place new e same lt)) (subst (λ p. HasExtentRoom (get_or regions p d) new) (sym same) (here d))
]

-- The same of free space that is known or not.
module _ (now was : Option (List FreeSpace)) (same : option_map (map without_spare) now ≡ option_map (map without_spare) was) where
  pub known-still : (modules : List LoadedModule) (regions : List RegionLabels) → IsKnownFree modules regions was → IsKnownFree modules regions now
  known-still modules regions known = by now was same known
    where
      by : (a b : Option (List FreeSpace)) → option_map (map without_spare) a ≡ option_map (map without_spare) b → IsKnownFree modules regions b → IsKnownFree modules regions a
      by None b e all = tt
      by (Some xs) None e all = absurd cc
      by (Some xs) (Some ys) e all = still-free-spare modules regions xs ys (same_Some (map without_spare xs) (map without_spare ys) e) all

-- there is room for a change of each of them
pub has-room : (regions was : List RegionLabels) (free : Option (List FreeSpace)) → was ≡ regions → All HasLabelRoom regions → IfSome free (HaveExtentRoom regions) → HasRoom was free
has-room regions was free same labels extents = subst (λ rs. HasRoom rs free) (sym same) (record { labels = labels; extents = extents })
