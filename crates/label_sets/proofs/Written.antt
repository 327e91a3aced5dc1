-- What is kept of modules and regions that were written back over vectors.
use Rattle.std.proofs.Common.{◌≡◌, ℕ, ◌<◌, ◌≤◌, ◌^◌, List, length, get_or, map, sym, ap, subst, ◌∙◌}
use Rattle.std.specs.List.{All}
use Rattle.std.specs.Vec.{with_items}
use Rattle.std.specs.declared.vec.Vec.{Vec}
use Rattle.std.proofs.lemmas.List.{get_or-map, length-map, with_items_is}
use Rattle.region_map.specs.declared.platform.Region.{Region}
use Rattle.region_labels.specs.declared.modules.LoadedModule.{LoadedModule}
use Rattle.region_labels.specs.declared.region.RegionLabels.{RegionLabels}
use Rattle.region_labels.specs.Fates.{region_in}
use Rattle.module_flips.specs.Together.{slots_in}
use Rattle.label_sets.specs.Kept.{HasFewMembers}
use Rattle.module_flips.specs.Sweeps.{HasSlotsWithin}

-- a list that is written back over a vector of as many
pub back-is : {X Z : Type 0} (v : Vec X Z) (ws xs : List X) → xs ≡ v.items → length ws ≡ length xs → (with_items v ws).items ≡ ws
back-is v ws xs same each = with_items_is v ws (each ∙ ap length same ∙ sym v.ok.0)

pub same-count : {X Y : Type 0} (f : X → Y) (xs ys : List X) → map f xs ≡ map f ys → length xs ≡ length ys
same-count f xs ys same = sym (length-map xs f) ∙ ap length same ∙ length-map ys f

-- all slots can still be listed in so much
pub slots-still : (most : ℕ) (now ms : List LoadedModule) → map slots_in now ≡ map slots_in ms → All (HasSlotsWithin most) ms → All (HasSlotsWithin most) now
slots-still most now ms same all = λ k d lt.
    let before : k < length ms = subst (λ n. k < n) (same-count slots_in now ms same) lt in
    let moved : slots_in (get_or now k d) ≡ slots_in (get_or ms k d) =
    sym (get_or-map slots_in now k d 0 lt) ∙ ap (λ xs. get_or xs k 0) same ∙ get_or-map slots_in ms k d 0 before in
    subst (λ n. n ≤ most) (sym moved) (all k d before)

pub few-still : (now rs : List RegionLabels) → map region_in now ≡ map region_in rs → All HasFewMembers rs → All HasFewMembers now
few-still now rs same all = λ k d lt.
    let before : k < length rs = subst (λ n. k < n) (same-count region_in now rs same) lt in
    let moved : (get_or now k d).region ≡ (get_or rs k d).region =
    sym (get_or-map region_in now k d d.region lt) ∙ ap (λ xs. get_or xs k d.region) same ∙ get_or-map region_in rs k d d.region before in
    subst (λ (r : Region). length r.members < 2 ^ 16) (sym moved) (all k d before)
