-- What is kept of modules and regions goes together across a put.
use Rattle.std.proofs.Common.{◌≡◌, ◌≢◌, inl, inr, ℕ, ◌<◌, Bool, true, false, cond, eqb, not, ◌&&◌, ◌||◌, ◌∷◌, [], List, length, get_or, set, map, Option, Some, None, refl, sym, ap, subst, ◌∙◌, arith}
use Rattle.std.specs.List.{All, AllZip}
use Rattle.std.proofs.lemmas.Bool.{cases_eq}
use Rattle.std.proofs.lemmas.List.{ext_get_or, get_or-map, length-map}
use Rattle.label_codec.specs.declared.label.Label.{Label}
use Rattle.label_table.specs.Belonging.{IsDisjoint}
use Rattle.label_area.specs.Flips.{Standing, is_among, replaced}
use Rattle.region_map.specs.declared.platform.Region.{Region}
use Rattle.region_labels.specs.declared.modules.LoadedModule.{LoadedModule}
use Rattle.region_labels.specs.declared.region.RegionLabels.{RegionLabels}
use Rattle.region_labels.specs.Fates.{region_in, with_regions}
use Rattle.region_labels.specs.Modules.{EachOnce, dimm_of, module_in, size_in}
use Rattle.region_labels.specs.Regions.{IsOver}
use Rattle.region_labels.specs.Changes.{IsChangedAt}
use Rattle.region_labels.specs.Rooms.{KeepsRegion}
use Rattle.region_labels.proofs.ChangedModules.{handles-same, once-after}
use Rattle.module_flips.specs.Flips.{HasLabelsInUse, IsOwn, IsPutAt, first_slot_in, standing_in, with_put}
use Rattle.module_flips.proofs.Freed.{at-seat, changed, new-at}
use Rattle.module_flips.specs.Together.{IsTogether, StaysTogether, slots_in}

-- regions that are kept are the same regions
pub same-regions : (room : RegionLabels → ℕ) (rs now : List RegionLabels) → AllZip (KeepsRegion room) rs now → map region_in now ≡ map region_in rs
same-regions room [] [] zip = refl
same-regions room [] (y ∷ ys) zip = absurd zip
same-regions room (x ∷ xs) [] zip = absurd zip
same-regions room (x ∷ xs) (y ∷ ys) zip = λ i. zip.0.region i ∷ same-regions room xs ys zip.1 i

-- what all modules have in common with those before, where the one at a seat has it
module _ {A : Type 0} (f : LoadedModule → A) (before after : List LoadedModule) (seat : ℕ) (changed : IsChangedAt before after seat) (here : (d : LoadedModule) → f (get_or after seat d) ≡ f (get_or before seat d)) where
  same-at : (k : ℕ) (d : LoadedModule) → f (get_or after k d) ≡ f (get_or before k d)
  same-at k d = elim (cases_eq k seat) [
    | inl same ↦ ap (λ j. f (get_or after j d)) same ∙ here d ∙ sym (ap (λ j. f (get_or before j d)) same)
    | inr differ ↦ ap f (changed.others k d differ)
  ]

  pub same-map : (d : LoadedModule) (e : A) → map f after ≡ map f before
  same-map d e = ext_get_or e (map f after) (map f before) (length-map after f ∙ changed.each ∙ sym (length-map before f)) (λ k lt.
      let after_lt : k < length after = subst (λ n. k < n) (length-map after f) lt in
      let before_lt : k < length before = subst (λ n. k < n) changed.each after_lt in
      get_or-map f after k d e after_lt ∙ same-at k d ∙ sym (get_or-map f before k d e before_lt))

-- a fact of each module stays, where it does of the one at a seat
stays-at : (P : LoadedModule → Type 0) (before after : List LoadedModule) (seat : ℕ) → IsChangedAt before after seat → All P before → ((d : LoadedModule) → P (get_or before seat d) → P (get_or after seat d)) → All P after
stays-at P before after seat changed all here = λ k d lt.
    let k_lt : k < length before = subst (λ n. k < n) changed.each lt in
    elim (cases_eq k seat) [
      | inl same ↦ subst (λ j. P (get_or after j d)) (sym same) (here d (subst (λ j. P (get_or before j d)) same (all k d k_lt)))
      | inr differ ↦ subst P (sym (changed.others k d differ)) (all k d k_lt)
    ]

-- a label that is put is in use, and so are the others
put-in_use : (slot : ℕ) (label : Label) (replaces : Option ℕ) (was : Standing) → ((k : ℕ) (l : Label) → was.labels.at k ≡ Some l → was.used k ≡ true)
    → (k : ℕ) (l : Label) → (with_put slot label replaces was).labels.at k ≡ Some l → (with_put slot label replaces was).used k ≡ true
put-in_use slot label replaces was in_use k l at = by (eqb k slot) (is_among (replaced replaces) k) at
  where
    by : (b c : Bool) → cond b (Some (record label { slot = slot })) (cond c None (was.labels.at k)) ≡ Some l → (b || (not c && was.used k)) ≡ true
    by true c e = refl
    by false true e = absurd (none e)
      where
        none : None ≡ Some l → ⊥
        none f = cc
    by false false e = in_use k l e

pub put-together : (modules : List LoadedModule) (regions : List RegionLabels) (now : List LoadedModule) (regions_now : List RegionLabels) (seat : ℕ) (label : Label) (replaces : Option ℕ) (d : LoadedModule)
    → IsTogether modules regions → IsPutAt modules now seat label replaces → map region_in regions_now ≡ map region_in regions → All (IsOver now) regions_now → StaysTogether modules regions now regions_now
put-together modules regions now regions_now seat label replaces d together put same over = record {
  dimms = handles-same modules now seat put.changed;
  sizes = same-map size_in modules now seat put.changed put.size d None;
  slots = same-map slots_in modules now seat put.changed (λ e. ap (λ (s : Standing). s.labels.slots) (put.standing e)) d 0;
  same_regions = same;
  together = record {
    once = once-after modules now seat put.changed together.once;
    own = stays-at IsOwn modules now seat put.changed together.own (λ e own. put.own e);
    in_use = stays-at HasLabelsInUse modules now seat put.changed together.in_use (λ e in_use k l at.
        ap (λ (s : Standing). s.used k) (put.standing e)
        ∙ put-in_use (first_slot_in (get_or modules seat e)) label replaces (standing_in (get_or modules seat e)) in_use k l (sym (ap (λ (s : Standing). s.labels.at k) (put.standing e)) ∙ at));
    disjoint = subst (λ (rs : List Region). IsDisjoint (with_regions rs)) (sym same) together.disjoint;
    over = over;
  };
}

-- a module that is put back with a label more
pub is-put-at : (ms : List LoadedModule) (seat : ℕ) (lt : seat < length ms) (once : EachOnce ms) (x new : LoadedModule) (is : x ≡ get_or ms seat x) (dimm : new.dimm ≡ (get_or ms seat x).dimm) (label : Label) (replaces : Option ℕ)
    → IsOwn new → size_in new ≡ size_in (get_or ms seat x) → standing_in new ≡ with_put (first_slot_in (get_or ms seat x)) label replaces (standing_in (get_or ms seat x)) → IsPutAt ms (set ms seat new) seat label replaces
is-put-at ms seat lt once x new is dimm label replaces own size put = record {
  changed = changed ms seat lt once x new is dimm;
  own = λ d. subst IsOwn (sym (new-at ms seat lt once x new is dimm d)) own;
  size = λ d. ap size_in (new-at ms seat lt once x new is dimm d) ∙ size ∙ ap size_in (sym (at-seat ms seat lt once x new is dimm d));
  standing = λ d. ap standing_in (new-at ms seat lt once x new is dimm d) ∙ put
      ∙ ap (λ (m : LoadedModule). with_put (first_slot_in m) label replaces (standing_in m)) (sym (at-seat ms seat lt once x new is dimm d));
}
