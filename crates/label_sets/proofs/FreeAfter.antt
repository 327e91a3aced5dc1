-- The free extents that are kept, after the table stayed, or a region gained or lost a namespace.
use Rattle.std.proofs.Common.{◌≡◌, ◌≢◌, inl, inr, ℕ, ◌<◌, List, Option, None, Some, length, get_or, map, sym, ap, subst, ◌∙◌, arith}
use Rattle.std.specs.List.{Contains}
use Rattle.std.proofs.lemmas.Bool.{cases_eq, cases_lt}
use Rattle.std.proofs.lemmas.List.{get_or-map, length-map}
use Rattle.std.proofs.lemmas.List.Elements.{Contains-get_or}
use Rattle.std.proofs.lemmas.Option.{IfSome_then}
use Rattle.view_types.specs.declared.extents.Extent.{Extent}
use Rattle.view_types.specs.Intervals.{AreMaximal, is_free, with_range, without_range}
use Rattle.extent_alloc.specs.Free.{FreeSpace}
use Rattle.region_map.specs.declared.platform.Region.{Region}
use Rattle.region_map.specs.Sound.{AreOrdered}
use Rattle.label_table.specs.Belonging.{IsDisjoint}
use Rattle.label_table.specs.Division.{AreFreeExtents, part_size}
use Rattle.label_table.specs.Spaces.{Space}
use Rattle.label_table.specs.Tables.{table}
use Rattle.region_labels.specs.declared.modules.LoadedModule.{LoadedModule}
use Rattle.region_labels.specs.declared.region.RegionLabels.{RegionLabels}
use Rattle.region_labels.specs.Fates.{platform_of, region_in, with_regions}
use Rattle.region_labels.specs.Modules.{labels_in}
use Rattle.region_labels.specs.GainedSpaces.{GainsNamespace, IsAlone, LosesNamespace}
use Rattle.region_labels.proofs.FreeSpace.{extents-kept, gained-elsewhere, gained-extents, lost-elsewhere, lost-extents}
use Rattle.label_sets.specs.Free.{ChangesAt, ChangesKnown, GainsRange, LosesRange}
use Rattle.label_sets.specs.Kept.{AllFree, IsFree, IsKnownFree}

-- regions of ascending index are apart
ordered-apart : (rs : List Region) (i j : ℕ) (d : Region) → AreOrdered rs → i < j → j < length rs → (get_or rs i d).index < (get_or rs j d).index
ordered-apart rs i j d pairs less lt = pairs i j d less lt

pub regions-apart : (rs : List Region) (i j : ℕ) (d : Region) → AreOrdered rs → i < length rs → j < length rs → i ≢ j → get_or rs i d ≢ get_or rs j d
regions-apart rs i j d pairs i_lt j_lt differ same = elim (cases_lt i j) [
  | inl less ↦
      let up : (get_or rs i d).index < (get_or rs j d).index = ordered-apart rs i j d pairs less j_lt in
      let equal : (get_or rs i d).index ≡ (get_or rs j d).index = ap (λ (r : Region). r.index) same in
      omega (arith, up, equal)
  | inr more ↦
      let up : (get_or rs j d).index < (get_or rs i d).index = ordered-apart rs j i d pairs (omega (arith, more, differ)) i_lt in
      let equal : (get_or rs i d).index ≡ (get_or rs j d).index = ap (λ (r : Region). r.index) same in
      omega (arith, up, equal)
]

module _ (ms : List LoadedModule) (rs : List RegionLabels) (free : List FreeSpace) (was : AllFree ms rs free) (disjoint : IsDisjoint (platform_of rs)) (now : List LoadedModule) (regions_now : List RegionLabels) (same : map region_in regions_now ≡ map region_in rs) where
  each : length regions_now ≡ length rs
  each = sym (length-map regions_now region_in) ∙ ap length same ∙ length-map rs region_in

  there : (k : ℕ) (d : RegionLabels) → k < length rs → (get_or regions_now k d).region ≡ (get_or rs k d).region
  there k d lt =
      sym (get_or-map region_in regions_now k d d.region (subst (λ n. k < n) (sym each) lt)) ∙ ap (λ xs. get_or xs k d.region) same ∙ get_or-map region_in rs k d d.region lt

  listed : (k : ℕ) (d : RegionLabels) → k < length rs → Contains (platform_of rs).regions (get_or rs k d).region
  listed k d lt = subst (λ r. Contains (map region_in rs) r) (get_or-map region_in rs k d d.region lt) (Contains-get_or (map region_in rs) k d.region (subst (λ n. k < n) (sym (length-map rs region_in)) lt))

  -- at one place
  moved : (k : ℕ) (d : RegionLabels) (e : FreeSpace) → k < length rs → AreFreeExtents (platform_of rs) (labels_in now) (get_or rs k d).region e.extents → e.whole ≡ part_size (get_or rs k d).region
      → IsFree now regions_now (get_or regions_now k d) e
  moved k d e lt extents whole = record {
    extents = subst (λ (regions : List Region). AreFreeExtents (with_regions regions) (labels_in now) (get_or regions_now k d).region e.extents) (sym same)
        (subst (λ (r : Region). AreFreeExtents (platform_of rs) (labels_in now) r e.extents) (sym (there k d lt)) extents);
    whole = whole ∙ ap part_size (sym (there k d lt));
  }

  -- each region keeps its free extents
  pub free-as : ((q : Region) → Contains (platform_of rs).regions q → (extents : List Extent) → AreFreeExtents (platform_of rs) (labels_in ms) q extents → AreFreeExtents (platform_of rs) (labels_in now) q extents) → AllFree now regions_now free
  free-as keeps = record {
    each = was.each ∙ sym each;
    is = λ k d e lt.
        let old : k < length rs = subst (λ n. k < n) each lt in
        let had : IsFree ms rs (get_or rs k d) (get_or free k e) = was.is k d e old in
        moved k d (get_or free k e) old (keeps (get_or rs k d).region (listed k d old) (get_or free k e).extents had.extents) had.whole;
  }

  -- the table stayed
  pub free-kept : table (platform_of rs) (labels_in now) ≡ table (platform_of rs) (labels_in ms) → AllFree now regions_now free
  free-kept table_same = free-as (λ q in_q extents are. extents-kept (platform_of rs) disjoint (labels_in ms) (labels_in now) table_same q in_q extents are)

  -- the free space of the region at a place changes in a way, and that of the others stays
  free-changed : (place : ℕ) (region : Region) (Change : FreeSpace → FreeSpace → Type 0) (after : List FreeSpace) → place < length rs → ((d : RegionLabels) → (get_or rs place d).region ≡ region) → AreOrdered (map region_in rs)
      → ((e f : FreeSpace) → AreFreeExtents (platform_of rs) (labels_in ms) region e.extents → e.whole ≡ part_size region → Change e f → AreFreeExtents (platform_of rs) (labels_in now) region f.extents × (f.whole ≡ e.whole))
      → ((q : Region) → Contains (platform_of rs).regions q → q ≢ region → (extents : List Extent) → AreFreeExtents (platform_of rs) (labels_in ms) q extents → AreFreeExtents (platform_of rs) (labels_in now) q extents)
      → ChangesAt place Change free after → AllFree now regions_now after
  free-changed place region Change after within is ordered changes stays changed = record {
    each = changed.each ∙ was.each ∙ sym each;
    is = λ k d e lt.
        let old : k < length rs = subst (λ n. k < n) each lt in
        let had : IsFree ms rs (get_or rs k d) (get_or free k e) = was.is k d e old in
        elim (cases_eq k place) [
          | inl here ↦
              let region_is : (get_or rs k d).region ≡ region = ap (λ j. (get_or rs j d).region) here ∙ is d in
              let change : Change (get_or free k e) (get_or after k e) = subst (λ j. Change (get_or free j e) (get_or after j e)) (sym here) (changed.here e) in
              let before : AreFreeExtents (platform_of rs) (labels_in ms) region (get_or free k e).extents =
              subst (λ (r : Region). AreFreeExtents (platform_of rs) (labels_in ms) r (get_or free k e).extents) region_is had.extents in
              let did = changes (get_or free k e) (get_or after k e) before (had.whole ∙ ap part_size region_is) change in
              moved k d (get_or after k e) old (subst (λ (r : Region). AreFreeExtents (platform_of rs) (labels_in now) r (get_or after k e).extents) (sym region_is) did.0) (did.1 ∙ had.whole)
          | inr differ ↦
              let other : (get_or rs k d).region ≢ region = λ same_region.
              regions-apart (map region_in rs) k place d.region ordered (subst (λ n. k < n) (sym (length-map rs region_in)) old) (subst (λ n. place < n) (sym (length-map rs region_in)) within) differ
              (get_or-map region_in rs k d d.region old ∙ same_region ∙ sym (is d) ∙ sym (get_or-map region_in rs place d d.region within)) in
              subst (IsFree now regions_now (get_or regions_now k d)) (sym (changed.others k e differ))
              (moved k d (get_or free k e) old (stays (get_or rs k d).region (listed k d old) other (get_or free k e).extents had.extents) had.whole)
        ];
  }

  -- the region at a place gained a namespace, whose range was taken out of its free extents
  pub free-gained : (place : ℕ) (region : Region) (new : Space) (after : List FreeSpace) → place < length rs → ((d : RegionLabels) → (get_or rs place d).region ≡ region) → AreOrdered (map region_in rs)
      → GainsNamespace (platform_of rs) region new (labels_in ms) (labels_in now) → ChangesAt place (LosesRange new.offset new.length) free after → AllFree now regions_now after
  free-gained place region new after within is ordered gains = free-changed place region (LosesRange new.offset new.length) after within is ordered
      (λ e f are whole_is lost. (
        gained-extents (platform_of rs) region new (labels_in ms) (labels_in now) gains e.extents f.extents are
            (subst (λ n. AreMaximal n (without_range (is_free e.extents) new.offset new.length) f.extents) whole_is lost.taken),
        lost.whole,
      ))
      (gained-elsewhere (platform_of rs) region new (labels_in ms) (labels_in now) gains)

  -- the region at a place lost a namespace, whose range was given back to its free extents
  pub free-lost : (place : ℕ) (region : Region) (old : Space) (after : List FreeSpace) → place < length rs → ((d : RegionLabels) → (get_or rs place d).region ≡ region) → AreOrdered (map region_in rs)
      → LosesNamespace (platform_of rs) region old (labels_in ms) (labels_in now) → IsAlone (platform_of rs) (labels_in ms) region old → ChangesAt place (GainsRange old.offset old.length) free after → AllFree now regions_now after
  free-lost place region old after within is ordered loses alone = free-changed place region (GainsRange old.offset old.length) after within is ordered
      (λ e f are whole_is gained. (
        lost-extents (platform_of rs) region old (labels_in ms) (labels_in now) loses alone e.extents f.extents are
            (subst (λ n. AreMaximal n (with_range (is_free e.extents) old.offset old.length) f.extents) whole_is gained.released),
        gained.whole,
      ))
      (lost-elsewhere (platform_of rs) region old (labels_in ms) (labels_in now) loses)

-- The same where the free extents are known, and else they are not known afterwards.
module _ (ms : List LoadedModule) (rs : List RegionLabels) (disjoint : IsDisjoint (platform_of rs)) (now : List LoadedModule) (regions_now : List RegionLabels) (same : map region_in regions_now ≡ map region_in rs) where
  pub known-kept : (free : Option (List FreeSpace)) → IsKnownFree ms rs free → table (platform_of rs) (labels_in now) ≡ table (platform_of rs) (labels_in ms) → IsKnownFree now regions_now free
  known-kept free known table_same = IfSome_then free known (λ spaces all. free-kept ms rs spaces all disjoint now regions_now same table_same)

  pub known-gained : (free after : Option (List FreeSpace)) → IsKnownFree ms rs free → (place : ℕ) (region : Region) (new : Space) → place < length rs → ((d : RegionLabels) → (get_or rs place d).region ≡ region) → AreOrdered (map region_in rs)
      → GainsNamespace (platform_of rs) region new (labels_in ms) (labels_in now) → ChangesKnown place (LosesRange new.offset new.length) free after → IsKnownFree now regions_now after
  known-gained None after known place region new within is ordered gains loses = subst (IsKnownFree now regions_now) (sym loses) tt
  known-gained (Some spaces) after all place region new within is ordered gains loses =
      IfSome_then after loses (λ left lost. free-gained ms rs spaces all disjoint now regions_now same place region new left within is ordered gains lost)

  pub known-lost : (free after : Option (List FreeSpace)) → IsKnownFree ms rs free → (place : ℕ) (region : Region) (old : Space) → place < length rs → ((d : RegionLabels) → (get_or rs place d).region ≡ region) → AreOrdered (map region_in rs)
      → LosesNamespace (platform_of rs) region old (labels_in ms) (labels_in now) → IsAlone (platform_of rs) (labels_in ms) region old → ChangesKnown place (GainsRange old.offset old.length) free after → IsKnownFree now regions_now after
  known-lost None after known place region old within is ordered loses alone changes = subst (IsKnownFree now regions_now) (sym changes) tt
  known-lost (Some spaces) after all place region old within is ordered loses alone changes =
      IfSome_then after changes (λ left changed. free-lost ms rs spaces all disjoint now regions_now same place region old left within is ordered loses alone changed)
