-- A namespace of a Ready region has its range alone where no held label reaches into it. It is free once the namespace is gone.
use Rattle.std.proofs.Common.{◌≡◌, inl, inr, ℕ, ◌+◌, ◌≤◌, ◌<◌, ◌&&◌, not, List, Option, Some, None, length, get_or, map, sym, ap, subst, ◌∙◌, arith}
use Rattle.std.specs.Prelude.{IfSome, nat_lt}
use Rattle.std.proofs.Math.Bool.{and-false}
use Rattle.std.proofs.lemmas.Bool.{cases_lt}
use Rattle.std.proofs.lemmas.List.{get_or-map, get_or_read}
use Rattle.std.proofs.lemmas.Option.{IfSome_then}
use Rattle.view_types.specs.declared.extents.Extent.{Extent}
use Rattle.view_types.specs.Intervals.{NoneFree, is_free}
use Rattle.extent_alloc.specs.Free.{FreeSpace}
use Rattle.label_codec.specs.ModuleLabels.{Labels}
use Rattle.region_map.specs.declared.platform.Platform.{Platform}
use Rattle.region_map.specs.declared.platform.Region.{Region}
use Rattle.label_table.specs.Division.{has_offset, is_common_free, is_held_at, namespaces_over, part_size}
use Rattle.label_table.specs.Namespaces.{namespaces}
use Rattle.label_table.specs.Spaces.{Space, space}
use Rattle.label_table.specs.Statuses.{RegionReady, status}
use Rattle.label_table.specs.Tables.{State, table, without_space}
use Rattle.label_table.proofs.Clashes.{count_by-one, count_by-zero, first_clash-none, has_offset-from, none_empty}
use Rattle.label_table.proofs.Listed.{namespaces-ascends, namespaces-to, space-not_empty, space-within}
use Rattle.label_table.proofs.ListTests.{eq_other, never}
use Rattle.label_table.proofs.Order.{space-uuid}
use Rattle.label_table.proofs.StatusLaws.{ready-parts}
use Rattle.region_labels.specs.declared.modules.LoadedModule.{LoadedModule}
use Rattle.region_labels.specs.declared.region.RegionLabels.{RegionLabels}
use Rattle.region_labels.specs.Fates.{platform_of, region_in}
use Rattle.region_labels.specs.Modules.{labels_in}
use Rattle.region_labels.specs.LoneRanges.{lone_range}
use Rattle.region_labels.proofs.Reached.{IsLone, lone}
use Rattle.region_labels.specs.GainedSpaces.{LosesNamespace}
use Rattle.namespace_passes.specs.Dropping.{IsDropped}
use Rattle.module_flips.specs.Together.{StaysTogether}
use Rattle.label_sets.specs.Dropping.{CanDropAt, HasAlone, HasAloneAt}
use Rattle.label_sets.specs.Free.{ChangesKnown, GainsRange}
use Rattle.label_sets.specs.Kept.{IsKnownFree, IsKnownReady, IsReadyIn}
use Rattle.label_sets.proofs.FreeAfter.{known-lost}
use Rattle.label_sets.proofs.FreeRoom.{element}

-- an offset of a namespace of a Ready region is in no other
over-one : (L : Labels) (r : Region) (u : List ℕ) (own : Space) → space L r u ≡ Some own → status L r ≡ RegionReady → (o : ℕ) → own.offset ≤ o → o < own.offset + own.length → namespaces_over L r o ≡ 1
over-one L r u own is ready o low high = elim (cases_lt 0 (namespaces_over L r o)) [
  | inl some ↦ omega (arith, some, few)
  | inr none ↦ absurd (never (has_offset o own) (has_offset-from o own low high) (count_by-zero (has_offset o) (namespaces L r) (omega (arith, none)) own (namespaces-to L r u own is)))
]
  where
    few : namespaces_over L r o ≤ 1
    few = count_by-one o (namespaces L r) (namespaces-ascends L r) (first_clash-none (namespaces L r) (namespaces-ascends L r) (none_empty L r) (ready-parts L r ready).calm)

pub alone-there : (P : Platform) (L : Labels) (r : Region) (u : List ℕ) (range : Extent) → status L r ≡ RegionReady → IsLone P L r u range → HasAlone P L r u range
alone-there P L r u range ready lone = record {
  own = lone.own;
  is = lone.is;
  range_is = lone.range_is;
  alone = record { only = over-one L r u lone.own lone.is ready; not_held = lone.unheld_in };
}

-- What a range asks that is given back to the free extents of the region at a place.
module _ (ms : List LoadedModule) (rs : List RegionLabels) (free : Option (List FreeSpace)) (ready : Option ℕ) (place : ℕ) (r : Region) (u : List ℕ) (can : CanDropAt ms rs free ready place r u) (range : Extent) (alone_at : HasAloneAt ms rs place u range) where
  abbrev L : Labels
  L = labels_in ms

  has : HasAlone (platform_of rs) L r u range
  has =
      let d = (element rs place can.within).0 in
      subst (λ (q : Region). HasAlone (platform_of rs) L q u range) (can.is d) (alone_at d)

  pub some-range : 0 < range.len
  some-range =
      let long : 0 < has.own.length = space-not_empty L r u has.own has.is in
      subst (λ (e : Extent). 0 < e.len) (sym has.range_is) long

  pub place-known : IfSome free (λ spaces. place < length spaces)
  place-known = IfSome_then free can.all_free (λ spaces all. subst (λ n. place < n) (sym all.each) can.within)

  pub range-inside : IfSome free (λ spaces. (e : FreeSpace) → range.start + range.len ≤ (get_or spaces place e).whole)
  range-inside = IfSome_then free can.all_free (λ spaces all e.
      let d = (element rs place can.within).0 in
      let within : has.own.offset + has.own.length ≤ part_size r = space-within (platform_of rs) can.can.together.disjoint L r can.can.region_in u has.own has.is in
      let whole : (get_or spaces place e).whole ≡ part_size r = (all.is place d e can.within).whole ∙ ap part_size (can.is d) in
      subst (λ (x : Extent). x.start + x.len ≤ (get_or spaces place e).whole) (sym has.range_is) (subst (λ n. has.own.offset + has.own.length ≤ n) (sym whole) within))

  pub range-taken : IfSome free (λ spaces. (e : FreeSpace) → NoneFree (is_free (get_or spaces place e).extents) range.start range.len)
  range-taken = IfSome_then free can.all_free (λ spaces all e.
      let d = (element rs place can.within).0 in
      subst (λ (x : Extent). NoneFree (is_free (get_or spaces place e).extents) x.start x.len) (sym has.range_is) (λ o low high.
      (all.is place d e can.within).extents.free_in o
      ∙ ap (λ (q : Region). is_common_free (platform_of rs) L q o) (can.is d)
      ∙ (λ i. nat_lt o (part_size r) && (eq_other (namespaces_over L r o) 0 (not-zero o low high) i && not (is_held_at (platform_of rs) L r o)))
      ∙ and-false (nat_lt o (part_size r))))
    where
      not-zero : (o : ℕ) → has.own.offset ≤ o → o < has.own.offset + has.own.length → namespaces_over L r o ≡ 0 → ⊥
      not-zero o low high none = let one : namespaces_over L r o ≡ 1 = has.alone.only o low high in omega (arith, one, none)

  -- the free extents are known after it, as they were before
  pub known-again : (now : List LoadedModule) (regions_now : List RegionLabels) (after : Option (List FreeSpace)) → StaysTogether ms rs now regions_now → IsDropped ms rs r u now → ChangesKnown place (GainsRange range.start range.len) free after
      → IsKnownFree now regions_now after
  known-again now regions_now after together dropped changes =
      let uuid = space-uuid L r u has.own has.is in
      let loses : LosesNamespace (platform_of rs) r has.own L (labels_in now) = record {
        disjoint = can.can.together.disjoint;
        region_in = can.can.region_in;
        was = ap (space L r) uuid ∙ has.is;
        loses = ap (λ (s : State). s.table) dropped.state_is ∙ ap (λ v. without_space r v (table (platform_of rs) L)) (sym uuid);
      } in
      known-lost ms rs can.can.together.disjoint now regions_now together.same_regions free after can.all_free place r has.own can.within can.is can.ordered loses has.alone
      (subst (λ (x : Extent). ChangesKnown place (GainsRange x.start x.len) free after) has.range_is changes)

-- the range that is told of a namespace of the region that is known to be Ready
pub own-range : (ms : List LoadedModule) (rs : List RegionLabels) (ready : Option ℕ) (place : ℕ) (u : List ℕ) (kept : RegionLabels) (range : Option Extent) → IsKnownReady ms rs ready → ready ≡ Some place → place < length rs
    → kept ≡ get_or rs place kept → range ≡ lone_range (platform_of rs) (labels_in ms) kept.region u → IfSome range (HasAloneAt ms rs place u)
own-range ms rs ready place u kept None known here lt at told = tt
own-range ms rs ready place u kept (Some range) known here lt at told = λ d.
    let P = platform_of rs in
    let L = labels_in ms in
    let r : Region = (get_or rs place d).region in
    let is_ready : IsReadyIn L (map region_in rs) place = subst (λ (o : Option ℕ). IfSome o (IsReadyIn L (map region_in rs))) here known in
    let ready_there : status L r ≡ RegionReady = subst (λ (q : Region). status L q ≡ RegionReady) (get_or-map region_in rs place d d.region lt) (is_ready.1 d.region) in
    let told_there : lone_range P L r u ≡ Some range = ap (λ (k : RegionLabels). lone_range P L k.region u) (sym (get_or_read rs place kept lt at d)) ∙ sym told in
    alone-there P L r u range ready_there (lone P L r u range told_there)
