-- Where the labels of a namespace stand.
use Rattle.std.proofs.Common.{◌≡◌, ℕ, ◌<◌, ◌≤◌, true, List, length, get_or, map, Some, sym, ap, subst, ◌∙◌, arith}
use Rattle.std.specs.Prelude.{slice_index}
use Rattle.std.specs.List.{Contains}
use Rattle.std.proofs.lemmas.List.{get_or-map, length-map}
use Rattle.label_codec.specs.declared.label.Label.{Label}
use Rattle.label_codec.specs.ModuleLabels.{Labels, Module, has, number}
use Rattle.region_map.specs.declared.platform.Region.{Region}
use Rattle.region_map.specs.Platforms.{region_at}
use Rattle.label_table.specs.Belonging.{IsDisjoint, member_at, no_member}
use Rattle.label_table.specs.Plain.{HasOnly}
use Rattle.label_table.specs.Wholes.{is_whole}
use Rattle.label_table.proofs.Confined.{whole-count}
use Rattle.label_table.proofs.ListTests.{Contains-get_or, some_is}
use Rattle.uuid_index.specs.declared.index.Found.{Found}
use Rattle.uuid_index.specs.declared.index.Found.TheVariants.{Nowhere, Once, Repeated}
use Rattle.uuid_index.specs.Found.{IsFoundLabel, IsLive}
use Rattle.uuid_index.specs.Labels.{IsFoundInLabels}
use Rattle.region_labels.specs.declared.modules.LoadedModule.{LoadedModule}
use Rattle.region_labels.specs.declared.region.RegionLabels.{RegionLabels}
use Rattle.region_labels.specs.Fates.{platform_of, region_in}
use Rattle.region_labels.specs.Modules.{labels_in}
use Rattle.region_labels.specs.Regions.{IsOver}
use Rattle.region_labels.proofs.Found.{number-with, only-live}
use Rattle.region_labels.proofs.Seated.{found-here}
use Rattle.module_flips.specs.Together.{IsTogether}
use Rattle.namespace_passes.specs.Healing.{HasOneAt, StandsAt}

-- indexes of regions stand once
pub named-by-index : (rs : List RegionLabels) → IsDisjoint (platform_of rs) → (k : ℕ) (kept : RegionLabels) → k < length rs → kept ≡ get_or rs k kept → (region : Region) → Contains (map region_in rs) region
    → kept.region.index ≡ region.index → kept.region ≡ region
named-by-index rs disjoint k kept lt is region there same =
    let listed : Contains (map region_in rs) kept.region = (k, subst (λ n. k < n) (sym (length-map rs region_in)) lt, get_or-map region_in rs k kept kept.region lt ∙ ap region_in (sym is)) in
    some_is (sym (disjoint.indexes kept.region listed) ∙ ap (region_at (platform_of rs)) same ∙ disjoint.indexes region there)

-- a namespace that stands has one label at each position
pub one-at : (L : Labels) (region : Region) (u : List ℕ) (position : ℕ) → is_whole L region u ≡ true → position < length region.members → HasOneAt L region u position
one-at L region u position whole lt = whole-count region u L (member_at region position) whole (Contains-get_or region.members position no_member lt)

module _ (ms : List LoadedModule) (rs : List RegionLabels) (region : Region) (u : List ℕ) (position : ℕ) (kept : RegionLabels) (together : IsTogether ms rs) (named : kept.region ≡ region) (among : Contains rs kept)
    (one : HasOneAt (labels_in ms) region u position) (lt : position < length region.members) where
  abbrev here : Module
  here = labels_in ms (member_at region position).handle

  pub is-over : IsOver ms kept
  is-over = subst (IsOver ms) among.2 (together.over among.0 kept among.1)

  pub is-position : position < length kept.region.members
  is-position = subst (λ (r : Region). position < length r.members) (sym named) lt

  found : (f : Found) → IsFoundInLabels u position kept.index.entries f → IsFoundLabel u here f
  found f is = subst (λ (r : Region). IsFoundLabel u (labels_in ms (member_at r position).handle) f) named (found-here u kept.region (labels_in ms) kept.index.entries position f is is-over.index is-position)

  number-one : number (has u) here ≡ 1
  number-one = sym (number-with u here) ∙ one

  pub not-nowhere : IsFoundInLabels u position kept.index.entries Nowhere → ⊥
  not-nowhere is = let none : number (has u) here ≡ 0 = found Nowhere is in absurd (omega (arith, none, number-one))

  pub not-repeated : IsFoundInLabels u position kept.index.entries Repeated → ⊥
  not-repeated is = let two : 2 ≤ number (has u) here = found Repeated is in absurd (omega (arith, two, number-one))

  pub live-there : (slot : ℕ) → IsFoundInLabels u position kept.index.entries (Once slot) → IsLive u here slot
  live-there slot is = (found (Once slot) is).1

  pub stands-at : (seat : ℕ) → seat ≡ slice_index kept.seats.items position → (slot : ℕ) → IsFoundInLabels u position kept.index.entries (Once slot)
      → (label : Label) → here.at slot ≡ Some label → StandsAt ms region u position (record { seat = seat; slot = slot; label = label })
  stands-at seat seat_is slot is label at =
      let live : IsLive u here slot = live-there slot is in
      let same : live.label ≡ label = some_is (sym live.is ∙ at) in
      record {
        within = subst (λ s. s < length ms) (sym seat_is) (is-over.seats.within position is-position);
        handle = λ d. subst (λ s. (get_or ms s d).dimm ≡ (member_at region position).handle) (sym seat_is)
            (subst (λ (r : Region). (get_or ms (slice_index kept.seats.items position) d).dimm ≡ (member_at r position).handle) named (is-over.seats.is position d no_member is-position));
        slot_within = live.within;
        is = at;
        has_uuid = subst (λ (l : Label). has u l ≡ true) same live.has_uuid;
        only = subst (λ (l : Label). HasOnly u here l) same (only-live u here slot number-one live);
      }
