-- What a pass that marks the labels leaves can be dropped, and what a drop leaves has lost the namespace.
use Rattle.std.proofs.Common.{◌≡◌, ℕ, true, List, Some, sym, ap, subst, ◌∙◌}
use Rattle.std.specs.List.{Contains}
use Rattle.region_map.specs.declared.platform.Region.{Region}
use Rattle.label_table.specs.Flips.{AllStale}
use Rattle.label_table.specs.Spaces.{Space, space}
use Rattle.label_table.specs.Tables.{State, table, without_space}
use Rattle.label_table.specs.Wholes.{is_whole}
use Rattle.label_table.proofs.Order.{space-uuid}
use Rattle.region_labels.specs.GainedSpaces.{LosesNamespace}
use Rattle.region_labels.specs.declared.modules.LoadedModule.{LoadedModule}
use Rattle.region_labels.specs.declared.region.RegionLabels.{RegionLabels}
use Rattle.region_labels.specs.Fates.{platform_of}
use Rattle.region_labels.specs.Modules.{labels_in}
use Rattle.module_flips.specs.Together.{StaysTogether}
use Rattle.namespace_passes.specs.Healing.{CanHeal}
use Rattle.namespace_passes.specs.Dropping.{CanDrop, IsDropped}

pub can-drop : (ms : List LoadedModule) (rs : List RegionLabels) (now : List LoadedModule) (regions_now : List RegionLabels) (region : Region) (u : List ℕ) → CanHeal ms rs region u → StaysTogether ms rs now regions_now
    → is_whole (labels_in now) region u ≡ true → AllStale region u (labels_in now) → CanDrop now regions_now region u
can-drop ms rs now regions_now region u can stays whole stale = record {
  together = stays.together;
  region_in = subst (λ (xs : List Region). Contains xs region) (sym stays.same_regions) can.region_in;
  whole = whole;
  stale = stale;
}

pub loses-namespace : (ms : List LoadedModule) (rs : List RegionLabels) (region : Region) (u : List ℕ) (now : List LoadedModule) (old : Space) → CanDrop ms rs region u → IsDropped ms rs region u now
    → space (labels_in ms) region u ≡ Some old → LosesNamespace (platform_of rs) region old (labels_in ms) (labels_in now)
loses-namespace ms rs region u now old can dropped was =
    let uuid_is : old.uuid ≡ u = space-uuid (labels_in ms) region u old was in
    record {
      disjoint = can.together.disjoint;
      region_in = can.region_in;
      was = ap (space (labels_in ms) region) uuid_is ∙ was;
      loses = ap (λ (s : State). s.table) dropped.state_is ∙ ap (λ v. without_space region v (table (platform_of rs) (labels_in ms))) (sym uuid_is);
    }
