-- The namespaces of a region, as they are listed.
use Rattle.std.proofs.Common.{◌≡◌, ℕ, List, [], ◌∷◌, length, map, Some, refl, sym, ap, ◌∙◌}
use Rattle.view_types.specs.declared.views.RegionView.{RegionView}
use Rattle.label_codec.specs.ModuleLabels.{Labels}
use Rattle.region_map.specs.declared.platform.Platform.{Platform}
use Rattle.region_map.specs.declared.platform.Region.{Region}
use Rattle.label_table.specs.Namespaces.{namespaces}
use Rattle.label_table.specs.Spaces.{Space}
use Rattle.region_labels.specs.Marks.{listed_in}
use Rattle.label_sets.specs.Views.{IsRegionView}
use Rattle.label_table.proofs.ListTests.{some_is}
use Rattle.label_table.specs.Statuses.{status}
use Rattle.region_map.specs.Platforms.{region_at}
use Rattle.namespace_commands.specs.Lists.{IsReadyView, listed_by, listed_in_view, listed_of, spaces_by, spaces_of}

twice : (labels : Labels) (region : Region) (spaces : List Space) → map (listed_by region.index (length region.members)) (map (listed_in labels region) spaces) ≡ map (listed_of labels region) spaces
twice labels region [] = refl
twice labels region (space ∷ spaces) = ap (λ more. listed_of labels region space ∷ more) (twice labels region spaces)

pub view_lists : (platform : Platform) (labels : Labels) (region : Region) (view : RegionView) → IsRegionView platform labels region view → listed_in_view view ≡ spaces_of labels region
view_lists platform labels region view shows =
    (λ i. map (listed_by (shows.index_is i) (shows.ways_is i)) (shows.namespaces_are i)) ∙ twice labels region (namespaces labels region)

pub ready_lists : (platform : Platform) (labels : Labels) (index : ℕ) (view : RegionView) (ready : IsReadyView platform labels index view) → listed_in_view view ≡ spaces_of labels ready.region
ready_lists platform labels index view ready = view_lists platform labels ready.region view ready.is_view

-- what a region that is Ready adds to a list, and one that is not
pub adds_ready : (platform : Platform) (labels : Labels) (region : Region) (view : RegionView) → region_at platform region.index ≡ Some region → IsReadyView platform labels region.index view
    → listed_in_view view ≡ spaces_by (status labels region) (spaces_of labels region)
adds_ready platform labels region view known ready =
    let same : ready.region ≡ region = some_is (sym ready.found ∙ known) in
    ready_lists platform labels region.index view ready ∙ (λ i. spaces_by (sym ready.ready i) (spaces_of labels (same i))) ∙ ap (λ r. spaces_by (status labels r) (spaces_of labels region)) same
