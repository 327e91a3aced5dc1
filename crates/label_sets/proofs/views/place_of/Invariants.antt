use Rattle.std.proofs.Common.{◌≡◌, drop, find, map}
use Rattle.std.specs.Prelude.{◌==◌}
use Rattle.region_map.specs.declared.platform.Region.{Region}
use Rattle.region_labels.specs.Fates.{region_in}
use Rattle.label_sets.proofs.views.place_of.Given as goal

abbrev pub invariant-loop-place : goal.invariant-loop-place
invariant-loop-place l =
    find (λ (r : Region). r.index == l.index) (map region_in (drop l.place l.regions)) ≡ find (λ (r : Region). r.index == l.index) (map region_in l.regions)
