use Rattle.std.proofs.Common.{◌≡◌, List, ◌∙◌}
use Rattle.region_map.specs.Records.{region_parts}
use Rattle.region_map.proofs.Ordered.{parts_by_index}
use Rattle.region_map.proofs.platform.Platform.of.Goals as goal

pub returns-clause-platform : goal.returns-clause-platform
returns-clause-platform c =
    let pieces = c.args.nfit.now.pieces in
    let order = rw c.as_slice-pieces.ensures at c.in_ok-ranges.ensures in
    let found = rw (c.deref.ensures.value, c.as_slice-pieces.ensures) at c.in_ok-parts.ensures in
    let parts : c.in_ok-parts.parts.items ≡ region_parts pieces = found ∙ parts_by_index pieces c.in_ok-ranges.ranges.items order.same in
    let controls = rw c.as_slice-pieces.ensures at c.in_ok-controls.ensures in
    record {
      regions = record {
        ranges = c.in_ok-ranges.ranges.items;
        order = order;
        each = rw (c.deref-2.ensures.value, c.deref-3.ensures.value, c.deref-4.ensures.value, parts, controls) at c.in_ok-regions.ensures;
      };
      modules = rw c.as_slice-pieces.ensures at c.in_ok-modules.ensures;
      tables = rw c.as_slice-pieces.ensures at c.in_ok-tables_by_index.ensures;
    }

pub returns-clause-sound : goal.returns-clause-sound
returns-clause-sound c = record { nfit = c.args.nfit.now; proper = c.requires; platform_of = returns-clause-platform c }
