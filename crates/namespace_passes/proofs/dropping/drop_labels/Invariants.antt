use Rattle.std.proofs.Common.{◌≡◌, Ok, take}
use Rattle.std.specs.List.{AllZip}
use Rattle.region_labels.specs.Rooms.{KeepsRegion}
use Rattle.region_labels.specs.Fates.{platform_of}
use Rattle.region_labels.specs.Modules.{labels_in}
use Rattle.region_labels.specs.Regions.{handles}
use Rattle.module_flips.specs.Passes.{IsPass, kept_of}
use Rattle.module_flips.specs.Together.{StaysTogether}
use Rattle.namespace_passes.specs.Dropping.{IsBeforeOrWithout}
use Rattle.namespace_passes.proofs.DropEnds.{IsDroppedTo}
use Rattle.namespace_passes.proofs.DropSlots.{HaveGivenTo, room_after_some}
use Rattle.namespace_passes.proofs.dropping.drop_labels.Given as goal

abbrev pub invariant-loop-position : goal.invariant-loop-position
invariant-loop-position g l = record {
  dropped : IsDroppedTo (platform_of l.fn.regions) l.region l.uuid l.position (labels_in l.fn.modules) (labels_in l.modules);
  start : l.position ≡ 0 → l.modules ≡ l.fn.modules;
  given : HaveGivenTo l.region l.position l.fn.modules l.modules;
  room : AllZip (KeepsRegion (room_after_some (take l.position (handles l.region)))) l.fn.regions l.regions;
  together : StaysTogether l.fn.modules l.fn.regions l.modules l.regions;
  pass : IsPass (handles l.region) (IsBeforeOrWithout (platform_of l.fn.regions) l.region l.uuid (labels_in l.fn.modules)) g.R.Shown (kept_of l.fn.modules l.fn.regions) l.fn.rig (kept_of l.modules l.regions) l.rig (Ok (tt {0}));
}
