use Rattle.std.proofs.Common.{◌≡◌, Ok}
use Rattle.region_labels.specs.Fates.{platform_of}
use Rattle.region_labels.specs.Modules.{labels_in}
use Rattle.region_labels.specs.Regions.{handles}
use Rattle.module_flips.specs.Passes.{IsPass, kept_of}
use Rattle.namespace_passes.specs.Namespaces.{IsHealedTo, IsWellFrom}
use Rattle.namespace_passes.specs.Passes.{HasTableOf, IsStill}
use Rattle.namespace_passes.proofs.heal.heal_others.Given as goal

abbrev pub invariant-loop-position : goal.invariant-loop-position
invariant-loop-position g l = record {
  still : IsStill l.fn.modules l.fn.regions l.modules l.regions;
  pass : IsPass (handles l.region) (HasTableOf l.fn.modules l.fn.regions) g.R.Shown (kept_of l.fn.modules l.fn.regions) l.fn.rig (kept_of l.modules l.regions) l.rig (Ok (tt {0}));
  healed : IsHealedTo (platform_of l.fn.regions) l.region l.uuid l.leading l.position (labels_in l.fn.modules) (labels_in l.modules);
  idle : IsWellFrom 1 (labels_in l.fn.modules) l.region l.uuid l.leading → (l.rig ≡ l.fn.rig) × (l.modules ≡ l.fn.modules);
}
