use Rattle.std.proofs.Common.{take}
use Rattle.std.specs.List.{AllZip}
use Rattle.label_sets.specs.Sets.{labels_in, platform_in}
use Rattle.label_sets.specs.Views.{IsModuleView}
use Rattle.label_sets.proofs.sets.Sets.module_views.Given as goal

abbrev pub invariant-loop-loaded : goal.invariant-loop-loaded
invariant-loop-loaded l = AllZip (IsModuleView (platform_in l.self) (labels_in l.self)) (take l.loaded-index l.self.modules) l.views
