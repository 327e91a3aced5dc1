-- A module stands once, so the slots that are spare for its handle are its own.
use Rattle.std.proofs.Common.{◌≡◌, ℕ, ◌-◌, ◌<◌, not, List, length, get_or, sym, ap, ◌∙◌}
use Rattle.label_codec.specs.ModuleLabels.{number}
use Rattle.region_map.specs.declared.platform.Platform.{Platform}
use Rattle.label_table.specs.Fates.{is_dead, spare}
use Rattle.region_labels.specs.declared.modules.LoadedModule.{LoadedModule}
use Rattle.region_labels.specs.Held.{spare_in}
use Rattle.region_labels.specs.Modules.{EachOnce, labels_in, module_in}
use Rattle.region_labels.proofs.ChangedModules.{dimm-at, labels-at}

pub spare-there : (P : Platform) (ms : List LoadedModule) → EachOnce ms → (place : ℕ) (x : LoadedModule) → place < length ms → (dimm : ℕ) → (get_or ms place x).dimm ≡ dimm
    → spare_in P (labels_in ms) (get_or ms place x) ≡ spare P (labels_in ms) dimm
spare-there P ms once place x lt dimm named =
    let there : module_in (get_or ms place x) ≡ labels_in ms dimm = sym (labels-at ms place x once lt) ∙ ap (labels_in ms) (dimm-at ms place x lt ∙ named) in
    λ i. (there i).slots - number (λ label. not (is_dead P (labels_in ms) (named i) label)) (there i)
