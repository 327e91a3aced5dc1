-- How an area is refused that is not initialised.
use Rattle.std.proofs.Common.{◌≡◌, ℕ, refl, sym, ap, ◌∙◌}
use Rattle.std.specs.Prelude.{if◌then◌else◌}
use Rattle.view_types.specs.declared.states.AreaState.TheVariants as state
use Rattle.rig_trait.specs.Areas.{Areas}
use Rattle.label_codec.specs.declared.kind.AreaKind.{AreaKind}
use Rattle.label_codec.specs.declared.kind.AreaKind.TheVariants as kind
use Rattle.label_codec.specs.ModuleLabels.{Labels, Module, is_ready}
use Rattle.label_area.specs.Modules.{module_at}
use Rattle.region_map.specs.declared.platform.Platform.{Platform}
use Rattle.region_labels.specs.declared.modules.LoadedModule.{LoadedModule}
use Rattle.region_labels.specs.Held.{spare_in}
use Rattle.region_labels.specs.Modules.{module_in}
use Rattle.region_labels.specs.Statuses.{unready_state}
use Rattle.module_flips.specs.Stored.{StandsIn}
use Rattle.module_flips.proofs.Stored.{stands-module}
use Rattle.label_sets.specs.Init.{refused_by, refused_state}
use Rattle.label_sets.specs.Views.{area_state}

as-kept : (k : AreaKind) (slots spare : ℕ) → refused_by k slots spare (if is_ready k then state.Ready slots spare else unready_state k) ≡ (if is_ready k then state.Ready slots spare else unready_state k)
as-kept kind.Missing slots spare = refl
as-kept kind.WrongSize slots spare = refl
as-kept kind.Uninit slots spare = refl
as-kept kind.Foreign slots spare = refl
as-kept kind.Ready slots spare = refl

-- as it is kept, where both are the area that is stored
pub refused-kept : (P : Platform) (L : Labels) (areas : Areas) (kept read : LoadedModule) → StandsIn areas kept → StandsIn areas read → read.dimm ≡ kept.dimm → refused_state P L kept read ≡ area_state P L kept
refused-kept P L areas kept read stands_kept stands_read dimm =
    let same : module_in read ≡ module_in kept = stands-module areas read stands_read ∙ ap (module_at areas) dimm ∙ sym (stands-module areas kept stands_kept) in
    ap (λ (m : Module). refused_by m.kind m.slots (spare_in P L kept) (area_state P L kept)) same
    ∙ as-kept (module_in kept).kind (module_in kept).slots (spare_in P L kept)
