-- What is kept of a module is what the area that is stored stands for.
use Rattle.std.proofs.Common.{◌≡◌, ◌≢◌, ℕ, Bool, true, false, ◌||◌, cond, is_some, List, length, Option, Some, None, Result, Ok, Err, refl, sym, ap, subst, ◌∙◌}
use Rattle.std.specs.Prelude.{IsSome, IfOk}
use Rattle.std.specs.FinMap.{get}
use Rattle.std.specs.Option.{option_and_then, option_map}
use Rattle.rig_trait.specs.declared.shown.Shown.{Ghosts}
use Rattle.rig_trait.specs.Areas.{Areas, size_in}
use Rattle.rig_trait.specs.Frames.{FailsAt}
use Rattle.index_block.specs.declared.geometry.Geometry.{Geometry}
use Rattle.index_block.specs.Geometry.{geometry_of}
use Rattle.label_codec.specs.declared.kind.AreaKind.{AreaKind}
use Rattle.label_codec.specs.declared.kind.AreaKind.TheVariants as kind
use Rattle.label_area.specs.declared.blocks.Current.{Current}
use Rattle.label_area.specs.declared.layouts.Layouts.{Layouts}
use Rattle.label_area.specs.declared.load.AreaFault.{AreaFault}
use Rattle.label_area.specs.declared.load.AreaFault.TheVariants as fault
use Rattle.label_area.specs.Blocks.{current_block, current_in, is_block, kinds_in, seq_in}
use Rattle.label_area.specs.Layouts.{layouts_of}
use Rattle.label_area.specs.Faults.{is_load_failed}
use Rattle.label_area.specs.LoadedAreas.{IsSound, LoadedArea}
use Rattle.label_area.specs.Loads.{Loads}
use Rattle.label_area.specs.Modules.{area_kind, live_by, module_at, module_of, slots_by, kind_by_layouts}
use Rattle.label_area.proofs.Shown.{ready_is}
use Rattle.region_labels.specs.declared.modules.LoadedModule.{LoadedModule}
use Rattle.region_labels.specs.declared.modules.ModuleArea.{ModuleArea}
use Rattle.region_labels.specs.declared.modules.ModuleArea.TheVariants.{Missing, WrongSize, Uninit, Foreign, Ready}
use Rattle.region_labels.specs.Modules.{module_in, size_of_area, without_labels}
use Rattle.region_labels.specs.Modules as loaded
use Rattle.module_flips.specs.Flips.{HasLabelsInUse, IsAreaOf, IsSizedIn}
use Rattle.module_flips.specs.Stored.{StandsIn, StoredAs}

-- an area that is not Ready has no labels
pub no_block : (bytes : List ℕ) → area_kind (Some bytes) ≢ kind.Ready → current_block (Some bytes) ≡ None
no_block bytes differ = by (geometry_of (length bytes) 256) refl
  where
    by : (o : Option Geometry) → geometry_of (length bytes) 256 ≡ o → current_block (Some bytes) ≡ None
    by None e = ap (option_and_then (λ g. current_in g bytes)) e
    by (Some g) e = at (current_in g bytes) refl
      where
        at : (current : Option Current) → current_in g bytes ≡ current → current_block (Some bytes) ≡ None
        at None none = ap (option_and_then (λ h. current_in h bytes)) e ∙ none
        at (Some current) is = absurd (differ (ready_is bytes g e current is))

pub unready : (stored : Option (List ℕ)) (k : AreaKind) → area_kind stored ≡ k → k ≢ kind.Ready → without_labels k ≡ module_of stored
unready None k is differ = ap without_labels (sym is)
unready (Some bytes) k is differ =
    let none : current_block (Some bytes) ≡ None = no_block bytes (λ e. differ (sym is ∙ e)) in
    sym (λ i. record { kind = is i; slots = slots_by (none i); at = live_by (none i) bytes })

stored-module : (areas : Areas) (dimm : ℕ) (area : ModuleArea) → StoredAs areas dimm area → loaded.module_of area ≡ module_at areas dimm
stored-module areas dimm Missing is = unready (get areas dimm) kind.Missing is (λ e. absurd cc)
stored-module areas dimm (WrongSize size) is = unready (get areas dimm) kind.WrongSize is.0 (λ e. absurd cc)
stored-module areas dimm (Uninit size) is = unready (get areas dimm) kind.Uninit is.0 (λ e. absurd cc)
stored-module areas dimm (Foreign size) is = unready (get areas dimm) kind.Foreign is.0 (λ e. absurd cc)
stored-module areas dimm (Ready area) stored = sym stored.1.module_is ∙ ap (module_at areas) stored.0

pub stands-module : (areas : Areas) (m : LoadedModule) → StandsIn areas m → module_in m ≡ module_at areas m.dimm
stands-module areas m stands = stored-module areas m.dimm m.area stands

-- an area that is there is not Missing
missing-none : (stored : Option (List ℕ)) → area_kind stored ≡ kind.Missing → stored ≡ None
missing-none None is = refl
missing-none (Some bytes) is = absurd (by_layouts (layouts_of (length bytes)) is)
  where
    by_blocks : (ready foreign : Bool) → cond ready kind.Ready (cond foreign kind.Foreign kind.Uninit) ≡ kind.Missing → ⊥
    by_blocks true foreign e = cc
    by_blocks false true e = cc
    by_blocks false false e = cc

    by_layouts : (layouts : Option Layouts) → kind_by_layouts layouts bytes ≡ kind.Missing → ⊥
    by_layouts None e = cc
    by_layouts (Some layouts) e =
        let kinds = kinds_in layouts bytes in
        by_blocks (is_some (seq_in kinds.first) || is_some (seq_in kinds.second)) (is_block kinds.first || is_block kinds.second || is_block kinds.old_second) e

stored-sized : (areas : Areas) (dimm : ℕ) (area : ModuleArea) → StoredAs areas dimm area → size_in areas dimm ≡ size_of_area area
stored-sized areas dimm Missing is = ap (option_map length) (missing-none (get areas dimm) is)
stored-sized areas dimm (WrongSize size) is = is.1
stored-sized areas dimm (Uninit size) is = is.1
stored-sized areas dimm (Foreign size) is = is.1
stored-sized areas dimm (Ready area) is = ap (size_in areas) (sym is.0) ∙ ap (option_map length) is.1.is_area ∙ ap Some is.1.size_is

-- a module that stands in its area shows the size of that
pub stands-sized : (areas : Areas) (m : LoadedModule) → StandsIn areas m → IsSizedIn areas m
stands-sized areas m stands = stored-sized areas m.dimm m.area stands
