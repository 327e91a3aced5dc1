-- The form `labels`.
use Rattle.std.proofs.Common.{◌≡◌, ◌≢◌, ℕ, false, List, Option, Some, None, Err, length, refl, sym, ap, ◌∙◌, subst}
use Rattle.std.specs.FinMap.{get}
use Rattle.std.specs.Option.{option_and_then}
use Rattle.rig_trait.specs.declared.shown.Shown.{Ghosts}
use Rattle.rig_trait.specs.Areas.{Areas}
use Rattle.rig_trait.specs.Frames.{FailsAt, IsTold, Reads}
use Rattle.index_block.specs.declared.geometry.Geometry.{Geometry}
use Rattle.index_block.specs.Geometry.{geometry_of}
use Rattle.label_codec.specs.declared.kind.AreaKind.{AreaKind}
use Rattle.label_codec.specs.declared.kind.AreaKind.TheVariants.{Missing, WrongSize, Uninit, Foreign, Ready}
use Rattle.label_area.specs.declared.blocks.Current.{Current}
use Rattle.label_area.specs.declared.load.AreaFault.{AreaFault}
use Rattle.label_area.specs.declared.load.AreaFault.TheVariants as load
use Rattle.label_area.specs.Blocks.{current_block, current_in}
use Rattle.label_area.specs.Faults.{is_load_failed}
use Rattle.label_area.specs.LoadedAreas.{LoadedArea, block_of}
use Rattle.label_area.specs.Loads.{IsFaultOf, IsShown, Loads}
use Rattle.label_area.specs.Modules.{area_kind, module_at}
use Rattle.report_json.specs.Listing.{listing, loaded_listing}
use Rattle.label_codec.specs.ModuleLabels.{Module}
use Rattle.label_area.proofs.Shown.{ready_is}
use Rattle.nd_top.specs.Labels.{IsAnswer, Lists, ListsLabels, Refuses, answer_of, is_failed, labels_answer, listing_answer, not_ready, status_of, text_of}
use Rattle.run_edges.specs.Saying.{Says}

-- an area that is not Ready has no current block
current_block-none : (stored : Option (List ℕ)) → area_kind stored ≢ Ready → current_block stored ≡ None
current_block-none None other = refl
current_block-none (Some bytes) other = by_layout (geometry_of (length bytes) 256) refl
  where
    by_current : (g : Geometry) → geometry_of (length bytes) 256 ≡ Some g → (current : Option Current) → current_in g bytes ≡ current → current ≡ None
    by_current g found None is = refl
    by_current g found (Some current) is = absurd (other (ready_is bytes g found current is))

    by_layout : (layout : Option Geometry) → geometry_of (length bytes) 256 ≡ layout → option_and_then (λ g. current_in g bytes) layout ≡ None
    by_layout None found = refl
    by_layout (Some g) found = by_current g found (current_in g bytes) refl

-- it is refused with its kind
refused_is : (dimm : ℕ) (areas : Areas) (kind : AreaKind) → area_kind (get areas dimm) ≡ kind → kind ≢ Ready → Refuses (not_ready dimm kind) ≡ labels_answer dimm areas
refused_is dimm areas kind is other =
    sym (ap (listing_answer dimm areas) (current_block-none (get areas dimm) (λ ready. other (sym is ∙ ready))) ∙ ap (λ k. Refuses (not_ready dimm k)) is)

listed_is : (dimm : ℕ) (areas : Areas) (area : LoadedArea) → area.dimm ≡ dimm → IsShown area areas → Lists (loaded_listing area) ≡ labels_answer dimm areas
listed_is dimm areas area is shown =
    let current : current_block (get areas dimm) ≡ Some (block_of area) =
    ap (λ (d : ℕ). current_block (get areas d)) (sym is) ∙ ap current_block shown.is_area ∙ shown.current_is in
    sym (ap (listing_answer dimm areas) current ∙ ap (λ (m : Module). Lists (listing (block_of area) m)) (ap (module_at areas) (sym is) ∙ shown.module_is))

unlisted_is : (dimm : ℕ) (areas : Areas) (fault : AreaFault) → IsFaultOf dimm areas fault → IsAnswer dimm areas (answer_of dimm fault)
unlisted_is dimm areas load.Missing is = refused_is dimm areas Missing is.kind_is (λ same. cc)
unlisted_is dimm areas (load.WrongSize size) is = refused_is dimm areas WrongSize is.kind_is (λ same. cc)
unlisted_is dimm areas (load.Uninit size) is = refused_is dimm areas Uninit is.kind_is (λ same. cc)
unlisted_is dimm areas (load.Foreign size) is = refused_is dimm areas Foreign is.kind_is (λ same. cc)
unlisted_is dimm areas load.Failed is = tt
unlisted_is dimm areas load.Memory is = tt

module _ {R : Type 0} (m : Ghosts R) (dimm : ℕ) (old read : R) where
  failed_is : (fault : AreaFault) → FailsAt dimm m old read (is_load_failed {T = LoadedArea} (Err fault)) → FailsAt dimm m old read (is_failed (answer_of dimm fault))
  failed_is load.Missing fails = fails
  failed_is (load.WrongSize size) fails = fails
  failed_is (load.Uninit size) fails = fails
  failed_is (load.Foreign size) fails = fails
  failed_is load.Failed fails = fails
  failed_is load.Memory fails = fails

  -- the area is not loaded
  pub unlisted : (new : R) (status : ℕ) (fault : AreaFault) → Reads m old read → (IsTold m old → Loads dimm (m.areas old) (Err fault)) → FailsAt dimm m old read (is_load_failed {T = LoadedArea} (Err fault))
      → Says m read new (text_of dimm (answer_of dimm fault)) (status_of (answer_of dimm fault)) status → ListsLabels m dimm old new status
  unlisted new status fault reads loads fails says = record {
    read = read;
    reads = reads;
    answer = answer_of dimm fault;
    is_answer = λ told. unlisted_is dimm (m.areas old) fault (loads told);
    faults = failed_is fault fails;
    says = says;
  }

  -- its labels are listed
  pub listed : (new : R) (status : ℕ) (area : LoadedArea) → area.dimm ≡ dimm → Reads m old read → (IsTold m old → IsShown area (m.areas old)) → FailsAt dimm m old read false
      → Says m read new (loaded_listing area) 0 status → ListsLabels m dimm old new status
  listed new status area is reads loads fails says = record {
    read = read;
    reads = reads;
    answer = Lists (loaded_listing area);
    is_answer = λ told. listed_is dimm (m.areas old) area is (loads told);
    faults = fails;
    says = says;
  }
