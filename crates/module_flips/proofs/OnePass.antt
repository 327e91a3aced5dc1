-- A flip of the module at a seat is a pass.
use Rattle.std.proofs.Common.{◌≡◌, ℕ, ◌<◌, List, [], ◌∷◌, length, get_or, map, set, None, Result, Ok, Err, sym, ap, subst, ◌∙◌}
use Rattle.std.specs.Prelude.{IfErr, OnOk}
use Rattle.std.specs.List.{All}
use Rattle.std.specs.Result.{is_err}
use Rattle.std.proofs.lemmas.List.{set-get_or}
use Rattle.rig_trait.specs.declared.shown.Shown.{Ghosts}
use Rattle.rig_trait.specs.Areas.{OthersKept}
use Rattle.rig_trait.specs.Frames.{FailsAt, IsTold, LeavesOnly, WritesTo}
use Rattle.label_codec.specs.ModuleLabels.{Labels}
use Rattle.region_labels.specs.declared.modules.LoadedModule.{LoadedModule}
use Rattle.region_labels.specs.declared.region.RegionLabels.{RegionLabels}
use Rattle.region_labels.specs.Changes.{dimm_at}
use Rattle.region_labels.specs.Fates.{region_in}
use Rattle.region_labels.specs.Modules.{EachOnce, dimm_of, labels_in, size_in}
use Rattle.region_labels.proofs.ChangedModules.{handles-same}
use Rattle.module_flips.specs.declared.flips.AreaFailed.{AreaFailed}
use Rattle.module_flips.specs.Passes.{IsPass, LeftByPass, kept_of}
use Rattle.module_flips.specs.Stored.{StandsIn}
use Rattle.module_flips.proofs.Freed.{at-seat, changed, new-at, seat-dimm, stands-after}
use Rattle.module_flips.proofs.Passes.{cause-one, writes-one}
use Rattle.module_flips.proofs.Together.{same-map}

module _ (ms : List LoadedModule) (seat : ℕ) (lt : seat < length ms) (once : EachOnce ms) (x new : LoadedModule) (is : x ≡ get_or ms seat x) (dimm : new.dimm ≡ (get_or ms seat x).dimm) where
  abbrev here : LoadedModule
  here = get_or ms seat x

  pub kept-labels : new ≡ here → labels_in (set ms seat new) ≡ labels_in ms
  kept-labels same = ap (λ (m : LoadedModule). labels_in (set ms seat m)) same ∙ ap labels_in (set-get_or ms seat x)

  pub flip-pass : {R : Type 0} (m : Ghosts R) (old now : R) (rs regions : List RegionLabels) (fits : Labels → Type 0) (result : Result Unit AreaFailed) → size_in new ≡ size_in here → map region_in regions ≡ map region_in rs → fits (labels_in (set ms seat new))
      → WritesTo here.dimm m old now → FailsAt here.dimm m old now (is_err result) → IfErr result (λ failed. failed.dimm ≡ here.dimm) → m.reads now ≡ m.reads old
      → (IsTold m old → StandsIn (m.areas old) here → OnOk result (StandsIn (m.areas now) new))
      → (IsTold m old → All (StandsIn (m.areas old)) ms → LeavesOnly m old now (LeftByPass (dimm_at ms seat ∷ []) (map dimm_of ms) (m.said old) (m.areas old) fits))
      → IsPass (dimm_at ms seat ∷ []) fits m (kept_of ms rs) old (kept_of (set ms seat new) regions) now result
  flip-pass m old now rs regions fits result size same fit writes fails named reads stood left = record {
    regions = same;
    dimms = handles-same ms (set ms seat new) seat (changed ms seat lt once x new is dimm);
    sizes = same-map size_in ms (set ms seat new) seat (changed ms seat lt once x new is dimm)
        (λ d. ap size_in (new-at ms seat lt once x new is dimm d) ∙ size ∙ sym (ap size_in (at-seat ms seat lt once x new is dimm d))) x None;
    labels = fit;
    stands = λ told all. stand told all result (stood told (all seat x lt));
    any_moment = left;
    writes = writes-one (dimm_at ms seat) old now (subst (λ d. WritesTo d m old now) there writes);
    cause = cause-one (dimm_at ms seat) old now result (subst (λ d. FailsAt d m old now (is_err result)) there fails) (subst (λ d. IfErr result (λ failed. failed.dimm ≡ d)) there named);
    reads = reads;
  }
    where
      there : here.dimm ≡ dimm_at ms seat
      there = sym (seat-dimm ms seat lt once x new is dimm)

      stand : IsTold m old → All (StandsIn (m.areas old)) ms → (r : Result Unit AreaFailed) → OnOk r (StandsIn (m.areas now) new) → OnOk r (All (StandsIn (m.areas now)) (set ms seat new))
      stand told all (Ok value) stored =
          stands-after ms seat lt once x new is dimm (m.areas old) (m.areas now) (subst (λ d. OthersKept d (m.areas old) (m.areas now)) there (writes.others told)) all stored
      stand told all (Err failed) stored = tt
