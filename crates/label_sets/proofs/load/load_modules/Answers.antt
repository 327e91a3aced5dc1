use Rattle.std.proofs.Common.{◌++◌, ◌∷◌, [], map, sym, ap, subst, ◌∙◌, arith}
use Rattle.std.specs.List.{All}
use Rattle.std.proofs.lemmas.List.{map-append, take_more}
use Rattle.std.proofs.lemmas.List.Elements.{All-push}
use Rattle.rig_trait.specs.Areas.{Areas}
use Rattle.rig_trait.proofs.Frames.{reads_on}
use Rattle.region_labels.specs.Modules.{dimm_of}
use Rattle.module_flips.specs.Flips.{HasLabelsInUse, IsOwn}
use Rattle.module_flips.specs.Stored.{StandsIn}
use Rattle.label_sets.proofs.load.load_modules.Goals as goal

pub loop-dimm-preserved : goal.loop-dimm-preserved
loop-dimm-preserved g c =
    let before = c.loop-dimm.invariant in
    let turn = c.in_ok-loaded.ensures in
    let old = c.loop-dimm.modules.items in
    let loaded = c.in_ok-loaded.loaded in
    let items = c.in_ok-push.ensures.items in
    let areas : Areas = g.R.Shown.areas c.args.rig.now in
    record {
      reads_only = reads_on before.reads_only turn.reads_only;
      cause = record { faults = turn.cause.faults ∙ before.cause.faults; failed_dimm = turn.cause.failed_dimm ∙ before.cause.failed_dimm };
      stands = λ told.
          let here = subst (λ (now : Areas). StandsIn now loaded) before.reads_only.areas (turn.stands (before.reads_only.goes_on.tells ∙ told)) in
          subst (All (StandsIn areas)) (sym items) (All-push (StandsIn areas) old loaded (before.stands told) here);
      own = subst (All IsOwn) (sym items) (All-push IsOwn old loaded before.own turn.own);
      in_use = subst (All HasLabelsInUse) (sym items) (All-push HasLabelsInUse old loaded before.in_use turn.in_use);
      handles =
          ap (map dimm_of) items ∙ map-append dimm_of old (loaded ∷ []) ∙ (λ i. before.handles i ++ turn.dimm i ∷ [])
          ∙ sym (take_more c.args.handles.now c.loop-dimm.dimm-index 0 c.loop-dimm-test.true);
      reads = omega (arith, before.reads, turn.reads);
    }
