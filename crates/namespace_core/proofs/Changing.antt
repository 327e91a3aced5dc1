-- The commands that change areas.
use Rattle.std.proofs.Common.{◌≡◌, inl, inr, ℕ, false, true, List, ◌∷◌, [], Result, Ok, Err, refl, sym, subst, ◌∙◌}
use Rattle.std.specs.Prelude.{IfOk, IfErr, OnOk}
use Rattle.view_types.specs.declared.reply.Reply.{Reply}
use Rattle.view_types.specs.Replies.{WhereRefused, is_change}
use Rattle.rig_trait.specs.declared.shown.Shown.{Ghosts}
use Rattle.rig_trait.specs.Areas.{Areas}
use Rattle.rig_trait.specs.Frames.{LeavesOnly, Reads}
use Rattle.rig_trait.proofs.Frames.{no_call}
use Rattle.label_codec.specs.ModuleLabels.{Labels}
use Rattle.region_map.specs.declared.platform.Platform.{Platform}
use Rattle.module_flips.specs.Stops.{HasAreaCause, LeftIn}
use Rattle.module_flips.proofs.Passes.{in-left}
use Rattle.label_table.specs.Tables.{State, state}
use Rattle.label_sets.specs.Init.{slots_at}
use Rattle.label_sets.specs.Sets.{StoredSets, labels_in}
use Rattle.table_steps.specs.Steps as steps
use Rattle.table_steps.proofs.OneStep.{does-or}
use Rattle.cmd_words.specs.declared.parts.Part.TheVariants as parts
use Rattle.cmd_words.specs.declared.parts.Change.{Change}
use Rattle.cmd_words.specs.declared.parts.Change.TheVariants.{InitLabels}
use Rattle.namespace_commands.specs.declared.creation.ChangeFault.{ChangeFault}
use Rattle.namespace_commands.specs.declared.creation.ChangeFault.TheVariants.{Area, Memory}
use Rattle.namespace_commands.specs.Commands.{IsChange}
use Rattle.namespace_commands.specs.Create.{WhereMemory, area_failed}
use Rattle.namespace_commands.specs.EachChange.{IsChangeDone, written_by}
use Rattle.namespace_commands.specs.Initialising.{InitialisesAnyhow, InitialisesArea, IsInit, Stand}
use Rattle.namespace_commands.specs.Lists.{IsStateOf}
use Rattle.namespace_commands.specs.Releases.{IsAreaOf}
use Rattle.namespace_commands.proofs.RecoveredSpaces.{state-there}
use Rattle.namespace_core.specs.Commands.{Does, IsBeforeOrAfter, SaysIfKnown, is_init, result_changes}
use Rattle.namespace_core.specs.Done.{IsDone, run_by}
use Rattle.namespace_core.specs.Faults.{HasRunCause, IsRunAmong, IsRunAt}
use Rattle.namespace_core.proofs.Found.{no-bytes, said-told, says-fact}

-- A reply that changes nothing is a refusal.
abbrev IsQuiet : Reply → Type 1
IsQuiet reply = is_change reply ≡ false → (fact : Type 0) → WhereRefused fact reply → fact

quiet-step : (P : Platform) (slots : ℕ → ℕ) (L : Labels) (change : Change) (own : List ℕ) (reply : Reply) (after : State) → steps.Does P slots L change own reply after → IsQuiet reply
quiet-step P slots L change own reply after does unchanged fact has = elim (does-or P L slots change own reply after does) [
  | inl changes ↦ absurd (let differ : true ≡ false = sym changes ∙ unchanged in cc)
  | inr (refusal, is, same) ↦ subst (WhereRefused fact) is has
]

quiet-init : (P : Platform) (L : Labels) (dimm : ℕ) (slots : ℕ) (own : List ℕ) (reply : Reply) (after : State) → InitialisesAnyhow P L dimm slots reply after → IsQuiet reply
quiet-init P L dimm slots own reply after (inl does) unchanged fact has = quiet-step P (λ _. slots) L (InitLabels dimm) own reply after does unchanged fact has
quiet-init P L dimm slots own reply after (inr found) unchanged fact has = subst (WhereRefused fact) found.reply_is has

change-kept : (does : Reply → State → Type 0) (after : State) → ((reply : Reply) → does reply after → IsQuiet reply) → (fact : Type 0) (result : Result Reply ChangeFault)
    → IfOk result (λ reply. does reply after) → IfOk result (WhereRefused fact) → IfErr result (WhereMemory fact) → result_changes (run_by result) ≡ false → fact
change-kept does after quiet fact (Ok reply) done refused memory unchanged = quiet reply done unchanged fact refused
change-kept does after quiet fact (Err (Area dimm)) done refused memory unchanged = absurd (let differ : true ≡ false = unchanged in cc)
change-kept does after quiet fact (Err Memory) done refused memory unchanged = memory

ok-run : (fact : Reply → Type 0) (result : Result Reply ChangeFault) → IfOk result fact → IfOk (run_by result) fact
ok-run fact (Ok reply) is = is
ok-run fact (Err fault) is = tt

on-run : (fact : Type 0) (result : Result Reply ChangeFault) → OnOk result fact → OnOk (run_by result) fact
on-run fact (Ok reply) is = is
on-run fact (Err fault) is = tt

on-failed : (fact : Type 0) (result : Result Reply ChangeFault) → OnOk (area_failed result) fact → OnOk (run_by result) fact
on-failed fact (Ok reply) is = is
on-failed fact (Err fault) is = tt

among-run : (P : Platform) (result : Result Reply ChangeFault) → IfErr result (IsAreaOf P) → IfErr (run_by result) (IsRunAmong P.modules)
among-run P (Ok reply) among = tt
among-run P (Err (Area dimm)) among = among
among-run P (Err Memory) among = tt

area-run : (dimm : ℕ) (areas now : Areas) (result : Result Reply ChangeFault) → InitialisesArea dimm areas now result → InitialisesArea dimm areas now (run_by result)
area-run dimm areas now (Ok reply) is = record { written = is.written; kept = is.kept }
area-run dimm areas now (Err fault) is = record { written = tt; kept = is.kept }

module _ {R : Type 0} (m : Ghosts R) (old new : R) (modules : List ℕ) where
  change-cause : (result : Result Reply ChangeFault) → HasAreaCause modules m old new (area_failed result) → HasRunCause m old new (run_by result)
  change-cause (Ok reply) cause = cause
  change-cause (Err (Area dimm)) cause = cause.fails
  change-cause (Err Memory) cause = cause

  change-at : (result : Result Reply ChangeFault) → HasAreaCause modules m old new (area_failed result) → IfErr (run_by result) (IsRunAt modules)
  change-at (Ok reply) cause = tt
  change-at (Err (Area dimm)) cause = cause.known
  change-at (Err Memory) cause = tt

module _ {R : Type 0} (m : Ghosts R) (P : Platform) (sets : StoredSets) (in_P : IsStateOf P sets) (own : List ℕ) (old : R) (now : StoredSets) (new : R) where
  abbrev slots : ℕ → ℕ
  slots = slots_at sets

  abbrev L : Labels
  L = labels_in sets

  abbrev after : State
  after = state P (labels_in now)

  init-done : (dimm : ℕ) (result : Result Reply ChangeFault) → IsInit m P dimm sets old now new result → IsDone m P (parts.Change (InitLabels dimm)) own sets old now new (run_by result)
  init-done dimm result has = record {
    step = ok-run _ result has.step;
    anyhow = ok-run _ result has.anyhow;
    stands = λ stand. on-run _ result (has.stands stand);
    any_moment = has.any_moment;
    kept = change-kept (InitialisesAnyhow P L dimm (slots dimm)) after (λ reply. quiet-init P L dimm (slots dimm) own reply after) (now ≡ sets) result has.anyhow has.refused has.memory;
    reads_only = change-kept (InitialisesAnyhow P L dimm (slots dimm)) after (λ reply. quiet-init P L dimm (slots dimm) own reply after) (Reads m old new) result has.anyhow has.unwritten has.unwritten_memory;
    writes = has.writes_among;
    area = λ told. area-run dimm (m.areas old) (m.areas new) result (has.area told);
    area_left = λ init told. has.area_left told;
    cause = change-cause m old new (dimm ∷ []) result has.cause;
    among = among-run P result has.among;
    at = change-at m old new (dimm ∷ []) result has.cause;
    reads = λ other. absurd (let differ : true ≡ false = other in cc);
    regions = has.regions;
    dimms = has.dimms;
    sizes = has.sizes;
  }

  module _ (change : Change) (other : is_init (parts.Change change) ≡ false) where
    abbrev does : Reply → State → Type 0
    does = steps.Does P slots L change own

    step-there : (result : Result Reply ChangeFault) → IsChange (written_by P change) P does m sets old now new result → IfOk result (λ reply. does reply after)
    step-there (Ok reply) has = subst (does reply) (state-there P now (has.pass.regions ∙ in_P.regions) (labels_in now)) has.step
    step-there (Err fault) has = tt

    step-run : (result : Result Reply ChangeFault) → IfOk result (λ reply. does reply after)
        → IfOk (run_by result) (λ reply. SaysIfKnown P (parts.Change change) (Stand m old sets) (Does P slots L (parts.Change change) own reply after))
    step-run (Ok reply) step = says-fact P (parts.Change change) (Stand m old sets) (does reply after) step
    step-run (Err fault) step = tt

    change-done : (result : Result Reply ChangeFault) → IsChange (written_by P change) P does m sets old now new result → IfErr result (IsAreaOf P) → IsDone m P (parts.Change change) own sets old now new (run_by result)
    change-done result has among = record {
      step = step-run result (step-there result has);
      anyhow = said-told P slots L (parts.Change change) own after (Stand m old sets) other (run_by result) (step-run result (step-there result has));
      stands = λ stand. on-failed _ result (has.pass.stands stand.0 stand.1);
      any_moment = λ stand. subst (λ (hs : List ℕ). LeavesOnly m old new (LeftIn hs (m.said old) (IsBeforeOrAfter P slots L (parts.Change change) own))) in_P.modules (in-left (has.pass.any_moment stand.0 stand.1));
      kept = change-kept does after (λ reply. quiet-step P slots L change own reply after) (now ≡ sets) result (step-there result has) has.refused has.memory;
      reads_only = λ quiet. subst (Reads m old) (sym (change-kept does after (λ reply. quiet-step P slots L change own reply after) (new ≡ old) result (step-there result has) has.unwritten has.unwritten_memory quiet)) (no_call m old);
      writes = has.pass.writes;
      area = λ told. no-bytes (parts.Change change) other (m.areas old) (m.areas new) (run_by result);
      area_left = λ init. absurd (let differ : true ≡ false = sym init ∙ other in cc);
      cause = change-cause m old new (written_by P change) result has.pass.cause;
      among = among-run P result among;
      at = change-at m old new (written_by P change) result has.pass.cause;
      reads = λ quiet. has.pass.reads;
      regions = has.pass.regions;
      dimms = has.pass.dimms;
      sizes = has.pass.sizes;
    }

  pub change-is-done : (change : Change) (result : Result Reply ChangeFault) → IsChangeDone m P change own sets old now new result → IfErr result (IsAreaOf P) → IsDone m P (parts.Change change) own sets old now new (run_by result)
  change-is-done (InitLabels dimm) result has among = init-done dimm result has
  change-is-done change result has among = change-done change refl result has among
