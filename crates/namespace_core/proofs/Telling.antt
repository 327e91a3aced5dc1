-- A command that only tells.
use Rattle.std.proofs.Common.{◌≡◌, inl, ℕ, false, true, List, Result, Ok, Err, refl, ◌∙◌, sym}
use Rattle.std.specs.Prelude.{IfOk, IfErr, OnOk}
use Rattle.std.specs.List.{All}
use Rattle.std.specs.declared.alloc.AllocError.{AllocError}
use Rattle.view_types.specs.declared.reply.Reply.{Reply}
use Rattle.rig_trait.specs.declared.shown.Shown.{Ghosts}
use Rattle.rig_trait.specs.Frames.{LeavesOnly}
use Rattle.rig_trait.proofs.Frames.{no_call}
use Rattle.label_codec.specs.ModuleLabels.{Labels}
use Rattle.region_map.specs.declared.platform.Platform.{Platform}
use Rattle.label_table.specs.Tables.{state}
use Rattle.module_flips.specs.Stops.{LeftIn}
use Rattle.module_flips.specs.Stored.{StandsIn}
use Rattle.module_flips.proofs.Turned.{no_flip}
use Rattle.label_sets.specs.Init.{slots_at}
use Rattle.label_sets.specs.Sets.{StoredSets, labels_in}
use Rattle.cmd_words.specs.declared.parts.Part.{Part}
use Rattle.namespace_commands.specs.Lists.{IsStateOf}
use Rattle.namespace_core.specs.declared.faults.RunFault.{RunFault}
use Rattle.namespace_commands.specs.Initialising.{Stand}
use Rattle.namespace_commands.proofs.InitEnds.{standing}
use Rattle.namespace_core.specs.Commands.{Does, IsBeforeOrAfter, SaysIfKnown, Tells, is_init, may_change, written_by}
use Rattle.namespace_core.specs.Done.{IsDone, run_by, told_by}
use Rattle.namespace_core.specs.Faults.{HasRunCause, IsRunAmong, IsRunAt}
use Rattle.namespace_core.proofs.Found.{no-bytes, quiet-other, said-told}

module _ {R : Type 0} (m : Ghosts R) (P : Platform) (sets : StoredSets) (in_P : IsStateOf P sets) where
  -- a stop between two commands
  pub still : (part : Part) (own : List ℕ) (rig : R) → Stand m rig sets
      → LeavesOnly m rig rig (LeftIn P.modules (m.said rig) (IsBeforeOrAfter P (slots_at sets) (labels_in sets) part own))
  still part own rig stand =
      no_flip {m = m} {old = rig} P.modules (IsBeforeOrAfter P (slots_at sets) (labels_in sets) part own) (labels_in sets) (standing P sets in_P (m.areas rig) stand.1) (inl refl)

  module _ (part : Part) (own : List ℕ) (rig : R) where
    stand-ok : (result : Result Reply AllocError) → All (StandsIn (m.areas rig)) sets.modules → OnOk (run_by (told_by result)) (All (StandsIn (m.areas rig)) sets.modules)
    stand-ok (Ok reply) all = all
    stand-ok (Err error) all = tt

    no-cause : (result : Result Reply AllocError) → HasRunCause m rig rig (run_by (told_by result))
    no-cause (Ok reply) = record { faults = refl; failed_dimm = refl }
    no-cause (Err error) = record { faults = refl; failed_dimm = refl }

    no-module : (result : Result Reply AllocError) → IfErr (run_by (told_by result)) (IsRunAmong P.modules)
    no-module (Ok reply) = tt
    no-module (Err error) = tt

    no-module-at : (result : Result Reply AllocError) → IfErr (run_by (told_by result)) (IsRunAt (written_by P part))
    no-module-at (Ok reply) = tt
    no-module-at (Err error) = tt

    told-step : (fact : Reply → Type 0) (result : Result Reply AllocError) → IfOk result fact → IfOk (run_by (told_by result)) fact
    told-step fact (Ok reply) is = is
    told-step fact (Err error) is = tt

    pub tells-done : (result : Result Reply AllocError)
        → IfOk result (λ reply. SaysIfKnown P part (Stand m rig sets) (Does P (slots_at sets) (labels_in sets) part own reply (state P (labels_in sets))))
        → ((answer : Result Reply RunFault) → may_change part answer ≡ false)
        → IsDone m P part own sets rig sets rig (run_by (told_by result))
    tells-done result step quiet = record {
      anyhow = told-step _ result (said-told P (slots_at sets) (labels_in sets) part own (state P (labels_in sets)) (Stand m rig sets) other result step);
      step = told-step (λ reply. SaysIfKnown P part (Stand m rig sets) (Does P (slots_at sets) (labels_in sets) part own reply (state P (labels_in sets)))) result step;
      stands = λ stand. stand-ok result stand.1;
      any_moment = still part own rig;
      kept = λ quiet_so. refl;
      reads_only = λ quiet_so. no_call m rig;
      writes = record {
        others = λ told q other_module. refl;
        says = record { said = refl; say_faults = refl; goes_on = (no_call m rig).goes_on };
      };
      area = λ told. no-bytes part other (m.areas rig) (m.areas rig) (run_by (told_by result));
      area_left = λ init. absurd (let differ : true ≡ false = sym init ∙ other in cc);
      cause = no-cause result;
      among = no-module result;
      at = no-module-at result;
      reads = λ quiet_so. refl;
      regions = refl;
      dimms = refl;
      sizes = refl;
    }
      where
        other : is_init part ≡ false
        other = quiet-other part quiet

-- the reply tells of the state, which stays
pub tells-of : (P : Platform) (L : Labels) (is_reply : Reply → Type 0) (result : Result Reply AllocError) → IfOk result is_reply → IfOk result (λ reply. Tells P L is_reply reply (state P L))
tells-of P L is_reply (Ok reply) is = record { told = is; kept = refl }
tells-of P L is_reply (Err error) is = tt
