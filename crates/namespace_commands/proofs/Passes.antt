-- The commands that passes make.
use Rattle.std.proofs.Common.{◌≡◌, inl, ℕ, List, refl}
use Rattle.std.specs.Prelude.{Ok, Err}
use Rattle.view_types.specs.declared.refusal.Refusal.{Refusal}
use Rattle.view_types.specs.declared.reply.Reply.{Reply}
use Rattle.view_types.specs.declared.reply.Reply.TheVariants.{Refused}
use Rattle.rig_trait.specs.declared.shown.Shown.{Ghosts}
use Rattle.label_codec.specs.ModuleLabels.{Labels}
use Rattle.region_map.specs.declared.platform.Platform.{Platform}
use Rattle.label_table.specs.Tables.{State}
use Rattle.module_flips.specs.declared.flips.AreaFailed.{AreaFailed}
use Rattle.module_flips.specs.Passes.{IsPass}
use Rattle.module_flips.proofs.Passes.{no-pass, pass-as, still-ended, still-failed}
use Rattle.label_sets.specs.Sets.{StoredSets, kept_in, labels_in, state_in}
use Rattle.namespace_commands.specs.declared.creation.ChangeFault.TheVariants.{Area, Memory}
use Rattle.namespace_commands.specs.Changes.{IsBeforeOrBehind}
use Rattle.view_types.specs.Replies.{WhereRefused}
use Rattle.namespace_commands.specs.Commands.{IsChange}

module _ {R : Type 0} (m : Ghosts R) (modules : List ℕ) (P : Platform) (does : Reply → State → Type 0) (sets : StoredSets) where
  abbrev Fits : Labels → Type 0
  Fits = IsBeforeOrBehind P (labels_in sets) does

  pub refused-change : (rig : R) (refusal : Refusal) → does (Refused refusal) (state_in sets) → IsChange modules P does m sets rig sets rig (Ok (Refused refusal))
  refused-change rig refusal is = record {
    step = is;
    refused = refl;
    unwritten = refl;
    memory = tt;
    unwritten_memory = tt;
    pass = no-pass modules Fits (kept_in sets) rig tt (inl refl);
  }

  pub memory-change : (rig : R) → IsChange modules P does m sets rig sets rig (Err Memory)
  memory-change rig = record {
    step = tt;
    refused = tt;
    unwritten = tt;
    memory = refl;
    unwritten_memory = refl;
    pass = no-pass modules Fits (kept_in sets) rig tt (inl refl);
  }

  module _ {T : Type 0} (old new : R) (F : Labels → Type 0) (now : StoredSets) (follows : (L : Labels) → F L → Fits L) where
    pub done-change : (value : T) (reply : Reply) → IsPass modules F m (kept_in sets) old (kept_in now) new (Ok value) → ((fact : Type 0) → WhereRefused fact reply) → does reply (state_in now) → IsChange modules P does m sets old now new (Ok reply)
    done-change value reply pass unrefused is = record {
      step = is;
      refused = unrefused (now ≡ sets);
      unwritten = unrefused (new ≡ old);
      memory = tt;
      unwritten_memory = tt;
      pass = pass-as follows (still-ended pass);
    }

    pub failed-change : (failed : AreaFailed) → IsPass {T = T} modules F m (kept_in sets) old (kept_in now) new (Err failed) → IsChange modules P does m sets old now new (Err (Area failed.dimm))
    failed-change failed pass = record {
      step = tt;
      refused = tt;
      unwritten = tt;
      memory = tt;
      unwritten_memory = tt;
      pass = pass-as follows (still-failed pass);
    }
