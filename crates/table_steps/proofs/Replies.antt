-- The replies to an initialisation.
use Rattle.std.proofs.Common.{◌≡◌, ℕ, ◌==◌, true, false, refl}
use Rattle.std.specs.List.{list_any}
use Rattle.view_types.specs.declared.refusal.Refusal.TheVariants.{AlreadyReady, NotReady, UnknownDimm}
use Rattle.view_types.specs.declared.reply.Reply.TheVariants.{Initialised, Refused}
use Rattle.view_types.specs.declared.states.Status.TheVariants.{Area}
use Rattle.label_codec.specs.declared.kind.AreaKind.TheVariants as kind
use Rattle.label_codec.specs.ModuleLabels.{Labels}
use Rattle.region_map.specs.declared.platform.Platform.{Platform}
use Rattle.region_labels.specs.Statuses.{unready_state}
use Rattle.label_table.specs.Tables.{state}
use Rattle.table_steps.specs.Initialise.{initialised}
use Rattle.table_steps.specs.Plain.{IsInitialiseReply}

module _ (P : Platform) (L : Labels) (dimm slots : ℕ) where
  pub initialises-unknown : list_any (λ handle. handle == dimm) P.modules ≡ false → IsInitialiseReply P L dimm slots (Refused (UnknownDimm dimm))
  initialises-unknown unknown = (state P L, rw unknown (refl, refl))

  module _ (known : list_any (λ handle. handle == dimm) P.modules ≡ true) where
    pub initialises-new : (L dimm).kind ≡ kind.Uninit → IsInitialiseReply P L dimm slots (Initialised dimm slots)
    initialises-new is = (initialised P dimm slots (state P L), rw (known, is) (refl, refl))

    pub initialises-ready : (L dimm).kind ≡ kind.Ready → IsInitialiseReply P L dimm slots (Refused (AlreadyReady dimm))
    initialises-ready is = (state P L, rw (known, is) (refl, refl))

    pub initialises-missing : (L dimm).kind ≡ kind.Missing → IsInitialiseReply P L dimm slots (Refused (NotReady (Area dimm (unready_state kind.Missing))))
    initialises-missing is = (state P L, rw (known, is) (refl, refl))

    pub initialises-wrong_size : (L dimm).kind ≡ kind.WrongSize → IsInitialiseReply P L dimm slots (Refused (NotReady (Area dimm (unready_state kind.WrongSize))))
    initialises-wrong_size is = (state P L, rw (known, is) (refl, refl))

    pub initialises-foreign : (L dimm).kind ≡ kind.Foreign → IsInitialiseReply P L dimm slots (Refused (NotReady (Area dimm (unready_state kind.Foreign))))
    initialises-foreign is = (state P L, rw (known, is) (refl, refl))
