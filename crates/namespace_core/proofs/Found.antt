-- What is said of a command that does not initialise an area holds whatever the areas hold.
use Rattle.std.proofs.Common.{◌≡◌, inl, ℕ, Bool, true, false, not, List, [], ◌∷◌, Result, Ok, Err, refl, ap}
use Rattle.std.specs.Prelude.{IfOk}
use Rattle.view_types.specs.declared.refusal.Refusal.TheVariants.{UnknownDimm}
use Rattle.view_types.specs.declared.reply.Reply.{Reply}
use Rattle.view_types.specs.Replies.{is_change}
use Rattle.rig_trait.specs.Areas.{Areas}
use Rattle.label_codec.specs.ModuleLabels.{Labels}
use Rattle.region_map.specs.declared.platform.Platform.{Platform}
use Rattle.label_table.specs.Tables.{State, state}
use Rattle.table_steps.specs.Changes.{IsDoneBy}
use Rattle.table_steps.specs.Initialise.{IsInitialised, already_ready, cannot_initialise}
use Rattle.table_steps.specs.Refusals.{first_of, refused_if}
use Rattle.cmd_words.specs.declared.parts.Part.{Part}
use Rattle.cmd_words.specs.declared.parts.Part.TheVariants.{Change}
use Rattle.cmd_words.specs.declared.parts.Change.TheVariants.{InitLabels}
use Rattle.namespace_core.specs.declared.faults.RunFault.{RunFault}
use Rattle.namespace_core.specs.declared.faults.RunFault.TheVariants.{Area}
use Rattle.namespace_core.specs.Commands.{Does, DoesAnyhow, HasAreas, SaysIfKnown, has_module, is_init, may_change}

-- a command that changes nothing initialises no area
pub quiet-other : (part : Part) → ((answer : Result Reply RunFault) → may_change part answer ≡ false) → is_init part ≡ false
quiet-other (Change (InitLabels dimm)) quiet = absurd (let differ : true ≡ false = quiet (Err (Area dimm)) in cc)
quiet-other _ quiet = refl

-- what is so is said
pub says-fact : (P : Platform) (part : Part) (known fact : Type 0) → fact → SaysIfKnown P part known fact
says-fact P (Change (InitLabels dimm)) known fact is = λ either. is
says-fact P _ known fact is = is

found-anyhow : (P : Platform) (slots : ℕ → ℕ) (L : Labels) (part : Part) (own : List ℕ) (reply : Reply) (after : State) (known : Type 0) → is_init part ≡ false
    → SaysIfKnown P part known (Does P slots L part own reply after) → DoesAnyhow P slots L part own reply after
found-anyhow P slots L (Change (InitLabels dimm)) own reply after known other says = absurd (let differ : true ≡ false = other in cc)
found-anyhow P slots L _ own reply after known other says = says

pub said-told : {E : Type 0} (P : Platform) (slots : ℕ → ℕ) (L : Labels) (part : Part) (own : List ℕ) (after : State) (known : Type 0) → is_init part ≡ false
    → (result : Result Reply E) → IfOk result (λ reply. SaysIfKnown P part known (Does P slots L part own reply after)) → IfOk result (λ reply. DoesAnyhow P slots L part own reply after)
said-told P slots L part own after known other (Ok reply) says = found-anyhow P slots L part own reply after known other says
said-told P slots L part own after known other (Err error) says = tt

-- a command does what it does where the areas are those that are kept
pub does-anyhow : (P : Platform) (slots : ℕ → ℕ) (L : Labels) (part : Part) (own : List ℕ) (reply : Reply) (after : State) → Does P slots L part own reply after → DoesAnyhow P slots L part own reply after
does-anyhow P slots L (Change (InitLabels dimm)) own reply after does = inl does
does-anyhow P slots L _ own reply after does = does

-- it makes nothing of the bytes of areas
pub no-bytes : (part : Part) → is_init part ≡ false → (areas now : Areas) (answer : Result Reply RunFault) → HasAreas part areas now answer
no-bytes (Change (InitLabels dimm)) other areas now answer = absurd (let differ : true ≡ false = other in cc)
no-bytes _ other areas now answer = tt

-- an area of a module that the platform does not have is not initialised
pub unknown-refused : (P : Platform) (slots : ℕ → ℕ) (L : Labels) (own : List ℕ) (dimm : ℕ) → has_module P dimm ≡ false → (reply : Reply) (after : State)
    → Does P slots L (Change (InitLabels dimm)) own reply after → is_change reply ≡ false
unknown-refused P slots L own dimm absent reply after does = by (has_module P dimm) absent does
  where
    by : (b : Bool) → b ≡ false → IsDoneBy (first_of (refused_if (not b) (UnknownDimm dimm) ∷ cannot_initialise dimm (L dimm).kind ∷ already_ready dimm (L dimm).kind ∷ [])) (state P L)
        (IsInitialised P L dimm (slots dimm)) reply after → is_change reply ≡ false
    by true is done = absurd cc
    by false is done = ap is_change done.0
