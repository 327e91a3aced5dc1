-- The form `labels`: the area of a module is read, and its listing is said, or why there is none.
use Rattle.std.specs.Prelude.{◌≡◌, ℕ, Bool, true, false, List, Option, Some, None}
use Rattle.std.specs.FinMap.{get}
use Rattle.rig_trait.specs.Areas.{Areas}
use Rattle.rig_trait.specs.declared.shown.Shown.{Ghosts}
use Rattle.rig_trait.specs.Frames.{FailsAt, IsTold, Reads}
use Rattle.label_area.specs.declared.blocks.Current.{Current}
use Rattle.label_area.specs.declared.load.AreaFault.{AreaFault}
use Rattle.label_area.specs.declared.load.AreaFault.TheVariants as load
use Rattle.label_area.specs.Blocks.{current_block}
use Rattle.label_area.specs.Modules.{area_kind, module_at}
use Rattle.report_json.specs.Listing.{listing}
use Rattle.label_codec.specs.declared.kind.AreaKind.{AreaKind}
use Rattle.label_codec.specs.declared.kind.AreaKind.TheVariants as kinds
use Rattle.report_json.specs.Refusals.{refusal_line}
use Rattle.view_types.specs.declared.refusal.Refusal.{Refusal}
use Rattle.view_types.specs.declared.refusal.Refusal.TheVariants.{NotReady}
use Rattle.view_types.specs.declared.states.AreaState.{AreaState}
use Rattle.view_types.specs.declared.states.AreaState.TheVariants as states
use Rattle.view_types.specs.declared.states.Status.TheVariants as statuses
use Rattle.run_edges.specs.declared.faults.Fault.TheVariants as faults
use Rattle.run_edges.specs.Saying.{Says}
use Rattle.run_edges.specs.Texts.{fault_line}

-- the state of an area of a kind; nothing is told of the slots of a Ready one
abbrev pub state_of : AreaKind → AreaState
state_of kinds.Missing = states.Missing
state_of kinds.WrongSize = states.WrongSize
state_of kinds.Uninit = states.Uninit
state_of kinds.Foreign = states.Foreign
state_of kinds.Ready = states.Ready 0 0

-- why what needs a Ready area is not done with one of this kind
abbrev pub not_ready : ℕ → AreaKind → Refusal
not_ready dimm kind = NotReady (statuses.Area dimm (state_of kind))

pub data Answer : Type 0 where
  -- the area is Ready, and this is its listing
  Lists : (text : List ℕ) → Answer
  -- it is not, and this refusal says of which kind it is
  Refuses : (refusal : Refusal) → Answer
  -- the rig failed at it
  AreaFails : Answer
  WantsMemory : Answer

abbrev pub text_of : ℕ → Answer → List ℕ
text_of dimm (Lists text) = text
text_of dimm (Refuses refusal) = refusal_line refusal
text_of dimm AreaFails = fault_line (faults.Area dimm)
text_of dimm WantsMemory = fault_line faults.Memory

abbrev pub status_of : Answer → ℕ
status_of (Lists text) = 0
status_of (Refuses refusal) = 1
status_of AreaFails = 4
status_of WantsMemory = 6

abbrev pub is_failed : Answer → Bool
is_failed (Lists text) = false
is_failed (Refuses refusal) = false
is_failed AreaFails = true
is_failed WantsMemory = false

-- where an area cannot be loaded
abbrev pub answer_of : ℕ → AreaFault → Answer
answer_of dimm load.Missing = Refuses (not_ready dimm kinds.Missing)
answer_of dimm (load.WrongSize size) = Refuses (not_ready dimm kinds.WrongSize)
answer_of dimm (load.Uninit size) = Refuses (not_ready dimm kinds.Uninit)
answer_of dimm (load.Foreign size) = Refuses (not_ready dimm kinds.Foreign)
answer_of dimm load.Failed = AreaFails
answer_of dimm load.Memory = WantsMemory

-- the listing of an area by its current block, and else the refusal
abbrev pub listing_answer : ℕ → Areas → Option Current → Answer
listing_answer dimm areas (Some current) = Lists (listing current (module_at areas dimm))
listing_answer dimm areas None = Refuses (not_ready dimm (area_kind (get areas dimm)))

abbrev pub labels_answer : ℕ → Areas → Answer
labels_answer dimm areas = listing_answer dimm areas (current_block (get areas dimm))

-- A listing and a refusal tell of the area. Nothing tells why the rig failed, or memory was refused.
abbrev pub IsAnswer : ℕ → Areas → Answer → Type 0
IsAnswer dimm areas (Lists text) = Lists text ≡ labels_answer dimm areas
IsAnswer dimm areas (Refuses refusal) = Refuses refusal ≡ labels_answer dimm areas
IsAnswer dimm areas AreaFails = Unit {0}
IsAnswer dimm areas WantsMemory = Unit {0}

-- The area is read, and nothing is written or said. Then the answer is said.
pub record ListsLabels {R : Type 0} (m : Ghosts R) (dimm : ℕ) (old new : R) (status : ℕ) : Type 0 where
  pub read : R
  pub reads : Reads m old read
  pub answer : Answer
  pub is_answer : IsTold m old → IsAnswer dimm (m.areas old) answer
  pub faults : FailsAt dimm m old read (is_failed answer)
  pub says : Says m read new (text_of dimm answer) (status_of answer) status
