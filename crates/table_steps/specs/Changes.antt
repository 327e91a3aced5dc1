-- What becomes of the state that labels stand for by a command that may change it.
use Rattle.std.specs.Prelude.{◌≡◌, ℕ, ◌==◌, false, List, [], ◌∷◌, Option, Some, None, if◌then◌else◌, min}
use Rattle.std.specs.List.{fold}
use Rattle.view_types.specs.declared.refusal.Refusal.{Refusal}
use Rattle.view_types.specs.declared.reply.Reply.{Reply}
use Rattle.view_types.specs.declared.reply.Reply.TheVariants.{Refused}
use Rattle.region_map.specs.declared.platform.Member.{Member}
use Rattle.region_map.specs.declared.platform.Region.{Region}
use Rattle.label_table.specs.Tables.{State}

-- A command is refused, and changes nothing, or it does what is asked.
abbrev pub IsDoneBy : Option Refusal → State → (Reply → State → Type 0) → Reply → State → Type 0
IsDoneBy (Some refusal) before accepted reply after = (reply ≡ Refused refusal) × (after ≡ before)
IsDoneBy None before accepted reply after = accepted reply after

-- the state in which no namespace of a region is pending
abbrev pub without_marks : Region → State → State
without_marks region state = record {
  table = state.table;
  pending = λ index uuid. if region.index == index then false else state.pending index uuid;
}

-- the least number of spare slots that one of some modules has
abbrev pub least_among : (ℕ → ℕ) → List Member → ℕ
least_among spare [] = 0
least_among spare (member ∷ members) =
    fold (λ (least : ℕ) (other : Member). min least (spare other.handle)) (spare member.handle) members

-- the least number of spare slots that a module of the region has
abbrev pub least_spare : State → Region → ℕ
least_spare state region = least_among state.table.spare region.members
