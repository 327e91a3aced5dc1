-- The numbers of the statuses of runs.
use Rattle.std.specs.Prelude.{ℕ, Bool, if◌then◌else◌}
use Rattle.run_edges.specs.declared.faults.Fault.{Fault}
use Rattle.run_edges.specs.declared.faults.Fault.TheVariants.{Words, Nfit, Area, Source, Limit, Memory}
use Rattle.run_edges.specs.declared.statuses.Status.{Status}
use Rattle.run_edges.specs.declared.statuses.Status.TheVariants as status

abbrev pub code_of : Status → ℕ
code_of status.Ok = 0
code_of status.Refused = 1
code_of status.Words = 2
code_of status.Nfit = 3
code_of status.Area = 4
code_of status.Source = 5
code_of status.Memory = 6
code_of status.Say = 7

-- of a run that a fault ends, whose line is said
abbrev pub fault_status : Fault → ℕ
fault_status Words = 2
fault_status (Nfit fault) = 3
fault_status (Area dimm) = 4
fault_status (Source source) = 5
fault_status (Limit source) = 5
fault_status Memory = 6

-- of one that no fault ends
abbrev pub refused_status : Bool → ℕ
refused_status refused = if refused then 1 else 0
