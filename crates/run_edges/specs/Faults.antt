-- The faults that end runs, by those of what is read.
use Rattle.std.specs.Prelude.{Bool, true, false}
use Rattle.nfit_tables.specs.declared.fault.ReadNfit.{ReadNfit}
use Rattle.nfit_tables.specs.declared.fault.ReadNfit.TheVariants as reads
use Rattle.namespace_core.specs.declared.faults.OpenFault.{OpenFault}
use Rattle.namespace_core.specs.declared.faults.OpenFault.TheVariants as opens
use Rattle.run_edges.specs.declared.faults.Fault.{Fault}
use Rattle.run_edges.specs.declared.faults.Fault.TheVariants.{Words, Nfit, Area, Source, Limit, Memory}

-- why bytes are not read as an NFIT
abbrev pub nfit_fault : ReadNfit → Fault
nfit_fault (reads.Fault fault) = Nfit fault
nfit_fault reads.Memory = Memory

-- why a session cannot be had
abbrev pub open_fault : OpenFault → Fault
open_fault (opens.Failed dimm) = Area dimm
open_fault opens.Memory = Memory

-- a source failed
abbrev pub is_source : Fault → Bool
is_source Words = false
is_source (Nfit fault) = false
is_source (Area dimm) = false
is_source (Source source) = true
is_source (Limit source) = false
is_source Memory = false
