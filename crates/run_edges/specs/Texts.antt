-- The error lines. Each ends with the byte 0x0A.
use Rattle.std.specs.Prelude.{List, ℕ, ◌++◌, codes}
use Rattle.std.specs.Fmt.{decimal}
use Rattle.nfit_tables.specs.declared.fault.NfitFault.{NfitFault}
use Rattle.nfit_tables.specs.declared.fault.NfitFault.TheVariants as nfit
use Rattle.report_json.specs.Numbers.{handle_text}
use Rattle.run_edges.specs.declared.faults.Fault.{Fault}
use Rattle.run_edges.specs.declared.faults.Fault.TheVariants as run
use Rattle.run_edges.specs.declared.faults.SourceName.{SourceName}
use Rattle.run_edges.specs.declared.faults.SourceName.TheVariants.{Nfit, Input}

-- why bytes are no NFIT
abbrev pub nfit_fault_text : NfitFault → List ℕ
nfit_fault_text (nfit.Short len) = codes "short length=" ++ decimal len
nfit_fault_text nfit.Signature = codes "signature"
nfit_fault_text (nfit.Length told len) = codes "length told=" ++ decimal told ++ codes " length=" ++ decimal len
nfit_fault_text (nfit.Revision value) = codes "revision value=" ++ decimal value
nfit_fault_text (nfit.Checksum sum) = codes "checksum sum=" ++ decimal sum
nfit_fault_text (nfit.Structure at) = codes "structure at=" ++ decimal at
nfit_fault_text (nfit.TwiceIndex kind index) =
    codes "twice-index kind=" ++ decimal kind ++ codes " index=" ++ decimal index
nfit_fault_text (nfit.TooMany kind) = codes "too-many kind=" ++ decimal kind

abbrev pub source_name : SourceName → List ℕ
source_name Nfit = codes "nfit"
source_name Input = codes "input"

-- the line of the fault that ended a run
abbrev pub fault_line : Fault → List ℕ
fault_line run.Words = codes "error words\n"
fault_line (run.Nfit fault) = codes "error nfit " ++ nfit_fault_text fault ++ codes "\n"
fault_line (run.Area dimm) = codes "error area dimm=" ++ handle_text dimm ++ codes "\n"
fault_line (run.Source source) = codes "error source " ++ source_name source ++ codes "\n"
fault_line (run.Limit source) = codes "error limit " ++ source_name source ++ codes "\n"
fault_line run.Memory = codes "error memory\n"
