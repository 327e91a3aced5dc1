use Rattle.std.proofs.Common.{◌≡◌, ◌≤◌, ℕ, List, Result, Err, length, sym, ap, subst, ◌∙◌}
use Rattle.std.proofs.lemmas.Result.{err_from_is_err_and}
use Rattle.rig_trait.specs.declared.source.Source.{Ghosts}
use Rattle.nfit_tables.specs.declared.fault.ReadNfit.{ReadNfit}
use Rattle.nfit_tables.specs.declared.fault.ReadNfit.TheVariants as reads
use Rattle.nfit_tables.specs.declared.pieces.Nfit.{Nfit}
use Rattle.nfit_tables.specs.Reading.{Gives, table_of}
use Rattle.run_edges.specs.Faults.{nfit_fault}
use Rattle.run_edges.specs.Sources.{HasBytes, HasNoPlatform, most_read}
use Rattle.run_edges.proofs.sources.read_platform.Goals as goal

-- the bytes are no NFIT, or memory was refused
no_table : {N : Type 0} (n : Ghosts N) (old new : N) (bytes : List ℕ) → HasBytes n most_read old new bytes → (why : ReadNfit) → Gives {X = Nfit} (Err why) (table_of bytes) → HasNoPlatform n old new (nfit_fault why)
no_table n old new bytes has (reads.Fault fault) is = record {
  cause = λ told. (subst (λ (left : List ℕ). length left ≤ most_read) (has.bytes_are told) has.few, ap table_of (sym (has.bytes_are told)) ∙ is);
  ended = has.ended;
  draws = has.draws;
}
no_table n old new bytes has reads.Memory is = record { cause = tt; ended = λ told. tt; draws = has.draws }

pub returns-in_err-table-clause-fault : goal.returns-in_err-table-clause-fault
returns-in_err-table-clause-fault g c =
    let p = err_from_is_err_and c.from_residual-in_err-table.result c.from_residual-in_err-table.ensures.1 in
    let bytes = c.in_ok-bytes.bytes.items in
    let exact : Gives {X = Nfit} (Err c.in_err-table.field-0.0) (table_of bytes) = subst (λ (read : List ℕ). Gives {X = Nfit} (Err c.in_err-table.field-0.0) (table_of read)) c.deref.ensures.value c.in_err-table.ensures.exact in
    rw (p.1, p.2) (no_table g.N.Source c.args.source.now c.read_all.new.source bytes c.in_ok-bytes.ensures.bytes c.in_err-table.field-0.0 exact)
