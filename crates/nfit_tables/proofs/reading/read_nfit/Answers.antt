use Rattle.std.proofs.Common.{◌≡◌, ℕ, ◌<◌, List, ap, subst, ◌∙◌, arith}
use Rattle.std.specs.Prelude.{IfOk, Result, Ok, Err}
use Rattle.std.proofs.lemmas.List.Elements.{All-from_get_or}
use Rattle.nfit_tables.specs.declared.fault.ReadNfit.{ReadNfit}
use Rattle.nfit_tables.specs.declared.pieces.Nfit.{Nfit}
use Rattle.nfit_tables.specs.Proper.{AreBytes, IsProper}
use Rattle.nfit_tables.specs.Spelling.{text}
use Rattle.nfit_tables.specs.Reading.{Gives, table_of}
use Rattle.nfit_tables.proofs.TableSpelled.{table_of-found}
use Rattle.nfit_tables.proofs.TableAgain.{table_of-text}
use Rattle.nfit_tables.proofs.reading.read_nfit.Goals as goal

is_found : (bytes : List ℕ) (r : Result Nfit ReadNfit) → AreBytes bytes → Gives r (table_of bytes) → IfOk r (λ n. IsProper n × (bytes ≡ text n))
is_found bytes (Ok n) are_bytes given = table_of-found bytes n are_bytes given
is_found bytes (Err e) are_bytes given = tt

pub returns-clause-found : goal.returns-clause-found
returns-clause-found c = is_found c.args.bytes.now c.table.result (All-from_get_or (λ (byte : ℕ). byte < 256) c.args.bytes.now 0 (λ i inside. omega (arith, c.type_inv.bytes i))) c.table.ensures

pub returns-clause-only : goal.returns-clause-only
returns-clause-only c = λ n proper is. subst (λ (read : _). Gives c.table.result read) (ap table_of is ∙ table_of-text n proper) c.table.ensures
