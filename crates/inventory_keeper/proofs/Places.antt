-- Where the first item stands that passes a test, or the end.
use Rattle.std.proofs.Common.{◌≡◌, ◌+◌, ◌≤◌, ◌<◌, ℕ, suc, List, Some, None, drop, get_or, length, ap, subst, sym, arith}
use Rattle.std.specs.Prelude.{nat_lt, unwrap_or, if◌then◌else◌}
use Rattle.std.proofs.Math.Seq.{drop-cons}
use Rattle.std.proofs.lemmas.Grind.{common_steps}
use Rattle.inventory_keeper.specs.declared.rows.BadRow.{BadRow}
use Rattle.inventory_keeper.specs.Rows.{with_row, with_rows}

pub place_or_len : (place len : ℕ) → place ≤ len → unwrap_or (if nat_lt place len then Some place else None) len ≡ place
place_or_len place len le = grind (arith, common_steps)

-- the row at a place is put, and then those behind it
pub put_next : (put rows : List BadRow) (place : ℕ) (d : BadRow) → place < length put
    → with_rows (drop (place + 1) put) (with_row (get_or put place d) rows) ≡ with_rows (drop place put) rows
put_next put rows place d lt =
    let next : suc place ≡ place + 1 = omega arith in
    subst (λ k. with_rows (drop k put) (with_row (get_or put place d) rows) ≡ with_rows (drop place put) rows) next
    (ap (λ more. with_rows more rows) (sym (drop-cons put place d lt)))
