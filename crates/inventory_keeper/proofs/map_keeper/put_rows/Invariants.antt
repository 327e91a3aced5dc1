use Rattle.std.proofs.Common.{◌≡◌, ◌+◌, ◌-◌, ◌≤◌, length, drop}
use Rattle.inventory_keeper.specs.Rows.{with_rows}
use Rattle.inventory_keeper.proofs.map_keeper.put_rows.Given as goal

-- the rows that are left to put give what all of them give, and there is room for them
abbrev pub invariant-loop-row : goal.invariant-loop-row
invariant-loop-row l = (with_rows (drop l.row-index l.put) l.rows.items ≡ with_rows l.put l.initial.rows.items)
    × (l.rows.len + (length l.put - l.row-index) ≤ l.rows.cap)
