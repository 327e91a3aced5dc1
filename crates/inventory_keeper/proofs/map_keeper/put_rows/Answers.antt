use Rattle.std.proofs.Common.{◌+◌, drop, ap, ◌∙◌, arith}
use Rattle.inventory_keeper.specs.Rows.{with_rows}
use Rattle.inventory_keeper.proofs.Places.{put_next}
use Rattle.inventory_keeper.proofs.map_keeper.put_rows.Goals as goal

pub loop-row-preserved : goal.loop-row-preserved
loop-row-preserved c = (
  ap (with_rows (drop (c.loop-row.row-index + 1) c.args.put.now)) c.put_row.ensures.rows
      ∙ put_next c.args.put.now c.loop-row.rows.items c.loop-row.row-index _ c.loop-row-test.true
      ∙ c.loop-row.invariant.0,
  omega (arith, c.loop-row.invariant.1, c.put_row.ensures.len, c.put_row.ensures.room, c.loop-row-test.true),
)
