use Rattle.spa_translate.proofs.Running.{runs_more, starts_fit}
use Rattle.spa_translate.proofs.weave.Weave.module_runs.Goals as goal

pub put_runs-requires : goal.put_runs-requires
put_runs-requires c =
    rw c.deref.ensures.value
    (starts_fit c.args.self.now c.args.spa c.args.length c.strand-item.result c.in_ok-extents.extents.items c.in_ok-extents.ensures.extents c.in_ok-extents.ensures.ends)

pub loop-strand-preserved : goal.loop-strand-preserved
loop-strand-preserved c =
    runs_more c.args.self.now c.args.spa c.args.length c.deref-strand-items.result.now c.loop-strand.strand-index c.strand-item.result c.loop-strand.runs c.put_runs.new.runs c.in_ok-extents.extents.items
    c.loop-strand-test.true c.strand-item.is c.loop-strand.invariant c.in_ok-extents.ensures.extents (rw (← c.deref.ensures.value) c.in_ok-put_runs.ensures)
