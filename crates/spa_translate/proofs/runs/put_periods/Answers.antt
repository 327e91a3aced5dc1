use Rattle.std.proofs.Common.{ℕ, ◌+◌, ◌*◌, subst, arith}
use Rattle.std.specs.Prelude.{OnOk}
use Rattle.spa_translate.specs.Runs.{IsPutAt}
use Rattle.spa_translate.proofs.Spans.{periods_between}
use Rattle.spa_translate.proofs.runs.put_periods.Goals as goal

pub returns : goal.returns
returns c =
    subst (λ (n : ℕ). OnOk c.put.result (IsPutAt c.args.extents.now.items ((c.args.first + 1) * c.args.part) n c.put.new.extents.items))
    (periods_between (c.args.first + 1) c.args.last c.args.part (omega (arith, c.requires.order))) c.put.ensures
