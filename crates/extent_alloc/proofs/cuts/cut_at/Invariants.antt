use Rattle.std.proofs.Common.{◌+◌, ◌-◌, length}
use Rattle.extent_alloc.specs.Cuts.{IsPassing}
use Rattle.extent_alloc.proofs.cuts.cut_at.Given as goal

abbrev pub invariant-loop-next : goal.invariant-loop-next
invariant-loop-next g l = IsPassing l.chain.links l.offset l.fn.steps l.steps l.before l.next

abbrev pub decreases-loop-next : goal.decreases-loop-next
decreases-loop-next g l = (l.fn.steps + length l.chain.links) - l.steps
