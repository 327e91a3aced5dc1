use Rattle.extent_alloc.specs.Fits.{IsLeft}
use Rattle.extent_alloc.proofs.extents.Extents.first_fit.Given as goal

abbrev pub invariant-loop-extent : goal.invariant-loop-extent
invariant-loop-extent l = IsLeft l.fn.self.whole l.fn.self.extents l.extent-iterator l.len l.align
