use Rattle.std.proofs.Common.{◌∙◌, arith}
use Rattle.std.specs.Prelude.{◌||◌}
use Rattle.view_types.proofs.Intervals.{within_above}
use Rattle.library_tests.proofs.extents.gaps_close.Goals as goal

pub release-requires-2-clause-taken : goal.release-requires-2-clause-taken
release-requires-2-clause-taken g c o ge lt =
    c.release.ensures.released.free_in o ∙ (λ i. c.in_ok-free.ensures.second o ge lt i || within_above 10 10 o (omega arith) i)
