use Rattle.spa_translate.specs.Faults.{woven_of}
use Rattle.spa_translate.proofs.Intervals.{has_intervals}
use Rattle.spa_translate.proofs.Fit.{laid_region}
use Rattle.spa_translate.proofs.laws.whole_intervals.Goals as goal

pub returns : goal.returns
returns c = λ platform region usable none.
    let is = laid_region platform region platform.tables usable none in
    has_intervals is.0 is.1 is.2 (woven_of platform.tables region) is.3
