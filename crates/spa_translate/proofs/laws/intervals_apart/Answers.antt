use Rattle.spa_translate.specs.Faults.{woven_of}
use Rattle.spa_translate.proofs.Intervals.{keeps_apart}
use Rattle.spa_translate.proofs.Fit.{laid_region}
use Rattle.spa_translate.proofs.laws.intervals_apart.Goals as goal

pub returns : goal.returns
returns c = λ platform region usable none.
    let is = laid_region platform region platform.tables usable none in
    keeps_apart is.0 is.1 is.2 (woven_of platform.tables region) is.3
