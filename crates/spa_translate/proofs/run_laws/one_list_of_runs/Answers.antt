use Rattle.spa_translate.proofs.OneRuns.{runs-one}
use Rattle.spa_translate.proofs.run_laws.one_list_of_runs.Goals as goal

pub returns : goal.returns
returns c = λ woven spa len runs others a b. runs-one woven spa len runs others a b
