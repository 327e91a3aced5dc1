use Rattle.namespace_core.specs.Sessions.{IsCurrent}
use Rattle.command_runs.proofs.OneRun.{behind-one}
use Rattle.command_runs.proofs.laws.one_run.Goals as goal

pub returns : goal.returns
returns g c = λ run k p q sound current a b. behind-one (IsCurrent g.R.Shown c.args.rig.now c.args.session.now) current run sound k p q a b
