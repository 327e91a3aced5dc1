use Rattle.namespace_commands.proofs.OneTranslation.{module-reply-one, runs-reply-one, spa-reply-one}
use Rattle.namespace_commands.proofs.laws.one_translation.Goals as goal

pub returns-clause-to_module : goal.returns-clause-to_module
returns-clause-to_module c = λ platform index spa reply told sound a b. module-reply-one platform index sound spa reply told a b

pub returns-clause-to_spa : goal.returns-clause-to_spa
returns-clause-to_spa c = λ platform index dimm dpa reply told sound a b. spa-reply-one platform index sound dimm dpa reply told a b

pub returns-clause-to_runs : goal.returns-clause-to_runs
returns-clause-to_runs c = λ platform index spa len reply told a b. runs-reply-one platform index spa len reply told a b
