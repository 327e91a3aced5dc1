use Rattle.std.proofs.Common.{false, sym, subst, ◌∙◌}
use Rattle.std.specs.List.{All}
use Rattle.rig_trait.specs.Areas.{Areas}
use Rattle.module_flips.specs.Stored.{StandsIn}
use Rattle.namespace_core.proofs.Standing.{current-is}
use Rattle.namespace_core.proofs.session.Session.start.Goals as goal

pub returns-in-Ok-clause-current : goal.returns-in-Ok-clause-current
returns-in-Ok-clause-current g c = λ told.
    let has = c.in-Ok.ensures in
    let read = c.read_state.ensures.reads_only in
    current-is g.R.Shown c.read_state.new.rig c.args.platform c.in-Ok.sets false (record { regions = has.regions; modules = has.modules }) (read.goes_on.tells ∙ told)
    (subst (λ (areas : Areas). All (StandsIn areas) c.in-Ok.sets.modules) (sym read.areas) (has.areas told))
