use Rattle.std.proofs.Common.{◌∙◌}
use Rattle.label_sets.specs.Sets.{labels_in, platform_in}
use Rattle.label_sets.proofs.Refusals.{refused-kept}
use Rattle.label_sets.proofs.sets.Sets.refusal.Goals as goal

pub returns-in-Ok-clause-refused : goal.returns-in-Ok-clause-refused
returns-in-Ok-clause-refused g c = λ told stands.
    c.refused_state.ensures
    ∙ refused-kept (platform_in c.args.self.now) (labels_in c.args.self.now) (g.R.Shown.areas c.args.rig.now) c.args.kept.now c.in-Ok.read stands (c.in-Ok.ensures.stands told) c.in-Ok.ensures.dimm
