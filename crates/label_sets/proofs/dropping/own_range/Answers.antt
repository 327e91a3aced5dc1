use Rattle.std.proofs.Common.{Some, ap, ◌∙◌}
use Rattle.label_sets.proofs.OwnRanges.{own-range}
use Rattle.label_sets.proofs.dropping.own_range.Goals as goal

pub returns : goal.returns
returns c =
    own-range c.args.modules.now c.args.regions.now c.args.ready c.args.place c.args.uuid.now c.index-regions-place.result c.lone_range.result c.requires.ready
    (c.in_ok-ready.was ∙ ap Some c.if-branch-place.false) c.requires.within c.index-regions-place.is c.lone_range.ensures
