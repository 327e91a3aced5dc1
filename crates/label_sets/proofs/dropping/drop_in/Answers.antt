use Rattle.label_sets.proofs.OwnRanges.{known-again, range-inside, range-taken, some-range}
use Rattle.label_sets.proofs.dropping.drop_in.Goals as goal

pub give_back-requires-clause-some : goal.give_back-requires-clause-some
give_back-requires-clause-some g c = some-range c.args.modules.now c.args.regions.now c.args.free.now c.args.ready c.args.place c.args.region.now c.args.uuid.now c.requires.drop c.in-Some.range c.in-Some.ensures

pub give_back-requires-clause-inside : goal.give_back-requires-clause-inside
give_back-requires-clause-inside g c = range-inside c.args.modules.now c.args.regions.now c.args.free.now c.args.ready c.args.place c.args.region.now c.args.uuid.now c.requires.drop c.in-Some.range c.in-Some.ensures

pub give_back-requires-clause-taken : goal.give_back-requires-clause-taken
give_back-requires-clause-taken g c = range-taken c.args.modules.now c.args.regions.now c.args.free.now c.args.ready c.args.place c.args.region.now c.args.uuid.now c.requires.drop c.in-Some.range c.in-Some.ensures

pub returns-in-Some-clause-free : goal.returns-in-Some-clause-free
returns-in-Some-clause-free g c =
    known-again c.args.modules.now c.args.regions.now c.args.free.now c.args.ready c.args.place c.args.region.now c.args.uuid.now c.requires.drop c.in-Some.range c.in-Some.ensures
    c.drop_labels.new.modules c.drop_labels.new.regions c.give_back.new.self c.drop_labels.ensures.together c.in-Ok.ensures.dropped c.give_back.ensures
